use Rattle.std.proofs.Common.{◌≡◌, suc, ◌+◌, ◌*◌, ◌/◌, ◌%◌, ◌++◌, get_or, take, drop, set, ap, ◌∙◌, ap₂, add-one, arith}
use Rattle.record.specs.Numbers.{set_two, bytes_two}
use Rattle.record.proofs.sixteen.write_sixteen.Goals as goal

pub returns : goal.returns
returns c =
    let m = c.args.out.now in
    let i = 2 * c.args.k in
    let n = c.args.n in
    let on : suc (suc i) ≡ i + 2 = omega arith in
    let high : get_or c.to_be_bytes.result 0 0 ≡ n / 256 % 256 = ap (λ l. get_or l 0 0) c.to_be_bytes.ensures ∙ omega arith in
    let low : get_or c.to_be_bytes.result 1 0 ≡ n % 256 = ap (λ l. get_or l 1 0) c.to_be_bytes.ensures ∙ omega arith in
    ap₂ (λ a b. set (set m i a) (i + 1) b) high low
    ∙ ap (λ j. set (set m i (n / 256 % 256)) j (n % 256)) (add-one i)
    ∙ set_two m i (n / 256 % 256) (n % 256) c.requires
    ∙ ap₂ (λ x j. take i m ++ (x ++ drop j m)) (bytes_two n) on
