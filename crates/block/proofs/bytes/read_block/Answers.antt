use Rattle.std.proofs.Common.{◌≡◌, ◌+◌, ◌-◌, take, drop, ap, ◌∙◌, arith}
use Rattle.std.specs.Int.Digits.{number_from_digits}
use Rattle.std.proofs.lemmas.List.{length-take, length-drop, take_all}
use Rattle.block.proofs.Sixteen.{number_sixteen}
use Rattle.block.proofs.bytes.read_block.Goals as goal

pub returns : goal.returns
returns c =
    let rest = drop c.args.at c.args.m.now in
    let n = c.args.at + 16 - c.args.at in
    let is : n ≡ 16 = omega arith in
    c.from_be_bytes.ensures
    ∙ number_sixteen (take 16 (take n rest)) (simp (length-take, length-drop) (omega arith))
    ∙ ap (λ k. number_from_digits 256 (take 16 (take k rest))) is
    ∙ ap (number_from_digits 256) (take_all 16 (take 16 rest) (simp length-take (omega arith)))
