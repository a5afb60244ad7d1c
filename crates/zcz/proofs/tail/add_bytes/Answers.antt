use Rattle.std.proofs.Common.{◌++◌, get_or, take, drop, set, sym, ap, ◌∙◌, add-one}
use lib.Bits.{bit_xor}
use Rattle.mode.specs.Parts.{onto}
use Rattle.mode.proofs.Ends.{onto_more}
use Rattle.zcz.proofs.tail.add_bytes.Goals as goal

pub loop-i-preserved : goal.loop-i-preserved
loop-i-preserved c =
    let t = c.args.t.now in
    let a = c.args.a.now in
    let i = c.loop-i.i in
    ap (λ x. set x i (bit_xor (get_or x i 0) (get_or a i 0))) c.loop-i.invariant
    ∙ onto_more i t a c.loop-i-test.true c.requires
    ∙ ap (λ k. onto (take k t) a ++ drop k t) (sym (add-one i))
