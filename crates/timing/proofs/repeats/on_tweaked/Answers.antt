use Rattle.std.proofs.Common.{◌≡◌, ℕ, length, rules}
use Rattle.block.specs.Blocks.{block}
use Rattle.cipher.specs.declared.tweak.Tweak.{Tweak}
use Rattle.timing.proofs.Worked.{worked_is}
use Rattle.timing.proofs.repeats.on_tweaked.Goals as goal

pub returns-clause-wrote : goal.returns-clause-wrote
returns-clause-wrote g c f gives =
    let w = c.args.work.now in
    let tweak : Tweak = record { head = c.read-head.result.right; body = c.read-rest.result.left } in
    let said : (r : ℕ × ℕ) (x y : ℕ) → g.S.Fn.post c.args.step (record { ref_ptr = r; now = c.make-cipher.result }, (tweak, (x, tt))) y → y ≡ f c.in_ok-key_of.field-0 tweak.head tweak.body x =
    λ r x y. gives _ _ _ _ _ c.make-cipher.ensures in
    let moved = c.repeated-block.ensures (f c.in_ok-key_of.field-0 tweak.head tweak.body) (λ x y post. search (rules, said)) in
    let key : c.in_ok-key_of.field-0 ≡ block w = search rules in
    let long : length w ≡ 64 = search rules in
    worked_is f c.args.n w c.write.new.m c.in_ok-key_of.field-0 c.repeated-block.result c.read-head.result c.read-rest.result long key c.read-head.ensures c.read-rest.ensures moved c.write.ensures
