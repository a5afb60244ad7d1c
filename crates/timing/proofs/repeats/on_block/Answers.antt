use Rattle.std.proofs.Common.{◌≡◌, ℕ, rules}
use Rattle.block.specs.Blocks.{block}
use Rattle.timing.proofs.repeats.on_block.Goals as goal

pub returns-clause-wrote : goal.returns-clause-wrote
returns-clause-wrote g c f gives =
    let w = c.args.work.now in
    let said : (r : ℕ × ℕ) (x y : ℕ) → g.S.Fn.post c.args.step (record { ref_ptr = r; now = c.make-cipher.result }, (x, tt)) y → y ≡ f c.in_ok-key_of.field-0 x =
    λ r x y. gives _ _ _ _ c.make-cipher.ensures in
    let moved = c.repeated-block.ensures (f c.in_ok-key_of.field-0) (λ x y post. search (rules, said)) in
    let key : c.in_ok-key_of.field-0 ≡ block w = search rules in
    search rules
