use Rattle.std.proofs.Common.{◌≡◌, rules}
use Rattle.block.specs.Blocks.{block}
use Rattle.timing.proofs.repeats.on_message.Goals as goal

pub loop-i-preserved : goal.loop-i-preserved
loop-i-preserved g c f gives =
    let key : c.in_ok-key_of.field-0 ≡ block c.args.key.now = search rules in
    let left = gives _ _ _ _ _ c.make-cipher.ensures c.step.ensures in
    search (rules, c.loop-i.invariant f gives)
