use Rattle.std.proofs.Common.{◌≡◌, ℕ, List}
use Rattle.block.specs.Blocks.{block}
use Rattle.timing.specs.Repeats.{iterated}
use Rattle.timing.specs.Steps.{GivesMessages}
use Rattle.timing.proofs.repeats.on_message.Given as goal

abbrev pub invariant-loop-i : goal.invariant-loop-i
invariant-loop-i g l = (f : ℕ → List ℕ → List ℕ) → GivesMessages (goal.M-post g l.fn.make) (goal.S-post g l.step) f → l.message ≡ iterated l._i (f (block l.key)) l.initial.message
