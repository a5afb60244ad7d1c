use Rattle.std.proofs.Common.{◌≡◌, ℕ}
use Rattle.timing.specs.Repeats.{iterated}
use Rattle.timing.specs.Steps.{Gives}
use Rattle.timing.proofs.repeats.repeated.Given as goal

abbrev pub invariant-loop-i : goal.invariant-loop-i
invariant-loop-i g l = (f : ℕ → ℕ) → Gives (goal.F-post g l.step) f → l.x ≡ iterated l._i f l.block
