use Rattle.std.proofs.Common.{◌≡◌}
use Rattle.std.specs.Iterator.Adapters.{rev_source}
use Rattle.std.specs.Slice.Iter.{iter_rest}
use Rattle.skinny.specs.Skinny.{unrounds}
use Rattle.skinny.specs.Pairs.{in_turn}
use Rattle.skinny.proofs.Skinny.decrypt_cells.Given as goal

-- the rounds that are left to undo
abbrev pub invariant-loop-sums : goal.invariant-loop-sums
invariant-loop-sums l = unrounds (in_turn (iter_rest (rev_source l.sums-iterator))) l.state ≡ unrounds (in_turn (iter_rest (rev_source l.initial.sums-iterator))) l.initial.state
