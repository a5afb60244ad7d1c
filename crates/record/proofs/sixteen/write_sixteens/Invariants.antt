use Rattle.std.proofs.Common.{◌≡◌, ◌*◌, ◌++◌, take, drop}
use Rattle.record.specs.Sixteens.{sixteens}
use Rattle.record.proofs.sixteen.write_sixteens.Given as goal

abbrev pub invariant-loop-k : goal.invariant-loop-k
invariant-loop-k l = l.out ≡ sixteens (take l.k l.numbers) ++ drop (2 * l.k) l.initial.out
