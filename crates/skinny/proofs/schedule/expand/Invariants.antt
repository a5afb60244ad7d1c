use Rattle.std.proofs.Common.{◌≡◌, ◌-◌, ◌*◌, ◌++◌, length, take}
use Rattle.skinny.specs.Running.{key_part}
use Rattle.skinny.specs.Pairs.{in_turn}
use Rattle.skinny.proofs.schedule.expand.Given as goal

abbrev pub invariant-loop-i : goal.invariant-loop-i
invariant-loop-i l =
    (length l.place-items ≡ 28)
    × (in_turn (take l.i l.place-items) ++ key_part (56 - 2 * l.i) (2 * l.i) l.t ≡ key_part 56 0 l.initial.t)
