use Rattle.std.proofs.Common.{◌≡◌, ◌++◌, take, drop}
use Rattle.mode.specs.Parts.{onto}
use Rattle.zcz.proofs.tail.add_bytes.Given as goal

abbrev pub invariant-loop-i : goal.invariant-loop-i
invariant-loop-i l = l.t ≡ onto (take l.i l.initial.t) l.a ++ drop l.i l.initial.t
