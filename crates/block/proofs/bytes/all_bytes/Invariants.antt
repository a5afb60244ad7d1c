use Rattle.std.proofs.Common.{take}
use Rattle.std.specs.Int.Digits.{AllBelowBase}
use Rattle.block.proofs.bytes.all_bytes.Given as goal

abbrev pub invariant-loop-b : goal.invariant-loop-b
invariant-loop-b l = AllBelowBase 256 (take l.b-index l.m)
