use Rattle.text.proofs.Hexes.{Unhexing}
use Rattle.text.proofs.hexadecimal.bytes_of.Given as goal

abbrev pub invariant-loop-i : goal.invariant-loop-i
invariant-loop-i l = Unhexing l.text l.out l.i
