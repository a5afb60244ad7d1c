use Rattle.std.proofs.Common.{◌+◌, ◌*◌, take}
use Rattle.text.specs.Texts.{hex}
use Rattle.writer.specs.Writes.{Written}
use Rattle.writer.proofs.write.hexadecimal.Given as goal

abbrev pub invariant-loop-i : goal.invariant-loop-i
invariant-loop-i l = Written l.initial.out l.at (hex (take l.i l.bytes)) l.out (l.at + 2 * l.i)
