use Rattle.std.proofs.Common.{length}
use Rattle.writer.proofs.write.+list.Given as goal

abbrev pub decreases-list : goal.decreases-list
decreases-list l = length l.ns.now
