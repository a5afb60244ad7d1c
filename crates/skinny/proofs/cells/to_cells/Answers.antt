use Rattle.std.proofs.Common.{rules}
use Rattle.skinny.specs.Skinny.{cells_of}
use Rattle.skinny.proofs.cells.to_cells.Goals as goal

pub returns : goal.returns
unfolding cells_of
returns c = search rules
