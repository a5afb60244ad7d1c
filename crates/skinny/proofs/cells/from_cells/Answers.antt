use Rattle.std.proofs.Common.{◌∙◌}
use Rattle.block.proofs.Sixteen.{number_sixteen}
use Rattle.skinny.specs.Skinny.{block_of}
use Rattle.skinny.proofs.cells.from_cells.Goals as goal

pub returns : goal.returns
unfolding block_of
returns c = c.from_be_bytes.ensures ∙ number_sixteen c.args.x c.fits-x.0
