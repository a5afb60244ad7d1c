use Rattle.block.proofs.Sixteen.{spread-all}
use Rattle.skinny.specs.Running.{unordered}
use Rattle.skinny.specs.Cell.{unorder_step, unorder_is}
use Rattle.skinny.specs.Linear.{map_cells}
use Rattle.skinny.proofs.sbox.unorder.Goals as goal

pub returns : goal.returns
returns c = rw (← map_cells unorder_step unordered unorder_is c.args.x c.fits-x.1) (rw (← spread-all 16 c.args.x c.fits-x.0))
