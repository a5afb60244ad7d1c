use Rattle.block.proofs.Sixteen.{spread-all}
use Rattle.skinny.specs.Running.{ordered}
use Rattle.skinny.specs.Cell.{order_step, order_is}
use Rattle.skinny.specs.Linear.{map_cells}
use Rattle.skinny.proofs.sbox.order.Goals as goal

pub returns : goal.returns
returns c = rw (← map_cells order_step ordered order_is c.args.x c.fits-x.1) (rw (← spread-all 16 c.args.x c.fits-x.0))
