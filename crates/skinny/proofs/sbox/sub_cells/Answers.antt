use Rattle.block.proofs.Sixteen.{spread-all}
use Rattle.skinny.specs.Sbox.{sub}
use Rattle.skinny.specs.Cell.{sub_step, sub_is}
use Rattle.skinny.specs.Linear.{map_cells}
use Rattle.skinny.proofs.sbox.sub_cells.Goals as goal

pub returns : goal.returns
returns c = rw (← map_cells sub_step sub sub_is c.args.x c.fits-x.1) (simp c.order.ensures (rw (← spread-all 16 c.args.x c.fits-x.0)))
