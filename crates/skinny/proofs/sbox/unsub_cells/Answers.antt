use Rattle.block.proofs.Sixteen.{spread-all}
use Rattle.skinny.specs.Sbox.{unsub}
use Rattle.skinny.specs.Cell.{unsub_step, unsub_is}
use Rattle.skinny.specs.Linear.{map_cells}
use Rattle.skinny.proofs.sbox.unsub_cells.Goals as goal

pub returns : goal.returns
returns c = rw (← map_cells unsub_step unsub unsub_is c.args.x c.fits-x.1) (simp c.unorder.ensures (rw (← spread-all 16 c.args.x c.fits-x.0)))
