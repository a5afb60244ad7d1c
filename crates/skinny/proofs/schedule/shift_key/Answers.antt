use Rattle.block.proofs.Sixteen.{spread-all}
use Rattle.skinny.specs.Skinny.{lfsr3}
use Rattle.skinny.specs.Cell.{lfsr3_step, lfsr3_is}
use Rattle.skinny.specs.Linear.{on_top_cells}
use Rattle.skinny.proofs.schedule.shift_key.Goals as goal

pub returns : goal.returns
returns c = rw (← on_top_cells lfsr3_step lfsr3 lfsr3_is c.args.t c.fits-t.1) (rw (← spread-all 16 c.args.t c.fits-t.0))
