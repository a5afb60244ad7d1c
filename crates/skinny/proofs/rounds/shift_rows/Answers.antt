use Rattle.block.proofs.Sixteen.{spread-all}
use Rattle.skinny.proofs.rounds.shift_rows.Goals as goal

pub returns : goal.returns
returns c = simp c.down-odd.ensures (rw (← spread-all 16 c.args.x c.fits-x.0))
