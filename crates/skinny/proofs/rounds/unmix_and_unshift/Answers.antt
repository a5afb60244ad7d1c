use Rattle.std.proofs.Common.{ap}
use Rattle.block.proofs.Sixteen.{spread-all}
use Rattle.skinny.specs.Skinny.{row, unshift_rows}
use Rattle.skinny.specs.Linear.{unmix_turned}
use Rattle.skinny.proofs.rounds.unmix_and_unshift.Goals as goal

pub returns : goal.returns
returns c =
    let x = c.args.x in
    rw (ap unshift_rows (unmix_turned (row 0 x) (row 1 x) (row 2 x) (row 3 x))) (simp c.down-odd.ensures (rw (← spread-all 16 x c.fits-x.0)))
