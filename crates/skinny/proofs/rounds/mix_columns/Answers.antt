use Rattle.block.proofs.Sixteen.{spread-all}
use Rattle.skinny.specs.Skinny.{row}
use Rattle.skinny.specs.Linear.{mix-turned}
use Rattle.skinny.proofs.rounds.mix_columns.Goals as goal

pub returns : goal.returns
returns c =
    let x = c.args.x in
    rw (mix-turned (row 0 x) (row 1 x) (row 2 x) (row 3 x)) (rw (← spread-all 16 x c.fits-x.0))
