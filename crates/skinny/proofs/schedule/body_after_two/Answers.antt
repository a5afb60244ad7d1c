use Rattle.std.proofs.Common.{◌≡◌, map}
use Rattle.block.proofs.Sixteen.{spread-all}
use Rattle.skinny.specs.Skinny.{lfsr2}
use Rattle.skinny.specs.Running.{twice}
use Rattle.skinny.specs.Cell.{lfsr2_step, lfsr2_is}
use Rattle.skinny.specs.Linear.{map_cells}
use Rattle.skinny.proofs.schedule.body_after_two.Goals as goal

pub returns : goal.returns
returns c =
    let t = c.args.t in
    let both : twice (map lfsr2 t) ≡ map lfsr2 (twice t) = rw (← spread-all 16 t c.fits-t.0) in
    simp c.head_after_two.ensures (rw (← both, ← map_cells lfsr2_step lfsr2 lfsr2_is t c.fits-t.1) (rw (← spread-all 16 t c.fits-t.0)))
