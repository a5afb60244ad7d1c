use Rattle.std.proofs.Common.{w8}
use Rattle.std.proofs.lemmas.Simd.{below_from_Fits}
use Rattle.skinny.proofs.Moved.{three_down}
use Rattle.skinny.proofs.rounds.down.Goals as goal

pub returns : goal.returns
returns c = three_down c.args.x c.fits-x.0 (below_from_Fits w8 c.args.x c.fits-x.1)
