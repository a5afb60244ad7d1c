use Rattle.std.proofs.Common.{refl}
use Rattle.skinny.specs.Skinny.{next, constant_at}
use Rattle.skinny.proofs.constants.table.Goals as goal

-- one test of the whole table
pub returns : goal.returns
unfolding next constant_at
returns c = refl
