use Rattle.std.proofs.Common.{refl}
use Rattle.session.specs.States.{start}
use Rattle.line.proofs.bench.Bench.new.Goals as goal

pub returns : goal.returns
unfolding start
returns c = refl
