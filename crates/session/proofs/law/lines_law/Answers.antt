use Rattle.session.proofs.Due.{lawful}
use Rattle.session.proofs.Laws.{stored}
use Rattle.session.proofs.law.lines_law.Goals as goal

pub returns : goal.returns
returns c = lawful stored
