use Rattle.page.proofs.Opening.{told}
use Rattle.page.proofs.plain.open.Goals as goal

pub returns-clause-told : goal.returns-clause-told
returns-clause-told g c =
    let laws = g.met.R.Record in
    told g.R.Record laws.four.0 laws.narrow (λ r. (laws.long r).0) laws.readback laws.writeback
