use Rattle.std.proofs.Common.{Ok, Err, refl}
use Rattle.std.proofs.lemmas.Result.{err_from_is_err_and}
use Rattle.line.proofs.serve.change.Goals as goal

pub returns-in_err-change-clause-does : goal.returns-in_err-change-clause-does
returns-in_err-change-clause-does c =
    let p = err_from_is_err_and c.from_residual.result c.from_residual.ensures.1 in
    (c.rekeyed-to.result, c.rekeyed-to.ensures, (Err c.in_err-change.field-0.0, c.in_err-change.ensures.does, rw (p.1, p.2) refl))

pub returns-clause-does : goal.returns-clause-does
returns-clause-does c = (c.rekeyed-to.result, c.rekeyed-to.ensures, (Ok tt, c.in_ok-change.ensures.does, refl))
