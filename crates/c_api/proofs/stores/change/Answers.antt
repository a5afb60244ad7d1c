use Rattle.std.proofs.Common.{inr}
use Rattle.c_api.proofs.stores.change.Goals as goal

pub returns-in-Ok : goal.returns-in-Ok
returns-in-Ok g c =
    let r = c.in-Ok.rekeying in
    let from = c.in-Ok.ensures in
    inr (r.store.geometry, r.store.cipher, r.to, from.0, from.1, from.2, (_, _, c.change.ensures.does, c.done.ensures))
