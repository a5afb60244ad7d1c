use Rattle.std.proofs.Common.{inr}
use Rattle.c_api.proofs.stores.get.Goals as goal

pub returns-in-Ok : goal.returns-in-Ok
returns-in-Ok g c = let s = c.in-Ok.store in let from = c.in-Ok.ensures in inr (s.geometry, s.cipher, from.0, from.1, (_, c.get.ensures, c.tell.ensures.fields, c.tell.ensures.answer))
