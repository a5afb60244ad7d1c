use Rattle.std.proofs.Common.{length, ◌∙◌, inr}
use Rattle.mode.specs.Permutes.{admitted}
use Rattle.c_api.proofs.Sent.{sent_is}
use Rattle.c_api.proofs.messages.on_message.Goals as goal

pub returns-in-Ok : goal.returns-in-Ok
returns-in-Ok g c f leads =
    let done = leads _ _ _ _ c.way.ensures in
    inr (c.in-Ok.cipher, c.in-Ok.ensures, (done.0, c.tell.ensures ∙ sent_is (admitted (length c.args.message.now)) c.way.result done.1))
