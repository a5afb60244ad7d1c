use Rattle.std.proofs.Common.{ap, ◌∙◌}
use Rattle.mode.specs.Permutes.{deciphered}
use Rattle.page.specs.Pages.{opened_at}
use Rattle.calls.proofs.Placing.{part-page}
use Rattle.store.proofs.store.Store.read_page.Goals as goal

pub returns : goal.returns
returns g c =
    let 𝒸 = g.C.TweakableCipher in
    let 𝓇 = g.R.Record in
    let key = c.args.self.now.cipher in
    let w = c.args.self.now.geometry.page in
    let m = c.args.memory.now in
    let k = c.args.slot in
    c.unseal.ensures.answer
    ∙ ap (λ x. opened_at 𝓇 k (deciphered (𝒸.encrypted key) (𝒸.decrypted key) x)) (c.copy_from_slice.ensures.after ∙ part-page w k m _ _ c.range.ensures.start c.range.ensures.end)
