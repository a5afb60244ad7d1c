use Rattle.std.proofs.Common.{ap, ◌∙◌, arith}
use Rattle.mode.specs.Permutes.{enciphered, deciphered}
use Rattle.calls.proofs.Placing.{only_part, part-page, part_long}
use Rattle.store.proofs.store.Store.move_page.Goals as goal

pub returns : goal.returns
returns g c =
    let 𝒸 = g.C.TweakableCipher in
    let from = c.args.self.now.cipher in
    let to = c.args.to.now in
    let w = c.args.self.now.geometry.page in
    let m = c.args.memory.now in
    let k = c.args.slot in
    let s = c.range.ensures.start in
    let e = c.range.ensures.end in
    only_part w k m c.copy_from_slice-2.new.self c.range.result.start c.range.result.end _ s e
    (omega (arith, c.copy_from_slice-2.auto.self, part_long w k m _ _ s e (omega arith)))
    (omega arith)
    (c.copy_from_slice-2.ensures.after ∙ c.encipher.ensures.wrote
    ∙ ap (enciphered (𝒸.encrypted to)) (c.decipher.ensures.wrote
    ∙ ap (deciphered (𝒸.encrypted from) (𝒸.decrypted from)) (c.copy_from_slice.ensures.after ∙ part-page w k m _ _ s e)))
