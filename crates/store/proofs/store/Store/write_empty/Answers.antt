use Rattle.std.proofs.Common.{None, ap, ◌∙◌, arith}
use Rattle.mode.specs.Permutes.{enciphered}
use Rattle.page.specs.Pages.{plain}
use Rattle.calls.proofs.Placing.{only_part, part_long}
use Rattle.store.proofs.store.Store.write_empty.Goals as goal

pub returns : goal.returns
returns g c =
    let w = c.args.self.now.geometry.page in
    let m = c.args.memory.now in
    let k = c.args.slot in
    let s = c.range.ensures.start in
    let e = c.range.ensures.end in
    let long = part_long w k m _ _ s e (omega arith) in
    only_part w k m c.seal_empty.new.page c.range.result.start c.range.result.end _ s e
    (omega (arith, c.seal_empty.auto.page, long))
    (omega arith)
    (c.seal_empty.ensures.wrote
    ∙ ap (λ n. enciphered (g.C.TweakableCipher.encrypted c.args.self.now.cipher) (plain g.R.Record n k None)) long)
