use Rattle.std.proofs.Common.{◌+◌, ◌-◌, ◌*◌, ◌/◌, ◌++◌, length, take, drop, sym, refl, ap, ◌∙◌, ap₂}
use Rattle.block.specs.Blocks.{add, write}
use Rattle.block.specs.Places.{put}
use Rattle.cipher.specs.Tweaks.{tweaked}
use Rattle.mode.specs.Parts.{onto}
use Rattle.mode.specs.Mode.{hash, hash_of_tail}
use Rattle.mode.proofs.Ends.{whole_is}
use Rattle.zcz.proofs.sealing.run.Goals as goal

pub returns : goal.returns
returns g c =
    let f = g.C.TweakableCipher.encrypted c.args.c.now in
    let h = g.C.TweakableCipher.decrypted c.args.c.now in
    let E = tweaked f in
    let D = g.D.Direction in
    let met = g.met.D.Direction in
    let m = c.args.m.now in
    let n = length m / 32 - 1 in
    let e = 32 * n + 32 in
    let new = c.core-new.result in
    let m₁ = c.core-new.new.m in
    let m₂ = c.mask_tail.new.m in
    whole_is (D.core f h) (hash_of_tail E D.BEFORE) (hash_of_tail E D.AFTER) (λ a b. write (hash E 2 (add a b)))
    (met.as_many f h) m c.requires.long n refl
    c.bitxor-last.result m₁ new m₂ c.write.new.m
    (c.bitxor-last.ensures ∙ ap₂ add c.read.ensures (c.tail_hash.ensures ∙ ap (λ k. hash_of_tail E k (drop e m)) c.BEFORE.ensures))
    c.core-new.ensures.wrote c.core-new.ensures.last
    (c.mask_tail.ensures ∙ ap (λ d. take e m₁ ++ onto (drop e m₁) (write (hash E 2 d))) c.bitxor.ensures)
    (c.write.ensures ∙ ap (put m₂ n) (c.bitxor-2.ensures ∙ ap (add new) (c.tail_hash-h.ensures ∙ ap (λ k. hash_of_tail E k (drop e m₂)) c.AFTER.ensures)))
    ∙ sym (met.whole_is f h m)
