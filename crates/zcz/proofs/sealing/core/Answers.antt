use Rattle.std.proofs.Common.{◌≡◌, ℕ, suc, ◌*◌, List, ◌++◌, drop, sym, ap, ◌∙◌, ap₂, add-one}
use Rattle.block.specs.declared.diblock.DiBlock.{DiBlock}
use Rattle.block.specs.Blocks.{add, reads, writes}
use Rattle.block.proofs.Sums.{AllBlocks}
use Rattle.block.proofs.OnBytes.{fits_reads}
use Rattle.cipher.specs.Tweaks.{tweaked}
use Rattle.mode.specs.Mode.{each, mask}
use Rattle.mode.proofs.Layers.{each_fits}
use Rattle.mode.proofs.Passes.{run_wrote, run_last}
use Rattle.mode.proofs.Whole.{Lawful}
use Rattle.zcz.proofs.sealing.core.Goals as goal

pub returns : goal.returns
returns g c =
    let x = c.args.c.now in
    let met = g.met.C.TweakableCipher in
    let f = g.C.TweakableCipher.encrypted x in
    let h = g.C.TweakableCipher.decrypted x in
    let laws : Lawful f h = record { encfits = met.encfits x; decfits = met.decfits x; decenc = met.decenc x; encdec = met.encdec x } in
    let D = g.D.Direction in
    let first = D.first f h in
    let middle = D.middle f h in
    let K = mask (tweaked f) in
    let finish = D.finish f h in
    let second = D.second f h in
    let X = g.D.First.Sums in
    let Y = g.D.Second.Sums in
    let s : ℕ → List DiBlock → DiBlock = λ n ds. X.crossed f n (X.star ds) in
    let t : ℕ → List DiBlock → DiBlock = λ n ds. Y.crossed f n (Y.star ds) in
    let n = c.args.n in
    let m = c.args.m.now in
    let last = c.args.last in
    let st = c.middle-st.result in
    let m₁ = c.first_layer-first.new.m in
    let m₂ = c.second_layer-second.new.m in
    let one = add-one n in
    let ok : AllBlocks (each first 1 (reads n m)) = each_fits first (g.met.D.Direction.fits f h laws) 1 (reads n m) (fits_reads n m c.requires.bytes) in
    let mid : st ≡ middle (suc n) (add last (s (suc n) (each first 1 (reads n m)))) =
    c.middle-st.ensures ∙ ap₂ middle one (c.bitxor.ensures ∙ ap (add last) (c.cross.ensures ∙ ap₂ (X.crossed f) one c.first_layer-first.ensures.sums)) in
    let end : c.bitxor-2.result ≡ add (finish (suc n) st) (t (suc n) (each (K st) 1 (reads n m₁))) =
    c.bitxor-2.ensures ∙ ap₂ add (c.finish.ensures ∙ ap (λ k. finish k st) one) (c.cross-2.ensures ∙ ap₂ (Y.crossed f) one c.second_layer-second.ensures.sums) in
    let is = g.met.D.Direction.core_is f h (reads n m) last in
    record {
      wrote = run_wrote first middle K finish second s t n m last m₁ st m₂ c.bitxor-2.result ok c.first_layer-first.ensures.wrote mid c.second_layer-second.ensures.wrote end ∙ ap (λ r. writes r.0 ++ drop (32 * n) m) (sym is);
      last = run_last first middle K finish second s t n m last m₁ st m₂ c.bitxor-2.result ok c.first_layer-first.ensures.wrote mid c.second_layer-second.ensures.wrote end ∙ ap (λ r. r.1) (sym is);
    }
