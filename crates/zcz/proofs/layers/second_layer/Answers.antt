use Rattle.std.proofs.Common.{◌≡◌, suc, ◌+◌, ◌/◌, sym, ap, ◌∙◌, add-one}
use Rattle.block.specs.Places.{at, put}
use Rattle.cipher.specs.Tweaks.{tweaked}
use Rattle.mode.specs.Mode.{chain, masked, mask}
use Rattle.mode.specs.Running.{then_on}
use Rattle.mode.proofs.Passes.{turn_wrote, turn_sums, link_on}
use Rattle.zcz.proofs.layers.second_layer.Goals as goal

pub loop-i-preserved : goal.loop-i-preserved
loop-i-preserved g c =
    let S = g.D.Second.Sums in
    let E = tweaked (g.C.TweakableCipher.encrypted c.args.c.now) in
    let second = g.D.Direction.second (g.C.TweakableCipher.encrypted c.args.c.now) (g.C.TweakableCipher.decrypted c.args.c.now) in
    let i = c.loop-i.i in
    let m = c.args.m.now in
    let m₀ = c.loop-i.m in
    let st = c.args.st in
    let f = then_on (mask E st) second in
    let now = c.loop-i.invariant in
    let s : c.next_link-s.result ≡ chain E st.left ((suc i + 127) / 128) = link_on E st.left i now.link c.next_link-s.ensures in
    let wrote = c.second_at-sums.ensures.wrote ∙ ap (λ x. put m₀ i (second (suc i) (masked E st.right x (suc i) (at m₀ i)))) s in
    let sums = c.second_at-sums.ensures.sums ∙ ap (λ x. S.more c.loop-i.sums (masked E st.right x (suc i) (at m₀ i))) s in
    record {
      wrote = turn_wrote f (mask E st) S.star S.more g.met.D.Second.Sums.push i m now.wrote now.sums wrote sums;
      sums = turn_sums f (mask E st) S.star S.more g.met.D.Second.Sums.push i m now.wrote now.sums wrote sums;
      link = s ∙ ap (λ k. chain E st.left ((k + 127) / 128)) (sym (add-one i));
    }
