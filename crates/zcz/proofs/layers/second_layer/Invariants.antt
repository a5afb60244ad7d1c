use Rattle.std.proofs.Common.{◌≡◌, ◌+◌, ◌/◌}
use Rattle.block.specs.Blocks.{reads}
use Rattle.cipher.specs.Tweaks.{tweaked}
use Rattle.mode.specs.Mode.{each, chain, mask}
use Rattle.mode.specs.Running.{passed, then_on}
use Rattle.zcz.proofs.layers.second_layer.Given as goal

abbrev pub invariant-loop-i : goal.invariant-loop-i
invariant-loop-i g l =
    let E = tweaked (g.C.TweakableCipher.encrypted l.c) in
    let second = g.D.Direction.second (g.C.TweakableCipher.encrypted l.c) (g.C.TweakableCipher.decrypted l.c) in
    record {
      wrote : l.m ≡ passed (then_on (mask E l.st) second) l.i l.initial.m;
      sums : l.sums ≡ g.D.Second.Sums.star (each (mask E l.st) 1 (reads l.i l.initial.m));
      link : l.s ≡ chain E l.st.left ((l.i + 127) / 128);
    }
