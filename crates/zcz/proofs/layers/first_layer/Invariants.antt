use Rattle.std.proofs.Common.{◌≡◌}
use Rattle.block.specs.Blocks.{reads}
use Rattle.mode.specs.Mode.{each}
use Rattle.mode.specs.Running.{passed}
use Rattle.zcz.proofs.layers.first_layer.Given as goal

abbrev pub invariant-loop-i : goal.invariant-loop-i
invariant-loop-i g l =
    let f = g.D.Direction.first (g.C.TweakableCipher.encrypted l.c) (g.C.TweakableCipher.decrypted l.c) in
    record {
      wrote : l.m ≡ passed f l.i l.initial.m;
      sums : l.sums ≡ g.D.First.Sums.star (each f 1 (reads l.i l.initial.m));
    }
