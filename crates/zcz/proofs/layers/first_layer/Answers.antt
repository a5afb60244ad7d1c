use Rattle.mode.proofs.Passes.{turn_wrote, turn_sums}
use Rattle.zcz.proofs.layers.first_layer.Goals as goal

pub loop-i-preserved : goal.loop-i-preserved
loop-i-preserved g c =
    let S = g.D.First.Sums in
    let f = g.D.Direction.first (g.C.TweakableCipher.encrypted c.args.c.now) (g.C.TweakableCipher.decrypted c.args.c.now) in
    let now = c.loop-i.invariant in
    let turn = c.first_at-sums.ensures in
    record {
      wrote = turn_wrote f f S.star S.more g.met.D.First.Sums.push c.loop-i.i c.args.m.now now.wrote now.sums turn.wrote turn.sums;
      sums = turn_sums f f S.star S.more g.met.D.First.Sums.push c.loop-i.i c.args.m.now now.wrote now.sums turn.wrote turn.sums;
    }
