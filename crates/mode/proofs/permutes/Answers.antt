use Rattle.mode.proofs.Whole.{permutes}
use Rattle.mode.proofs.permutes.Goals as goal

pub returns : goal.returns
returns g c =
    let laws = g.met.C.TweakableCipher in
    let x = c.args.c.now in
    permutes _ _ (record { encfits = laws.encfits x; decfits = laws.decfits x; decenc = laws.decenc x; encdec = laws.encdec x })
