use Rattle.std.proofs.Common.{length, Some, ap, ◌∙◌}
use Rattle.mode.specs.Permutes.{enciphered}
use Rattle.page.proofs.Opening.{told}
use Rattle.seal.proofs.Back.{sealed_says}
use Rattle.seal.proofs.seal_record.Goals as goal

pub returns : goal.returns
returns g c =
    let laws = g.met.R.Record in
    let n = length c.args.page.now in
    record {
      wrote = c.encipher.ensures.wrote ∙ ap (enciphered (g.C.TweakableCipher.encrypted c.args.c.now)) c.lay_record.ensures;
      back = sealed_says g.R.Record (told g.R.Record laws.four.0 laws.narrow (λ r. (laws.long r).0) laws.readback laws.writeback)
          n c.args.slot (Some c.args.content.now) c.requires.long _ (c.encipher.ensures.back ∙ c.lay_record.ensures);
    }
