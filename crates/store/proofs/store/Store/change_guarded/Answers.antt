use Rattle.std.proofs.Common.{replicate, ap, ◌∙◌, arith}
use Rattle.mode.proofs.Whole.{Lawful}
use Rattle.page.proofs.Opening.{told}
use Rattle.store.proofs.Passes.{rewritten}
use Rattle.store.proofs.store.Store.change_guarded.Goals as goal

pub returns : goal.returns
returns g c =
    let cipher = g.met.C.TweakableCipher in
    let kind = g.met.R.Record in
    let from = c.args.self.now.cipher in
    let lawful : Lawful (g.C.TweakableCipher.encrypted from) (g.C.TweakableCipher.decrypted from) = record { encfits = cipher.encfits from; decfits = cipher.decfits from; decenc = cipher.decenc from; encdec = cipher.encdec from } in
    let tells = told g.R.Record kind.four.0 kind.narrow (λ r. (kind.long r).0) kind.readback kind.writeback in
    record {
      answer = rewritten g.C.TweakableCipher tells c.args.self.now.geometry from c.args.to.now lawful c.args.memory.now c.requires.sized c.all_bytes.ensures
          c.move_all.new.memory c.in_ok-look.ensures c.move_all.ensures;
      wiped = c.drop-guard-2.ensures ∙ ap (λ n. replicate n 0) (omega (arith, c.look.auto.working, c.move_all.auto.working));
    }
