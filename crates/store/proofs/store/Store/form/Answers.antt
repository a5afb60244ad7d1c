use Rattle.std.proofs.Common.{rules}
use Rattle.calls.proofs.Plain.{Laws}
use Rattle.calls.proofs.Standing.{law}
use Rattle.store.proofs.store.Store.form.Given as given
use Rattle.store.proofs.store.Store.form.Goals as goal

laws : (g : given.Over) → Laws g.C.TweakableCipher g.R.Record
laws g =
    let cipher = g.met.C.TweakableCipher in
    let kind = g.met.R.Record in
    record {
      inverse = λ c. record { encfits = cipher.encfits c; decfits = cipher.decfits c; decenc = cipher.decenc c; encdec = cipher.encdec c };
      four = kind.four;
      narrow = kind.narrow;
      long = kind.long;
      readback = kind.readback;
      writeback = kind.writeback;
    }

pub returns-in_err-check_memory : goal.returns-in_err-check_memory
returns-in_err-check_memory g c = record { does = search rules; law = law (laws g) }

pub returns : goal.returns
returns g c = record { does = (search rules, c.write_all.ensures.0, c.write_all.ensures.1); law = law (laws g) }
