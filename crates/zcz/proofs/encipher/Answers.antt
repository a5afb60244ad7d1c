use Rattle.std.proofs.Common.{◌≡◌, sym, ap, ◌∙◌, rules}
use Rattle.mode.specs.Permutes.{enciphered, deciphered}
use Rattle.mode.proofs.Whole.{Lawful, is_enciphered, enciphered_back, not_enciphered, not_deciphered, permutes}
use Rattle.zcz.proofs.encipher.Goals as goal

pub returns-in_err-admit : goal.returns-in_err-admit
returns-in_err-admit g c =
    let x = c.args.c.now in
    let f = g.C.TweakableCipher.encrypted x in
    let h = g.C.TweakableCipher.decrypted x in
    let met = g.met.C.TweakableCipher in
    let laws : Lawful f h = record { encfits = met.encfits x; decfits = met.decfits x; decenc = met.decenc x; encdec = met.encdec x } in
    let m = c.args.message.now in
    let out = c.in_err-admit.ensures.1 in
    record {
      answer = search rules;
      wrote = sym (not_enciphered f h laws m out);
      back = not_deciphered f h laws m out;
      permutes = permutes f h laws;
    }

pub returns : goal.returns
returns g c =
    let x = c.args.c.now in
    let f = g.C.TweakableCipher.encrypted x in
    let h = g.C.TweakableCipher.decrypted x in
    let met = g.met.C.TweakableCipher in
    let laws : Lawful f h = record { encfits = met.encfits x; decfits = met.decfits x; decenc = met.decenc x; encdec = met.encdec x } in
    let m = c.args.message.now in
    let ok = c.in_ok-admit.ensures in
    let wrote : c.run.new.m ≡ enciphered f m = c.run.ensures ∙ sym (is_enciphered f h laws m ok) in
    record {
      answer = search rules;
      wrote = wrote;
      back = ap (deciphered f h) wrote ∙ enciphered_back f h laws m ok;
      permutes = permutes f h laws;
    }
