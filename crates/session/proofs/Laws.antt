-- What the store's law asks of a cipher and of a kind, for the three ciphers and for sheets.
use Rattle.std.proofs.Common.{refl, arith, rules}
use Rattle.record.specs.Fields.{list_of}
use Rattle.record.specs.contracts.sheet.making.SheetRecord.TheImpl as sheet
use Rattle.record.specs.Numbers.{under_sixteens}
use Rattle.record.specs.Reading.{read_written, written_read}
use Rattle.ciphers.specs.contracts.any.AnyCipherTweakableCipher.TheImpl as any
use Rattle.ciphers.specs.Inverse.{encrypted_fits, decrypted_fits, decrypt_encrypt, encrypt_decrypt}
use Rattle.calls.specs.Runs.{Law}
use Rattle.calls.proofs.Plain.{Laws}
use Rattle.calls.proofs.Standing.{law}

laws : Laws any.ghosts sheet.ghosts
laws =
    record {
      inverse = λ c. record { encfits = encrypted_fits c; decfits = decrypted_fits c; decenc = decrypt_encrypt c; encdec = encrypt_decrypt c };
      four = search rules;
      narrow = (omega arith, omega arith);
      long = λ s. (refl, under_sixteens (list_of s.fields));
      readback = read_written;
      writeback = written_read;
    }

pub stored : Law any.ghosts sheet.ghosts
stored = law laws
