-- The laws of a tweakable cipher by cases, from those of the three ciphers.
use Rattle.std.specs.Prelude.{◌≡◌, ℕ}
use Rattle.block.specs.Blocks.{IsBlock}
use Rattle.block.proofs.Sums.{fits_xor, xor-twice}
use Rattle.skinny.specs.Inverse as skinny
use Rattle.cascade.specs.Undone as cascade
use Rattle.ciphers.specs.declared.any.AnyCipher.{AnyCipher}
use Rattle.ciphers.specs.declared.any.AnyCipher.TheVariants.{Skinny, Cascade, Bench}
use Rattle.ciphers.specs.Ciphers.{encrypts, decrypts}

pub encrypted_fits : (c : AnyCipher) (head body x : ℕ) → IsBlock head → IsBlock body → IsBlock x → IsBlock (encrypts c head body x)
encrypted_fits (Skinny c) head body x p q r = skinny.encrypted_fits c.key head body x
encrypted_fits (Cascade c) head body x p q r = cascade.encrypted_fits c.aes.key head body x
encrypted_fits (Bench c) head body x p q r = fits_xor body x q r

pub decrypted_fits : (c : AnyCipher) (head body x : ℕ) → IsBlock head → IsBlock body → IsBlock x → IsBlock (decrypts c head body x)
decrypted_fits (Skinny c) head body x p q r = skinny.decrypted_fits c.key head body x
decrypted_fits (Cascade c) head body x p q r = cascade.decrypted_fits c.aes.key head body x
decrypted_fits (Bench c) head body x p q r = fits_xor body x q r

pub decrypt_encrypt : (c : AnyCipher) (head body x : ℕ) → IsBlock head → IsBlock body → IsBlock x → decrypts c head body (encrypts c head body x) ≡ x
decrypt_encrypt (Skinny c) head body x p q r = skinny.decrypt_encrypt c.key head body x r
decrypt_encrypt (Cascade c) head body x p q r = cascade.decrypt_encrypt c.aes.key head body x p q r
decrypt_encrypt (Bench c) head body x p q r = xor-twice body x

pub encrypt_decrypt : (c : AnyCipher) (head body x : ℕ) → IsBlock head → IsBlock body → IsBlock x → encrypts c head body (decrypts c head body x) ≡ x
encrypt_decrypt (Skinny c) head body x p q r = skinny.encrypt_decrypt c.key head body x r
encrypt_decrypt (Cascade c) head body x p q r = cascade.encrypt_decrypt c.aes.key head body x p q r
encrypt_decrypt (Bench c) head body x p q r = xor-twice body x
