-- The three ciphers by their names, and a cipher that is one of them.
use Rattle.std.specs.Prelude.{◌≡◌, ℕ}
use Rattle.cipher.specs.Bench.{bench_sum}
use Rattle.skinny.specs.Skinny.{encrypt_block, decrypt_block}
use Rattle.cascade.specs.Cascade.{cascade_encrypted, cascade_decrypted}
use Rattle.ciphers.specs.declared.name.CipherName.{CipherName}
use Rattle.ciphers.specs.declared.name.CipherName.TheVariants as name
use Rattle.ciphers.specs.declared.any.AnyCipher.{AnyCipher}
use Rattle.ciphers.specs.declared.any.AnyCipher.TheVariants.{Skinny, Cascade, Bench}

-- the two functions of each cipher under a key; the bench cipher has no key
abbrev pub encryption : CipherName → (key head body x : ℕ) → ℕ
encryption name.Skinny key = encrypt_block key
encryption name.Cascade key = cascade_encrypted key
encryption name.Bench key = bench_sum

abbrev pub decryption : CipherName → (key head body x : ℕ) → ℕ
decryption name.Skinny key = decrypt_block key
decryption name.Cascade key = cascade_decrypted key
decryption name.Bench key = bench_sum

-- those of a cipher at hand
abbrev pub encrypts : AnyCipher → (head body x : ℕ) → ℕ
encrypts (Skinny c) = encrypt_block c.key
encrypts (Cascade c) = cascade_encrypted c.aes.key
encrypts (Bench c) = bench_sum

abbrev pub decrypts : AnyCipher → (head body x : ℕ) → ℕ
decrypts (Skinny c) = decrypt_block c.key
decrypts (Cascade c) = cascade_decrypted c.aes.key
decrypts (Bench c) = bench_sum

abbrev pub name_of : AnyCipher → CipherName
name_of (Skinny c) = name.Skinny
name_of (Cascade c) = name.Cascade
name_of (Bench c) = name.Bench

-- a cipher is that of this name under this key
pub record Under (n : CipherName) (key : ℕ) (c : AnyCipher) : Type 0 where
  pub named : name_of c ≡ n
  pub encrypting : encrypts c ≡ encryption n key
  pub decrypting : decrypts c ≡ decryption n key
