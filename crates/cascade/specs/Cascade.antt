-- AES-128 three times under one key, with the head added to the block after the first and the body after the second.
use Rattle.std.specs.Prelude.{ℕ}
use Rattle.std.specs.Int.Bits.{bit_xor}
use Rattle.aes.specs.Aes.{aes_encrypted, aes_decrypted}

abbrev pub cascade_encrypted : (key head body x : ℕ) → ℕ
cascade_encrypted key head body x = aes_encrypted key (bit_xor body (aes_encrypted key (bit_xor head (aes_encrypted key x))))

abbrev pub cascade_decrypted : (key head body x : ℕ) → ℕ
cascade_decrypted key head body x = aes_decrypted key (bit_xor head (aes_decrypted key (bit_xor body (aes_decrypted key x))))
