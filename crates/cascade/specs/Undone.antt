-- Three stages undone in turn, where each of f and g undoes the other and gives blocks.
use Rattle.std.specs.Prelude.{◌≡◌, ℕ}
use Rattle.std.proofs.Common.{ap, ◌∙◌}
use Rattle.std.specs.Int.Bits.{bit_xor}
use Rattle.block.specs.Blocks.{IsBlock}
use Rattle.block.proofs.Sums.{fits_xor, xor-twice}
use Rattle.aes.specs.Aes.{aes_encrypted, aes_decrypted}
use Rattle.aes.proofs.Inverse.{inverses, encrypted_block, decrypted_block}
use Rattle.cascade.specs.Cascade.{cascade_encrypted, cascade_decrypted}

pub undone : (f g : ℕ → ℕ) → ((x : ℕ) → IsBlock (f x)) → ((x : ℕ) → IsBlock x → g (f x) ≡ x) → (a b x : ℕ) → IsBlock a → IsBlock b → IsBlock x
    → g (bit_xor a (g (bit_xor b (g (f (bit_xor b (f (bit_xor a (f x))))))))) ≡ x
undone f g fits back a b x p q r =
    let y = bit_xor a (f x) in
    let z = bit_xor b (f y) in
    ap (λ (w : ℕ). g (bit_xor a (g (bit_xor b w)))) (back z (fits_xor b (f y) q (fits y)))
    ∙ ap (λ (w : ℕ). g (bit_xor a (g w))) (xor-twice b (f y))
    ∙ ap (λ (w : ℕ). g (bit_xor a w)) (back y (fits_xor a (f x) p (fits x)))
    ∙ ap g (xor-twice a (f x))
    ∙ back x r

-- the cascade's laws
module _ (key head body x : ℕ) where
  pub encrypted_fits : IsBlock (cascade_encrypted key head body x)
  encrypted_fits = encrypted_block key _

  pub decrypted_fits : IsBlock (cascade_decrypted key head body x)
  decrypted_fits = decrypted_block key _

  pub decrypt_encrypt : IsBlock head → IsBlock body → IsBlock x → cascade_decrypted key head body (cascade_encrypted key head body x) ≡ x
  decrypt_encrypt p q r = undone (aes_encrypted key) (aes_decrypted key) (encrypted_block key) (inverses.decenc key) head body x p q r

  pub encrypt_decrypt : IsBlock head → IsBlock body → IsBlock x → cascade_encrypted key head body (cascade_decrypted key head body x) ≡ x
  encrypt_decrypt p q r = undone (aes_decrypted key) (aes_encrypted key) (decrypted_block key) (inverses.encdec key) body head x q p r
