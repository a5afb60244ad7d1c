-- Multiplication by α keeps blocks and adds up, so that Horner's rule gives the sums of powers.
use Rattle.std.proofs.Common.{◌≡◌, ℕ, zero, suc, ◌+◌, ◌*◌, ◌/◌, ◌%◌, ◌^◌, ◌<◌, List, [], ◌∷◌, ◌++◌, length, sym, refl, ap, ◌∙◌, ap₂, suc-add, mul-zero, zero-add, mul-one, mul-add, arith}
use Rattle.std.proofs.lemmas.List.{length_push}
use lib.Bits.{bit_xor, xor_assoc, xor_zero_r, xor_mod, xor_shr}
use Rattle.block.specs.Blocks.{IsBlock}
use Rattle.block.specs.Alpha.{α, α^, Σα}
use Rattle.block.proofs.Sums.{Fit, fits_xor, xor_four, xor_two}

pub fits_α : (x : ℕ) → IsBlock x → IsBlock (α x)
fits_α x p = fits_xor (2 * x % 2 ^ 128) (x / 2 ^ 127 % 2 * 0x87) (omega arith) (omega arith)

pub fits_α^ : (n x : ℕ) → IsBlock x → IsBlock (α^ n x)
fits_α^ zero x p = p
fits_α^ (suc n) x p = fits_α (α^ n x) (fits_α^ n x p)

pub fits_Σα : (e : ℕ) (xs : List ℕ) → Fit xs → IsBlock (Σα e xs)
fits_Σα e [] p = omega arith
fits_Σα e (x ∷ xs) p = fits_xor (α^ (e * length xs) x) (Σα e xs) (fits_α^ (e * length xs) x p.0) (fits_Σα e xs p.1)

bit : (a b : ℕ) → a < 2 → b < 2 → bit_xor a b * 0x87 ≡ bit_xor (a * 0x87) (b * 0x87)
bit zero zero p q = refl
bit zero (suc zero) p q = refl
bit (suc zero) zero p q = refl
bit (suc zero) (suc zero) p q = refl
bit zero (suc (suc b)) p q = absurd (omega arith)
bit (suc zero) (suc (suc b)) p q = absurd (omega arith)
bit (suc (suc a)) b p q = absurd (omega arith)

pub α-xor : (x y : ℕ) → α (bit_xor x y) ≡ bit_xor (α x) (α y)
α-xor x y =
    let low : 2 * bit_xor x y % 2 ^ 128 ≡ bit_xor (2 * x % 2 ^ 128) (2 * y % 2 ^ 128) = ap (λ n. n % 2 ^ 128) (xor_two x y) ∙ xor_mod (2 * x) (2 * y) 128 in
    let top : bit_xor x y / 2 ^ 127 % 2 ≡ bit_xor (x / 2 ^ 127 % 2) (y / 2 ^ 127 % 2) = ap (λ n. n % 2) (xor_shr x y 127) ∙ xor_mod (x / 2 ^ 127) (y / 2 ^ 127) 1 in
    ap₂ bit_xor low (ap (λ n. n * 0x87) top ∙ bit (x / 2 ^ 127 % 2) (y / 2 ^ 127 % 2) (omega arith) (omega arith))
    ∙ xor_four (2 * x % 2 ^ 128) (2 * y % 2 ^ 128) (x / 2 ^ 127 % 2 * 0x87) (y / 2 ^ 127 % 2 * 0x87)

pub α^-xor : (n x y : ℕ) → α^ n (bit_xor x y) ≡ bit_xor (α^ n x) (α^ n y)
α^-xor zero x y = refl
α^-xor (suc n) x y = ap α (α^-xor n x y) ∙ α-xor (α^ n x) (α^ n y)

pub α^-add : (m n x : ℕ) → α^ (m + n) x ≡ α^ m (α^ n x)
α^-add zero n x = ap (λ k. α^ k x) (zero-add n)
α^-add (suc m) n x = ap (λ k. α^ k x) (suc-add m n) ∙ ap α (α^-add m n x)

pub α^_zero : (n : ℕ) → α^ n 0 ≡ 0
α^_zero zero = refl
α^_zero (suc n) = ap α (α^_zero n)

-- Horner's rule
pub Σα_push : (e : ℕ) (xs : List ℕ) (x : ℕ) → Σα e (xs ++ (x ∷ [])) ≡ bit_xor (α^ e (Σα e xs)) x
Σα_push e [] x = ap (λ k. bit_xor (α^ k x) 0) (mul-zero e) ∙ xor_zero_r x ∙ sym (ap (λ y. bit_xor y x) (α^_zero e))
Σα_push e (y ∷ xs) x =
    let n : e * length (xs ++ (x ∷ [])) ≡ e + e * length xs = ap (λ k. e * k) (length_push xs x) ∙ mul-add e (length xs) 1 ∙ omega (arith, mul-one e) in
    ap₂ bit_xor (ap (λ k. α^ k y) n ∙ α^-add e (e * length xs) y) (Σα_push e xs x)
    ∙ sym (xor_assoc (α^ e (α^ (e * length xs) y)) (α^ e (Σα e xs)) x)
    ∙ ap (λ z. bit_xor z x) (sym (α^-xor e (α^ (e * length xs) y) (Σα e xs)))
