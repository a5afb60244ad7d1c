-- The laws of the field that the cipher stands on: sums, bytes, the S-box and its inverse, and the columns.
use Rattle.std.proofs.Common.{◌≡◌, ℕ, zero, suc, ◌+◌, ◌*◌, ◌/◌, ◌%◌, ◌<◌, sym, refl, ap, ◌∙◌, ap₂, mul-zero, mul-one, arith}
use lib.Bits.{bit_xor, xor_comm, xor_assoc, xor_self, xor_zero_r, xor_shr, xor_mod, xor_lt}
use Rattle.block.proofs.Sums.{xor-left, xor-twice, xor_four, xor_two}
use Rattle.aes.specs.Field.{double, times_bits, times, squares, inverse, affine, inv_affine, sbox, inv_sbox, IsInverse}
use Rattle.aes.specs.Aes.{dot}
use Rattle.block.proofs.Below.{same_below, less_below}

-- ---- sums

-- a sum times a bit
scaled : (x y b : ℕ) → b < 2 → bit_xor x y * b ≡ bit_xor (x * b) (y * b)
scaled x y zero h = simp mul-zero
scaled x y (suc zero) h = simp mul-one
scaled x y (suc (suc b)) h = absurd (omega arith)

reduced : (p q : ℕ) → p < 2 → q < 2 → 27 * bit_xor p q ≡ bit_xor (27 * p) (27 * q)
reduced zero q hp hq = refl
reduced (suc zero) zero hp hq = refl
reduced (suc zero) (suc zero) hp hq = refl
reduced (suc zero) (suc (suc q)) hp hq = absurd (omega arith)
reduced (suc (suc p)) q hp hq = absurd (omega arith)

double-add : (x y : ℕ) → double (bit_xor x y) ≡ bit_xor (double x) (double y)
unfolding double
double-add x y =
    let lo : 2 * bit_xor x y % 256 ≡ bit_xor (2 * x % 256) (2 * y % 256) = ap (λ (n : ℕ). n % 256) (xor_two x y) ∙ xor_mod (2 * x) (2 * y) 8 in
    let hi : bit_xor x y / 128 % 2 ≡ bit_xor (x / 128 % 2) (y / 128 % 2) = ap (λ (n : ℕ). n % 2) (xor_shr x y 7) ∙ xor_mod (x / 128) (y / 128) 1 in
    ap₂ (λ (l h : ℕ). bit_xor l (27 * h)) lo hi
    ∙ ap (bit_xor (bit_xor (2 * x % 256) (2 * y % 256))) (reduced (x / 128 % 2) (y / 128 % 2) (omega arith) (omega arith))
    ∙ xor_four (2 * x % 256) (2 * y % 256) (27 * (x / 128 % 2)) (27 * (y / 128 % 2))

bits_add : (n b x y : ℕ) → times_bits n b (bit_xor x y) ≡ bit_xor (times_bits n b x) (times_bits n b y)
unfolding times_bits
bits_add zero b x y = refl
bits_add (suc n) b x y =
    ap₂ bit_xor (scaled x y (b % 2) (omega arith)) (ap (times_bits n (b / 2)) (double-add x y) ∙ bits_add n (b / 2) (double x) (double y))
    ∙ xor_four (x * (b % 2)) (y * (b % 2)) (times_bits n (b / 2) (double x)) (times_bits n (b / 2) (double y))

times-add : (i x y : ℕ) → times i (bit_xor x y) ≡ bit_xor (times i x) (times i y)
unfolding times
times-add i x y = bits_add 8 i x y

pub dot-add : (i j k l a b c d e f g h : ℕ) → dot i j k l (bit_xor a e) (bit_xor b f) (bit_xor c g) (bit_xor d h) ≡ bit_xor (dot i j k l a b c d) (dot i j k l e f g h)
dot-add i j k l a b c d e f g h =
    (λ t. bit_xor (bit_xor (bit_xor (times-add i a e t) (times-add j b f t)) (times-add k c g t)) (times-add l d h t))
    ∙ ap (λ (x : ℕ). bit_xor (bit_xor x (bit_xor (times k c) (times k g))) (bit_xor (times l d) (times l h))) (xor_four (times i a) (times i e) (times j b) (times j f))
    ∙ ap (λ (x : ℕ). bit_xor x (bit_xor (times l d) (times l h))) (xor_four (bit_xor (times i a) (times j b)) (bit_xor (times i e) (times j f)) (times k c) (times k g))
    ∙ xor_four (bit_xor (bit_xor (times i a) (times j b)) (times k c)) (bit_xor (bit_xor (times i e) (times j f)) (times k g)) (times l d) (times l h)

-- ---- bytes

pub double_byte : (a : ℕ) → double a < 256
unfolding double
double_byte a = xor_lt 8 (2 * a % 256) (27 * (a / 128 % 2)) (omega arith) (omega arith)

scaled_byte : (a b : ℕ) → b < 2 → a < 256 → a * b < 256
scaled_byte a zero h p = omega arith
scaled_byte a (suc zero) h p = omega arith
scaled_byte a (suc (suc b)) h p = absurd (omega arith)

bits_byte : (n b a : ℕ) → a < 256 → times_bits n b a < 256
unfolding times_bits
bits_byte zero b a p = omega arith
bits_byte (suc n) b a p = xor_lt 8 (a * (b % 2)) (times_bits n (b / 2) (double a)) (scaled_byte a (b % 2) (omega arith) p) (bits_byte n (b / 2) (double a) (double_byte a))

pub times_byte : (i a : ℕ) → a < 256 → times i a < 256
unfolding times
times_byte i a p = bits_byte 8 i a p

pub dot_byte : (i j k l a b c d : ℕ) → a < 256 → b < 256 → c < 256 → d < 256 → dot i j k l a b c d < 256
dot_byte i j k l a b c d p q r s =
    xor_lt 8 (bit_xor (bit_xor (times i a) (times j b)) (times k c)) (times l d)
    (xor_lt 8 (bit_xor (times i a) (times j b)) (times k c) (xor_lt 8 (times i a) (times j b) (times_byte i a p) (times_byte j b q)) (times_byte k c r))
    (times_byte l d s)

squares_byte : (n a : ℕ) → a < 256 → squares n a < 256
unfolding squares
squares_byte zero a p = omega arith
squares_byte (suc n) a p = times_byte (times a a) (squares n (times a a)) (squares_byte n (times a a) (times_byte a a p))

inverse_byte : (a : ℕ) → a < 256 → inverse a < 256
unfolding inverse
inverse_byte a p = squares_byte 7 a p

affine_byte : (a : ℕ) → a < 256 → affine a < 256
unfolding affine
affine_byte = less_below affine (λ _. 256) 256 refl

inv_affine_byte : (a : ℕ) → a < 256 → inv_affine a < 256
unfolding inv_affine
inv_affine_byte = less_below inv_affine (λ _. 256) 256 refl

pub sbox_byte : (a : ℕ) → a < 256 → sbox a < 256
unfolding sbox
sbox_byte a p = affine_byte (inverse a) (inverse_byte a p)

pub inv_sbox_byte : (a : ℕ) → a < 256 → inv_sbox a < 256
unfolding inv_sbox
inv_sbox_byte a p = inverse_byte (inv_affine a) (inv_affine_byte a p)

-- ---- the S-box and its inverse

-- at a + 1, since 0 has no inverse
inverse-next : (a : ℕ) → a < 255 → times (a + 1) (inverse (a + 1)) ≡ 1
unfolding double times_bits times squares inverse
inverse-next = same_below (λ a. times (a + 1) (inverse (a + 1))) (λ a. 1) 255 refl

inverse_product : (a : ℕ) → 0 < a → a < 256 → times a (inverse a) ≡ 1
inverse_product zero p h = absurd (omega arith)
inverse_product (suc a) p h =
    let e : a + 1 ≡ suc a = omega arith in
    ap (λ (x : ℕ). times x (inverse x)) (sym e) ∙ inverse-next a (omega arith)

pub is_inverse : IsInverse
unfolding double times_bits times squares inverse
is_inverse = record { product = inverse_product; none = refl }

inverse-twice : (a : ℕ) → a < 256 → inverse (inverse a) ≡ a
unfolding double times_bits times squares inverse
inverse-twice = same_below (λ a. inverse (inverse a)) (λ a. a) 256 refl

affine_back : (a : ℕ) → a < 256 → inv_affine (affine a) ≡ a
unfolding affine inv_affine
affine_back = same_below (λ a. inv_affine (affine a)) (λ a. a) 256 refl

affine-forth : (a : ℕ) → a < 256 → affine (inv_affine a) ≡ a
unfolding affine inv_affine
affine-forth = same_below (λ a. affine (inv_affine a)) (λ a. a) 256 refl

pub sbox_back : (a : ℕ) → a < 256 → inv_sbox (sbox a) ≡ a
unfolding sbox inv_sbox
sbox_back a p = ap inverse (affine_back (inverse a) (inverse_byte a p)) ∙ inverse-twice a p

pub sbox-forth : (a : ℕ) → a < 256 → sbox (inv_sbox a) ≡ a
unfolding sbox inv_sbox
sbox-forth a p = ap affine (inverse-twice (inv_affine a) (inv_affine_byte a p)) ∙ affine-forth a p

-- ---- MixColumns and its inverse, at the first row of a column

-- the multiples by doubling
module _ (x : ℕ) where
  times1 : times 1 x ≡ x
  unfolding times times_bits
  times1 = simp (mul-zero, mul-one, xor_zero_r)

  times2 : times 2 x ≡ double x
  unfolding times times_bits
  times2 = simp (mul-zero, mul-one, xor_zero_r)

  times3 : times 3 x ≡ bit_xor x (double x)
  unfolding times times_bits
  times3 = simp (mul-zero, mul-one, xor_zero_r)

  times9 : times 9 x ≡ bit_xor x (double (double (double x)))
  unfolding times times_bits
  times9 = simp (mul-zero, mul-one, xor_zero_r)

  times11 : times 11 x ≡ bit_xor x (bit_xor (double x) (double (double (double x))))
  unfolding times times_bits
  times11 = simp (mul-zero, mul-one, xor_zero_r)

  times13 : times 13 x ≡ bit_xor x (bit_xor (double (double x)) (double (double (double x))))
  unfolding times times_bits
  times13 = simp (mul-zero, mul-one, xor_zero_r)

  times14 : times 14 x ≡ bit_xor (double x) (bit_xor (double (double x)) (double (double (double x))))
  unfolding times times_bits
  times14 = simp (mul-zero, mul-one, xor_zero_r)

module _ (a b c d : ℕ) where
  pub mix_back : dot 14 11 13 9 (dot 2 3 1 1 a b c d) (dot 2 3 1 1 b c d a) (dot 2 3 1 1 c d a b) (dot 2 3 1 1 d a b c) ≡ a
  mix_back = simp (times1, times2, times3, times9, times11, times13, times14, double-add, xor_comm, xor-left, xor_assoc, xor_self, xor-twice, xor_zero_r)

  pub mix-forth : dot 2 3 1 1 (dot 14 11 13 9 a b c d) (dot 14 11 13 9 b c d a) (dot 14 11 13 9 c d a b) (dot 14 11 13 9 d a b c) ≡ a
  mix-forth = simp (times1, times2, times3, times9, times11, times13, times14, double-add, xor_comm, xor-left, xor_assoc, xor_self, xor-twice, xor_zero_r)
