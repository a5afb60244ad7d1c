-- The field of 256 elements and the S-box of FIPS 197. Bit i of a byte is the coefficient of x^i.
use Rattle.std.specs.Prelude.{◌≡◌, ℕ, zero, suc, ◌+◌, ◌*◌, ◌/◌, ◌%◌, ◌^◌, ◌<◌, bit_xor}

-- a byte times x, modulo x^8 + x^4 + x^3 + x + 1
unfoldable pub double : ℕ → ℕ
double a = bit_xor (2 * a % 256) (27 * (a / 128 % 2))

-- a times the n low bits of b: the sum of the doublings of a that these bits ask for
unfoldable pub times_bits : ℕ → ℕ → ℕ → ℕ
times_bits zero b a = 0
times_bits (suc n) b a = bit_xor (a * (b % 2)) (times_bits n (b / 2) (double a))

unfoldable pub times : ℕ → ℕ → ℕ
times b a = times_bits 8 b a

-- the product of the next n squares: of a, its square, the square of that, and so on
unfoldable pub squares : ℕ → ℕ → ℕ
squares zero a = 1
squares (suc n) a = let s = times a a in times s (squares n s)

-- a^254 = a^2 a^4 .. a^128, which is the inverse of a, and 0 for 0
unfoldable pub inverse : ℕ → ℕ
inverse a = squares 7 a

pub record IsInverse : Type 0 where
  pub product : (a : ℕ) → 0 < a → a < 256 → times a (inverse a) ≡ 1
  pub none : inverse 0 ≡ 0

-- a byte rotated left by n bits
abbrev pub rotated : ℕ → ℕ → ℕ
rotated n a = a * 2 ^ n % 256 + a * 2 ^ n / 256

-- bit i becomes the sum of the bits i, i + 4, i + 5, i + 6 and i + 7, going round, and 63 hexadecimal is added
unfoldable pub affine : ℕ → ℕ
affine a = bit_xor (bit_xor (bit_xor (bit_xor (bit_xor a (rotated 1 a)) (rotated 2 a)) (rotated 3 a)) (rotated 4 a)) 0x63

-- the map back
unfoldable pub inv_affine : ℕ → ℕ
inv_affine a = bit_xor (bit_xor (bit_xor (rotated 1 a) (rotated 3 a)) (rotated 6 a)) 0x05

unfoldable pub sbox : ℕ → ℕ
sbox a = affine (inverse a)

unfoldable pub inv_sbox : ℕ → ℕ
inv_sbox a = inverse (inv_affine a)
