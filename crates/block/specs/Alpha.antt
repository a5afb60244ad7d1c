-- Multiplication by α in the field of 2 ^ 128 elements, its powers, and sums of them.
use Rattle.std.specs.Prelude.{ℕ, zero, suc, ◌+◌, ◌*◌, ◌/◌, ◌%◌, ◌^◌, List, [], ◌∷◌, length, bit_xor}

-- the 128 bits shifted left by one; where a 1 falls out, 87 hexadecimal is added
abbrev pub α : ℕ → ℕ
α x = bit_xor (2 * x % 2 ^ 128) (x / 2 ^ 127 % 2 * 0x87)

-- α to the power n, times x
abbrev pub α^ : ℕ → ℕ → ℕ
α^ zero x = x
α^ (suc n) x = α (α^ n x)

-- the sum of α^(e (n - i)) x_i over x_1 .. x_n
abbrev pub Σα : ℕ → List ℕ → ℕ
Σα e [] = 0
Σα e (x ∷ xs) = bit_xor (α^ (e * length xs) x) (Σα e xs)

-- a block from its two halves of 64 bits
abbrev pub joined : ℕ → ℕ → ℕ
joined high low = high * 2 ^ 64 + low
