-- Numbers of 16 bits, high byte first, one after another.
use Rattle.std.specs.Prelude.{ℕ, ◌*◌, ◌^◌, cond, List, [], ◌∷◌, ◌++◌, take, drop, ℤ, pos, ◌-ℤ◌, nat_lt, unsigned_abs}
use Rattle.std.specs.Int.{int_rem_euclid}
use Rattle.std.specs.Int.Digits.{number_from_digits}
use Rattle.block.specs.Blocks.{bytes}

-- the bytes of a list of numbers
abbrev pub sixteens : List ℕ → List ℕ
sixteens [] = []
sixteens (n ∷ ns) = bytes 2 n ++ sixteens ns

-- the number at place k, from 0
abbrev pub field : ℕ → List ℕ → ℕ
field k x = number_from_digits 256 (take 2 (drop (2 * k) x))

-- two's complement: a signed number modulo 2^16
abbrev pub twos : ℤ → ℕ
twos z = unsigned_abs (int_rem_euclid z (pos (2 ^ 16)))

-- and back, to a number from −2^15 to 2^15 − 1
abbrev pub signed : ℕ → ℤ
signed n = cond (nat_lt n (2 ^ 15)) (pos n) (pos n -ℤ pos (2 ^ 16))
