-- Two's complement in 16 bits.
use Rattle.std.specs.Prelude.{◌≡◌, ℕ, ◌^◌, ◌<◌, true, ℤ, pos, negsuc, neg_ℤ}
use Rattle.std.proofs.Common.{arith}
use Rattle.std.proofs.lemmas.Int.{ints}
use Rattle.std.specs.Int.Signed.{mag}
use Rattle.record.specs.Rules.{between}
use Rattle.record.specs.Sixteens.{twos, signed}

pub twos_lt : (z : ℤ) → twos z < 2 ^ 16
twos_lt (pos n) = omega arith
twos_lt (negsuc n) = omega arith

pub signed-twos : (z : ℤ) → mag z < 2 ^ 15 → signed (twos z) ≡ z
signed-twos (pos n) h = grind (arith, ints)
signed-twos (negsuc n) h = grind (arith, ints)

pub twos-signed : (n : ℕ) → n < 2 ^ 16 → twos (signed n) ≡ n
twos-signed n h = grind (arith, ints)

pub between_mag : (z : ℤ) → between (neg_ℤ (pos 100)) (pos 100) z ≡ true → mag z < 2 ^ 15
between_mag (pos n) e = grind (arith, ints)
between_mag (negsuc n) e = grind (arith, ints)
