-- The S-box of SKINNY-128 on a cell, by its bits.
use Rattle.std.specs.Prelude.{ℕ, ◌+◌, ◌-◌, ◌*◌, ◌/◌, ◌%◌}

-- a cell's bits, the highest first
pub data Bits : Type 0 where
  bits : (x7 x6 x5 x4 x3 x2 x1 x0 : ℕ) → Bits

abbrev pub bits_of : ℕ → Bits
bits_of x = bits (x / 128 % 2) (x / 64 % 2) (x / 32 % 2) (x / 16 % 2) (x / 8 % 2) (x / 4 % 2) (x / 2 % 2) (x % 2)

abbrev pub cell_of : Bits → ℕ
cell_of (bits x7 x6 x5 x4 x3 x2 x1 x0) = 128 * x7 + 64 * x6 + 32 * x5 + 16 * x4 + 8 * x3 + 4 * x2 + 2 * x1 + x0

abbrev pub nor : ℕ → ℕ → ℕ
nor a b = (1 - a) * (1 - b)

abbrev pub plus : ℕ → ℕ → ℕ
plus a b = (a + b) % 2

-- one step
abbrev pub mix : Bits → Bits
mix (bits x7 x6 x5 x4 x3 x2 x1 x0) = bits x7 x6 x5 (plus x4 (nor x7 x6)) x3 x2 x1 (plus x0 (nor x3 x2))

-- the order after steps 1 to 3
abbrev pub turn : Bits → Bits
turn (bits x7 x6 x5 x4 x3 x2 x1 x0) = bits x2 x1 x7 x6 x4 x0 x3 x5

-- the order after step 4
abbrev pub swap : Bits → Bits
swap (bits x7 x6 x5 x4 x3 x2 x1 x0) = bits x7 x6 x5 x4 x3 x1 x2 x0

unfoldable pub sub : ℕ → ℕ
sub x = cell_of (swap (mix (turn (mix (turn (mix (turn (mix (bits_of x)))))))))

-- and back
abbrev pub unturn : Bits → Bits
unturn (bits x2 x1 x7 x6 x4 x0 x3 x5) = bits x7 x6 x5 x4 x3 x2 x1 x0

unfoldable pub unsub : ℕ → ℕ
unsub x = cell_of (mix (unturn (mix (unturn (mix (unturn (mix (swap (bits_of x)))))))))
