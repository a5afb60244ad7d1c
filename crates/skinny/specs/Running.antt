-- What the code computes on its way: no part of the cipher's definition.
use Rattle.std.specs.Prelude.{ℕ, zero, suc, List, [], ◌∷◌, ◌++◌, map}
use Rattle.std.specs.Simd.Lanes.{pick_l}
use Rattle.skinny.specs.Sbox.{bits_of, cell_of, turn, unturn, swap}
use Rattle.skinny.specs.Skinny.{Cells, add, row, top, lfsr2, step3, constant_at, constant_cells}

-- ---- the S-box: the order in which the four steps leave the bits, and back
unfoldable pub ordered : ℕ → ℕ
ordered x = cell_of (swap (turn (turn (turn (bits_of x)))))

unfoldable pub unordered : ℕ → ℕ
unordered x = cell_of (unturn (unturn (unturn (swap (bits_of x)))))

-- ---- each eight cells moved down by three: the first four of a row that stands there twice are the row turned right by one
abbrev pub down_by_three : Cells → Cells
down_by_three x = pick_l 0 x (3 ∷ 4 ∷ 5 ∷ 6 ∷ 7 ∷ 16 ∷ 16 ∷ 16 ∷ 11 ∷ 12 ∷ 13 ∷ 14 ∷ 15 ∷ 16 ∷ 16 ∷ 16 ∷ [])

-- ---- the schedule, two rounds at a time
-- rows 2 and 3, which the next permutation makes rows 0 and 1
abbrev pub bottom : Cells → Cells
bottom t = row 2 t ++ (row 3 t ++ (0 ∷ 0 ∷ 0 ∷ 0 ∷ 0 ∷ 0 ∷ 0 ∷ 0 ∷ []))

-- two steps of the permutation, which permute each half
abbrev pub twice : Cells → Cells
twice t = pick_l 0 t (1 ∷ 7 ∷ 0 ∷ 5 ∷ 2 ∷ 6 ∷ 4 ∷ 3 ∷ 9 ∷ 15 ∷ 8 ∷ 13 ∷ 10 ∷ 14 ∷ 12 ∷ 11 ∷ [])

-- two steps of TK2: each cell has been in rows 0 and 1 once
abbrev pub twice2 : Cells → Cells
twice2 t = map lfsr2 (twice t)

-- the key's part of what n rounds add from round i on, with the constants
unfoldable pub key_part : ℕ → ℕ → Cells → List Cells
key_part zero i t = []
key_part (suc n) i t = add (top t) (constant_cells (constant_at i)) ∷ key_part n (suc i) (step3 t)
