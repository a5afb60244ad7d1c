-- How the code holds a state: four words of 32 bits, a column each, row 0 in the high byte.
use Rattle.std.specs.Prelude.{ℕ, List, [], ◌∷◌, ◌++◌, map, slice_index}
use Rattle.std.specs.List.{range_with_len}
use Rattle.block.specs.Blocks.{bytes}
use Rattle.aes.specs.Aes.{State, round_key}
use Rattle.aes.specs.declared.columns.Columns.{Columns}

unfoldable pub state : Columns → State
state x = bytes 4 x.a ++ (bytes 4 x.b ++ (bytes 4 x.c ++ bytes 4 x.d))

-- row 0 of a, row 1 of b, row 2 of c and row 3 of d
abbrev pub diagonal : (a b c d : ℕ) → List ℕ
diagonal a b c d = slice_index (bytes 4 a) 0 ∷ slice_index (bytes 4 b) 1 ∷ slice_index (bytes 4 c) 2 ∷ slice_index (bytes 4 d) 3 ∷ []

-- the eleven round keys of a key
unfoldable pub keys_of_rounds : ℕ → List State
keys_of_rounds key = map (round_key (bytes 16 key)) (range_with_len 0 11)
