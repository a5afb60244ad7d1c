-- The rounds as the code takes them, in either direction.
use Rattle.std.specs.Prelude.{◌≡◌, ℕ, List, [], ◌∷◌, ◌++◌, map, take, drop, fold, reverse, slice_index_or, refl}
use Rattle.aes.specs.Field.{times, sbox, inv_sbox}
use Rattle.aes.specs.Aes.{State, add, sub_bytes, inv_sub_bytes, shifted_rows, inv_shift_rows, inv_mixed_columns}
use Rattle.aes.specs.Words.{state, diagonal as diagonal_of}
use Rattle.aes.specs.declared.columns.Columns.{Columns}

-- ---- the rows shifted, column by column

-- column 1 comes to the place of column 0
abbrev pub turned : Columns → Columns
turned x = record { a = x.b; b = x.c; c = x.d; d = x.a }

-- column 0 stays, and the others go the other way round
abbrev pub backwards : Columns → Columns
backwards x = record { a = x.a; b = x.d; c = x.c; d = x.b }

-- what comes into column 0, where row r is that of column r in this order
abbrev pub diagonal : (Columns → Columns) → Columns → List ℕ
diagonal order x = let y = order x in diagonal_of y.a y.b y.c y.d

-- and into all four
abbrev pub diagonals : (Columns → Columns) → Columns → List ℕ
diagonals order x = diagonal order x ++ (diagonal order (turned x) ++ (diagonal order (turned (turned x)) ++ diagonal order (turned (turned (turned x)))))

-- so SubBytes and ShiftRows, or their inverses, are the substitution of these
pub shifts : (x : Columns) → shifted_rows (sub_bytes (state x)) ≡ map sbox (diagonals (λ y. y) x)
unfolding state shifted_rows
shifts x = refl

pub inv_shifts : (x : Columns) → inv_sub_bytes (inv_shift_rows (state x)) ≡ map inv_sbox (diagonals backwards x)
unfolding state inv_shift_rows
inv_shifts x = refl

-- ---- the rounds

-- what the byte a of row 0 adds to a column that is multiplied by i, j, k and l
abbrev pub part : (i j k l : ℕ) → ℕ → List ℕ
part i j k l a = times i a ∷ times l a ∷ times k a ∷ times j a ∷ []

-- key 0 is added; each round, of nine, substitutes and shifts, mixes, and adds the next key; and the last round does not mix
unfoldable pub walked : (sub_shift mix : State → State) → List State → State → State
walked sub_shift mix keys s =
    let first = add s (slice_index_or keys 0 []) in
    let mixed = fold (λ x k. add (mix (sub_shift x)) k) first (take 9 (drop 1 keys)) in
    add (sub_shift mixed) (slice_index_or keys 10 [])

-- the round keys of decryption: from the last to the first, and those between them through InvMixColumns
unfoldable pub inverted_keys : List State → List State
inverted_keys keys = let back = reverse keys in take 1 back ++ (map inv_mixed_columns (take 9 (drop 1 back)) ++ drop 10 back)
