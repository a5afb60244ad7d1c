-- SKINNY-128-384: a block and each third of the tweakey are 16 cells, in 4 rows of 4.
use Rattle.std.specs.Prelude.{ℕ, zero, suc, ◌+◌, ◌-◌, ◌*◌, ◌/◌, ◌%◌, List, [], ◌∷◌, ◌++◌, map, take, drop, bit_xor}
use Rattle.std.specs.Simd.Lanes.{zip2, pick_l}
use Rattle.std.specs.Int.Digits.{number_from_digits}
use Rattle.block.specs.Blocks.{bytes}
use Rattle.skinny.specs.Sbox.{sub, unsub}

abbrev pub Cells : Type 0
Cells = List ℕ

abbrev pub add : Cells → Cells → Cells
add = zip2 bit_xor

abbrev pub row : ℕ → Cells → List ℕ
row r s = take 4 (drop (4 * r) s)

-- a row turned right, and left, by n cells
abbrev pub right : ℕ → List ℕ → List ℕ
right n xs = drop (4 - n) xs ++ take (4 - n) xs

abbrev pub left : ℕ → List ℕ → List ℕ
left n xs = drop n xs ++ take n xs

abbrev pub shifted_rows : Cells → Cells
shifted_rows s = row 0 s ++ (right 1 (row 1 s) ++ (right 2 (row 2 s) ++ right 3 (row 3 s)))

abbrev pub unshift_rows : Cells → Cells
unshift_rows s = row 0 s ++ (left 1 (row 1 s) ++ (left 2 (row 2 s) ++ left 3 (row 3 s)))

-- a column (a, b, c, d) becomes (a + c + d, a, b + c, a + c)
abbrev pub mix_rows : List ℕ → List ℕ → List ℕ → List ℕ → Cells
mix_rows a b c d = add (add a c) d ++ (a ++ (add b c ++ add a c))

abbrev pub mixed_columns : Cells → Cells
mixed_columns s = mix_rows (row 0 s) (row 1 s) (row 2 s) (row 3 s)

-- and (p, q, s, t) becomes (q, q + t + s, q + t, p + t) again
abbrev pub unmix_rows : List ℕ → List ℕ → List ℕ → List ℕ → Cells
unmix_rows p q s t = q ++ (add (add q t) s ++ (add q t ++ add p t))

abbrev pub unmix_columns : Cells → Cells
unmix_columns s = unmix_rows (row 0 s) (row 1 s) (row 2 s) (row 3 s)

-- a round that adds k, and back
unfoldable pub round_of : Cells → Cells → Cells
round_of k s = mixed_columns (shifted_rows (add (map sub s) k))

unfoldable pub unround_of : Cells → Cells → Cells
unround_of k s = map unsub (add (unshift_rows (unmix_columns s)) k)

-- 6 bits shifted left by one, with old bit 5 + old bit 4 + 1 for the lowest
unfoldable pub next : ℕ → ℕ
next c = 2 * c % 64 + (c / 32 + c / 16 + 1) % 2

-- the constant of round i, from 0: the 6 bits start at 0, and are shifted before each round
unfoldable pub constant_at : ℕ → ℕ
constant_at zero = next 0
constant_at (suc i) = next (constant_at i)

-- where a constant is added: its low four bits, its top two bits, and 2
abbrev pub constant_cells : ℕ → Cells
constant_cells c = (c % 16) ∷ 0 ∷ 0 ∷ 0 ∷ (c / 16) ∷ 0 ∷ 0 ∷ 0 ∷ 2 ∷ 0 ∷ 0 ∷ 0 ∷ 0 ∷ 0 ∷ 0 ∷ 0 ∷ []

-- rows 0 and 1, with nothing in the others
abbrev pub top : Cells → Cells
top t = row 0 t ++ (row 1 t ++ (0 ∷ 0 ∷ 0 ∷ 0 ∷ 0 ∷ 0 ∷ 0 ∷ 0 ∷ []))

abbrev pub permuted : Cells → Cells
permuted t = pick_l 0 t (9 ∷ 15 ∷ 8 ∷ 13 ∷ 10 ∷ 14 ∷ 12 ∷ 11 ∷ 0 ∷ 1 ∷ 2 ∷ 3 ∷ 4 ∷ 5 ∷ 6 ∷ 7 ∷ [])

-- x6 .. x0, x7 + x5
unfoldable pub lfsr2 : ℕ → ℕ
lfsr2 x = 2 * x % 256 + (x / 128 + x / 32) % 2

-- x0 + x6, x7 .. x1
unfoldable pub lfsr3 : ℕ → ℕ
lfsr3 x = 128 * ((x + x / 64) % 2) + x / 2

-- the cells of rows 0 and 1 changed
abbrev pub on_top : (ℕ → ℕ) → Cells → Cells
on_top f t = map f (take 8 t) ++ drop 8 t

-- TK2 and TK3 for the next round; TK1 is only permuted
abbrev pub step2 : Cells → Cells
step2 t = on_top lfsr2 (permuted t)

abbrev pub step3 : Cells → Cells
step3 t = on_top lfsr3 (permuted t)

-- what n rounds add from round i on, where TK1, TK2 and TK3 are t1, t2 and t3
unfoldable pub keys_of_rounds : ℕ → ℕ → Cells → Cells → Cells → List Cells
keys_of_rounds zero i t1 t2 t3 = []
keys_of_rounds (suc n) i t1 t2 t3 = add (top (add (add t1 t2) t3)) (constant_cells (constant_at i)) ∷ keys_of_rounds n (suc i) (permuted t1) (step2 t2) (step3 t3)

unfoldable pub rounds : List Cells → Cells → Cells
rounds [] s = s
rounds (k ∷ ks) s = rounds ks (round_of k s)

unfoldable pub unrounds : List Cells → Cells → Cells
unrounds [] s = s
unrounds (k ∷ ks) s = unround_of k (unrounds ks s)

unfoldable pub encrypted_cells : Cells → Cells → Cells → Cells → Cells
encrypted_cells t1 t2 t3 s = rounds (keys_of_rounds 56 0 t1 t2 t3) s

unfoldable pub decrypted_cells : Cells → Cells → Cells → Cells → Cells
decrypted_cells t1 t2 t3 s = unrounds (keys_of_rounds 56 0 t1 t2 t3) s

-- a block's 16 bytes, the high byte first, fill the cells row by row
unfoldable pub cells_of : ℕ → Cells
cells_of x = bytes 16 x

unfoldable pub block_of : Cells → ℕ
block_of s = number_from_digits 256 s

-- on blocks: TK1 is the head, TK2 the body, TK3 the key
abbrev pub encrypt_block : ℕ → ℕ → ℕ → ℕ → ℕ
encrypt_block key head body x = block_of (encrypted_cells (cells_of head) (cells_of body) (cells_of key) (cells_of x))

abbrev pub decrypt_block : ℕ → ℕ → ℕ → ℕ → ℕ
decrypt_block key head body x = block_of (decrypted_cells (cells_of head) (cells_of body) (cells_of key) (cells_of x))
