-- Decryption undoes encryption, and encryption undoes decryption.
use Rattle.std.specs.Prelude.{◌≡◌, ℕ, zero, suc, ◌*◌, ◌/◌, ◌%◌, ◌^◌, ◌<◌, List, [], ◌∷◌, ◌++◌, map, length, drop, bit_xor, refl}
use Rattle.std.proofs.Common.{sym, ◌∙◌, ap, ap₂, subst, arith}
use Rattle.std.proofs.lemmas.Nat.{xor_comm}
use Rattle.std.specs.Int.Bits.{xor_assoc, xor_self}
use Rattle.std.specs.Simd.Lanes.{Each1}
use Rattle.std.specs.Int.Digits.{AllBelowBase, number_from_digits}
use Rattle.std.proofs.lemmas.Int.Digits.{number_lt}
use Rattle.std.proofs.lemmas.List.{length-map}
use Rattle.block.specs.Blocks.{IsBlock}
use Rattle.block.proofs.OnBytes.{under_take, under_drop, under_append, under_pick, under_add, under_zeros, length-bytes, under_bytes, bytes_number, number_bytes}
use Rattle.block.proofs.Sixteen.{spread-all}
use Rattle.block.proofs.Sums.{cancel}
use Rattle.skinny.specs.Sbox.{sub, unsub}
use Rattle.skinny.specs.Skinny.{Cells, add, row, left, shifted_rows, unshift_rows, mixed_columns, unmix_columns, round_of, unround_of, next, constant_at, constant_cells, top, permuted, on_top, lfsr2, lfsr3, step2, step3, keys_of_rounds, rounds, unrounds, encrypted_cells, decrypted_cells, cells_of, block_of, encrypt_block, decrypt_block}
use Rattle.skinny.specs.Cell.{unsub-sub, sub-unsub, sub_is_byte, unsub_byte, lfsr2_byte, lfsr3_byte}
use Rattle.skinny.specs.Linear.{length-add, length-on_top}

-- sixteen bytes
abbrev pub Sixteen : Cells → Type 0
Sixteen s = (length s ≡ 16) × AllBelowBase 256 s

-- ---- sums
same_twice : (a c : ℕ) → bit_xor a (bit_xor a c) ≡ c
same_twice a c = sym (xor_assoc a a c) ∙ ap (λ (x : ℕ). bit_xor x c) (xor_self a)

around : (c b : ℕ) → bit_xor c (bit_xor b c) ≡ b
around c b = xor_comm c (bit_xor b c) ∙ cancel b c

between : (m d : ℕ) → bit_xor (bit_xor m d) m ≡ d
between m d = ap (λ (x : ℕ). bit_xor x m) (xor_comm m d) ∙ cancel d m

unspread_spread : (x : Cells) → length x ≡ 16 → unshift_rows (unmix_columns (mixed_columns (shifted_rows x))) ≡ x
unspread_spread x h = rw (← spread-all 16 x h) (simp (same_twice, around, between))

spread_unspread : (x : Cells) → length x ≡ 16 → mixed_columns (shifted_rows (unshift_rows (unmix_columns x))) ≡ x
spread_unspread x h = rw (← spread-all 16 x h) (simp (same_twice, around, between))

add_twice : (xs ks : List ℕ) → length xs ≡ length ks → add (add xs ks) ks ≡ xs
add_twice [] ks h = refl
add_twice (x ∷ xs) [] h = absurd (omega arith)
add_twice (x ∷ xs) (k ∷ ks) h =
    let e : length xs ≡ length ks = omega arith in
    ap₂ (λ (y : ℕ) (ys : List ℕ). y ∷ ys) (cancel x k) (add_twice xs ks e)

-- ---- bytes stay bytes
under_map : (f : ℕ → ℕ) → ((x : ℕ) → x < 256 → f x < 256) → (xs : List ℕ) → AllBelowBase 256 xs → AllBelowBase 256 (map f xs)
under_map f h [] p = tt
under_map f h (x ∷ xs) p = (h x p.0, under_map f h xs p.1)

under_row : (r : ℕ) (s : Cells) → AllBelowBase 256 s → AllBelowBase 256 (row r s)
under_row r s p = under_take 4 (drop (4 * r) s) (under_drop (4 * r) s p)

under_mix : (s : Cells) → AllBelowBase 256 s → AllBelowBase 256 (mixed_columns s)
under_mix s p =
    let a = under_row 0 s p in let b = under_row 1 s p in let c = under_row 2 s p in let d = under_row 3 s p in
    under_append _ _ (under_add _ _ (under_add _ _ a c) d) (under_append _ _ a (under_append _ _ (under_add _ _ b c) (under_add _ _ a c)))

under_unmix : (s : Cells) → AllBelowBase 256 s → AllBelowBase 256 (unmix_columns s)
under_unmix x h =
    let p = under_row 0 x h in let q = under_row 1 x h in let s = under_row 2 x h in let t = under_row 3 x h in
    under_append _ _ q (under_append _ _ (under_add _ _ (under_add _ _ q t) s) (under_append _ _ (under_add _ _ q t) (under_add _ _ p t)))

-- rows 1 to 3 turned left by a, b and c cells; by 4 - n to the left is by n to the right
under_turned : (a b c : ℕ) (s : Cells) → AllBelowBase 256 s → AllBelowBase 256 (left a (row 1 s) ++ (left b (row 2 s) ++ left c (row 3 s)))
under_turned a b c s h =
    let turned : (n r : ℕ) → AllBelowBase 256 (left n (row r s)) = λ n r. under_append _ _ (under_drop n _ (under_row r s h)) (under_take n _ (under_row r s h)) in
    under_append _ _ (turned a 1) (under_append _ _ (turned b 2) (turned c 3))

-- ---- blocks stay blocks
is_add : (x y : Cells) → Sixteen x → Sixteen y → Sixteen (add x y)
is_add x y h k = (length-add x y h.0 k.0, under_add x y h.1 k.1)

is_map : (f : ℕ → ℕ) → ((x : ℕ) → x < 256 → f x < 256) → (s : Cells) → Sixteen s → Sixteen (map f s)
is_map f b s h = (length-map s f ∙ h.0, under_map f b s h.1)

is_mixed : (x : Cells) → Sixteen x → Sixteen (mixed_columns (shifted_rows x))
is_mixed x h = (rw (← spread-all 16 x h.0), under_mix (shifted_rows x) (under_append _ _ (under_row 0 x h.1) (under_turned 3 2 1 x h.1)))

is_unmixed : (x : Cells) → Sixteen x → Sixteen (unshift_rows (unmix_columns x))
is_unmixed x h = (rw (← spread-all 16 x h.0), under_append _ _ (under_row 0 (unmix_columns x) (under_unmix x h.1)) (under_turned 1 2 3 (unmix_columns x) (under_unmix x h.1)))

is_round : (k s : Cells) → Sixteen k → Sixteen s → Sixteen (round_of k s)
unfolding round_of
is_round k s hk hs = is_mixed (add (map sub s) k) (is_add (map sub s) k (is_map sub sub_is_byte s hs) hk)

is_unround : (k s : Cells) → Sixteen k → Sixteen s → Sixteen (unround_of k s)
unfolding unround_of
is_unround k s hk hs =
    let u = unshift_rows (unmix_columns s) in
    is_map unsub unsub_byte (add u k) (is_add u k (is_unmixed s hs) hk)

-- ---- a round, and back
map_back : (f g : ℕ → ℕ) → ((x : ℕ) → x < 256 → g (f x) ≡ x) → (xs : List ℕ) → AllBelowBase 256 xs → map g (map f xs) ≡ xs
map_back f g e [] p = refl
map_back f g e (x ∷ xs) p = ap₂ (λ (y : ℕ) (ys : List ℕ). y ∷ ys) (e x p.0) (map_back f g e xs p.1)

unround_round : (k s : Cells) → Sixteen k → Sixteen s → unround_of k (round_of k s) ≡ s
unfolding round_of unround_of
unround_round k s hk hs =
    let m : Sixteen (map sub s) = is_map sub sub_is_byte s hs in
    let x : Cells = add (map sub s) k in
    ap (λ (y : Cells). map unsub (add y k)) (unspread_spread x (is_add (map sub s) k m hk).0)
    ∙ ap (map unsub) (add_twice (map sub s) k (m.0 ∙ sym hk.0))
    ∙ map_back sub unsub unsub-sub s hs.1

round_unround : (k s : Cells) → Sixteen k → Sixteen s → round_of k (unround_of k s) ≡ s
unfolding round_of unround_of
round_unround k s hk hs =
    let u : Cells = unshift_rows (unmix_columns s) in
    let m : Sixteen u = is_unmixed s hs in
    ap (λ (y : Cells). mixed_columns (shifted_rows (add y k))) (map_back unsub sub sub-unsub (add u k) (is_add u k m hk).1)
    ∙ ap (λ (y : Cells). mixed_columns (shifted_rows y)) (add_twice u k (m.0 ∙ sym hk.0))
    ∙ spread_unspread s hs.0

-- ---- what the rounds add are sixteen bytes each
next_small : (c : ℕ) → c < 64 → next c < 64
unfolding next
next_small c h = omega arith

constant_small : (i : ℕ) → constant_at i < 64
unfolding constant_at
constant_small zero = next_small 0 (omega arith)
constant_small (suc i) = next_small (constant_at i) (constant_small i)

is_constant : (c : ℕ) → c < 64 → Sixteen (constant_cells c)
is_constant c h =
    let lo : c % 16 < 256 = omega arith in
    let hi : c / 16 < 256 = omega arith in
    let t : ◌<◌ 2 256 = omega arith in
    let z = under_zeros 3 in
    (refl, (lo, under_append (0 ∷ 0 ∷ 0 ∷ []) (c / 16 ∷ 0 ∷ 0 ∷ 0 ∷ 2 ∷ 0 ∷ 0 ∷ 0 ∷ 0 ∷ 0 ∷ 0 ∷ 0 ∷ []) z (hi, under_append (0 ∷ 0 ∷ 0 ∷ []) (2 ∷ 0 ∷ 0 ∷ 0 ∷ 0 ∷ 0 ∷ 0 ∷ 0 ∷ []) z (t, under_zeros 7))))

is_top : (x : Cells) → Sixteen x → Sixteen (top x)
is_top x h = (rw (← spread-all 16 x h.0), under_append _ _ (under_row 0 x h.1) (under_append _ _ (under_row 1 x h.1) (under_zeros 8)))

is_permuted : (x : Cells) → Sixteen x → Sixteen (permuted x)
is_permuted x h = (refl, under_pick x (9 ∷ 15 ∷ 8 ∷ 13 ∷ 10 ∷ 14 ∷ 12 ∷ 11 ∷ 0 ∷ 1 ∷ 2 ∷ 3 ∷ 4 ∷ 5 ∷ 6 ∷ 7 ∷ []) h.1)

is_on_top : (f : ℕ → ℕ) → ((x : ℕ) → x < 256 → f x < 256) → (x : Cells) → Sixteen x → Sixteen (on_top f x)
is_on_top f b x h = (length-on_top f x h.0, under_append _ _ (under_map f b _ (under_take 8 x h.1)) (under_drop 8 x h.1))

are_keys : (n i : ℕ) (t1 t2 t3 : Cells) → Sixteen t1 → Sixteen t2 → Sixteen t3 → Each1 Sixteen (keys_of_rounds n i t1 t2 t3)
unfolding keys_of_rounds
are_keys zero i t1 t2 t3 h1 h2 h3 = tt
are_keys (suc n) i t1 t2 t3 h1 h2 h3 = (
  is_add (top (add (add t1 t2) t3)) (constant_cells (constant_at i)) (is_top (add (add t1 t2) t3) (is_add (add t1 t2) t3 (is_add t1 t2 h1 h2) h3)) (is_constant (constant_at i) (constant_small i)),
  are_keys n (suc i) (permuted t1) (step2 t2) (step3 t3) (is_permuted t1 h1) (is_on_top lfsr2 lfsr2_byte (permuted t2) (is_permuted t2 h2)) (is_on_top lfsr3 lfsr3_byte (permuted t3) (is_permuted t3 h3)),
)

-- ---- all rounds
is_rounds : (ks : List Cells) (s : Cells) → Each1 Sixteen ks → Sixteen s → Sixteen (rounds ks s)
unfolding rounds
is_rounds [] s hk hs = hs
is_rounds (k ∷ ks) s hk hs = is_rounds ks (round_of k s) hk.1 (is_round k s hk.0 hs)

is_unrounds : (ks : List Cells) (s : Cells) → Each1 Sixteen ks → Sixteen s → Sixteen (unrounds ks s)
unfolding unrounds
is_unrounds [] s hk hs = hs
is_unrounds (k ∷ ks) s hk hs = is_unround k (unrounds ks s) hk.0 (is_unrounds ks s hk.1 hs)

unrounds-rounds : (ks : List Cells) (s : Cells) → Each1 Sixteen ks → Sixteen s → unrounds ks (rounds ks s) ≡ s
unfolding rounds unrounds
unrounds-rounds [] s hk hs = refl
unrounds-rounds (k ∷ ks) s hk hs =
    ap (unround_of k) (unrounds-rounds ks (round_of k s) hk.1 (is_round k s hk.0 hs)) ∙ unround_round k s hk.0 hs

rounds-unrounds : (ks : List Cells) (s : Cells) → Each1 Sixteen ks → Sixteen s → rounds ks (unrounds ks s) ≡ s
unfolding rounds unrounds
rounds-unrounds [] s hk hs = refl
rounds-unrounds (k ∷ ks) s hk hs =
    ap (rounds ks) (round_unround k (unrounds ks s) hk.0 (is_unrounds ks s hk.1 hs)) ∙ rounds-unrounds ks s hk.1 hs

-- ---- the cipher on cells
module _ (t1 t2 t3 s : Cells) (h1 : Sixteen t1) (h2 : Sixteen t2) (h3 : Sixteen t3) (hs : Sixteen s) where
  keyed : Each1 Sixteen (keys_of_rounds 56 0 t1 t2 t3)
  keyed = are_keys 56 0 t1 t2 t3 h1 h2 h3

  is_encrypted : Sixteen (encrypted_cells t1 t2 t3 s)
  unfolding encrypted_cells
  is_encrypted = is_rounds (keys_of_rounds 56 0 t1 t2 t3) s keyed hs

  is_decrypted : Sixteen (decrypted_cells t1 t2 t3 s)
  unfolding decrypted_cells
  is_decrypted = is_unrounds (keys_of_rounds 56 0 t1 t2 t3) s keyed hs

  dec_enc : decrypted_cells t1 t2 t3 (encrypted_cells t1 t2 t3 s) ≡ s
  unfolding encrypted_cells decrypted_cells
  dec_enc = unrounds-rounds (keys_of_rounds 56 0 t1 t2 t3) s keyed hs

  enc_dec : encrypted_cells t1 t2 t3 (decrypted_cells t1 t2 t3 s) ≡ s
  unfolding encrypted_cells decrypted_cells
  enc_dec = rounds-unrounds (keys_of_rounds 56 0 t1 t2 t3) s keyed hs

-- ---- and on blocks
pub cells_are : (x : ℕ) → Sixteen (cells_of x)
unfolding cells_of
cells_are x = (length-bytes 16 x, under_bytes 16 x)

block_fits : (s : Cells) → Sixteen s → IsBlock (block_of s)
unfolding block_of
block_fits s h = subst (λ (n : ℕ). number_from_digits 256 s < 256 ^ n) h.0 (number_lt 256 s h.1)

cells_block : (s : Cells) → Sixteen s → cells_of (block_of s) ≡ s
unfolding cells_of block_of
cells_block s h = bytes_number 16 s h.0 h.1

block_cells : (x : ℕ) → IsBlock x → block_of (cells_of x) ≡ x
unfolding cells_of block_of
block_cells x h = number_bytes 16 x h

module _ (key head body x : ℕ) where
  pub encrypted_fits : IsBlock (encrypt_block key head body x)
  encrypted_fits = block_fits (encrypted_cells (cells_of head) (cells_of body) (cells_of key) (cells_of x)) (is_encrypted (cells_of head) (cells_of body) (cells_of key) (cells_of x) (cells_are head) (cells_are body) (cells_are key) (cells_are x))

  pub decrypted_fits : IsBlock (decrypt_block key head body x)
  decrypted_fits = block_fits (decrypted_cells (cells_of head) (cells_of body) (cells_of key) (cells_of x)) (is_decrypted (cells_of head) (cells_of body) (cells_of key) (cells_of x) (cells_are head) (cells_are body) (cells_are key) (cells_are x))

  pub decrypt_encrypt : IsBlock x → decrypt_block key head body (encrypt_block key head body x) ≡ x
  decrypt_encrypt h =
      let t1 = cells_of head in let t2 = cells_of body in let t3 = cells_of key in let s = cells_of x in
      ap (λ (y : Cells). block_of (decrypted_cells t1 t2 t3 y)) (cells_block (encrypted_cells t1 t2 t3 s) (is_encrypted t1 t2 t3 s (cells_are head) (cells_are body) (cells_are key) (cells_are x)))
      ∙ ap block_of (dec_enc t1 t2 t3 s (cells_are head) (cells_are body) (cells_are key) (cells_are x))
      ∙ block_cells x h

  pub encrypt_decrypt : IsBlock x → encrypt_block key head body (decrypt_block key head body x) ≡ x
  encrypt_decrypt h =
      let t1 = cells_of head in let t2 = cells_of body in let t3 = cells_of key in let s = cells_of x in
      ap (λ (y : Cells). block_of (encrypted_cells t1 t2 t3 y)) (cells_block (decrypted_cells t1 t2 t3 s) (is_decrypted t1 t2 t3 s (cells_are head) (cells_are body) (cells_are key) (cells_are x)))
      ∙ ap block_of (enc_dec t1 t2 t3 s (cells_are head) (cells_are body) (cells_are key) (cells_are x))
      ∙ block_cells x h
