-- The cipher and its inverse undo each other.
use Rattle.std.proofs.Common.{◌≡◌, ℕ, zero, suc, ◌*◌, ◌^◌, ◌<◌, List, [], ◌∷◌, ◌++◌, map, length, get_or, drop, refl, ap, ◌∙◌, subst, ap₂, arith}
use lib.Bits.{bit_xor, xor_lt}
use Rattle.std.specs.Int.Digits.{number_from_digits, AllBelowBase}
use Rattle.std.proofs.lemmas.Int.Digits.{number_lt}
use Rattle.block.specs.Blocks.{IsBlock, bytes}
use Rattle.block.proofs.Sums.{cancel}
use Rattle.block.proofs.Sixteen.{spread, spread-all}
use Rattle.block.proofs.OnBytes.{length-bytes, under_bytes, number_bytes, bytes_number, under_take, under_drop, under_append, under_slice_index, under_pick, under_add}
use Rattle.aes.specs.Field.{sbox, inv_sbox}
use Rattle.aes.specs.Aes.{State, add, column, sub_bytes, inv_sub_bytes, leftward, rightward, shifted_rows, inv_shift_rows, dot, circulant, on_column, on_columns, mixed_columns, inv_mixed_columns, key_core, key_after, round_constant, round_key, round, rounds, cipher, inv_round_of, inv_rounds, inv_cipher, aes_encrypted, aes_decrypted, Inverses}
use Rattle.aes.proofs.OnField.{double_byte, dot_byte, dot-add, sbox_byte, inv_sbox_byte, sbox_back, sbox-forth, mix_back, mix-forth}

abbrev pub IsState : State → Type 0
IsState s = (length s ≡ 16) × AllBelowBase 256 s

-- a fact of every list of 16, from the list written out
sixteen : (P : State → Type 0) → ((xs : State) → P (spread 16 0 xs)) → (s : State) → length s ≡ 16 → P s
sixteen P p s h = subst P (spread-all 16 s h) (p s)

-- ---- what keeps states, and is undone

abbrev Undone : (State → State) → (State → State) → Type 0
Undone f g = (s : State) → IsState s → IsState (f s) × (g (f s) ≡ s)

abbrev Inverted : (State → State) → (State → State) → Type 0
Inverted f g = Undone f g × Undone g f

undone_then : (f g f' g' : State → State) → Undone f g → Undone f' g' → Undone (λ s. f' (f s)) (λ s. g (g' s))
undone_then f g f' g' p q s h =
    let a = p s h in
    let b = q (f s) a.0 in
    (b.0, ap g b.1 ∙ a.1)

inverted_then : (f g f' g' : State → State) → Inverted f g → Inverted f' g' → Inverted (λ s. f' (f s)) (λ s. g (g' s))
inverted_then f g f' g' p q = (undone_then f g f' g' p.0 q.0, undone_then g' f' g f q.1 p.1)

-- ---- the steps

pub map_undone : (f g : ℕ → ℕ) → ((x : ℕ) → x < 256 → f x < 256) → ((x : ℕ) → x < 256 → g (f x) ≡ x) → (n : ℕ) (xs : List ℕ) → (length xs ≡ n) × AllBelowBase 256 xs
    → ((length (map f xs) ≡ n) × AllBelowBase 256 (map f xs)) × (map g (map f xs) ≡ xs)
map_undone f g keeps back n [] h = (h, refl)
map_undone f g keeps back zero (x ∷ xs) h = absurd (omega (arith, h.0))
map_undone f g keeps back (suc n) (x ∷ xs) h =
    let r = map_undone f g keeps back n xs (omega (arith, h.0), h.1.1) in
    ((ap suc r.0.0, (keeps x h.1.0, r.0.1)), ap₂ (λ (y : ℕ) (ys : List ℕ). y ∷ ys) (back x h.1.0) r.1)

sub_inverted : Inverted sub_bytes inv_sub_bytes
sub_inverted = (map_undone sbox inv_sbox sbox_byte sbox_back 16, map_undone inv_sbox sbox inv_sbox_byte sbox-forth 16)

shift_inverted : Inverted shifted_rows inv_shift_rows
unfolding shifted_rows inv_shift_rows
shift_inverted = (
  λ s h. ((refl, under_pick s leftward h.1), sixteen (λ y. inv_shift_rows (shifted_rows y) ≡ y) (λ xs. refl) s h.0),
  λ s h. ((refl, under_pick s rightward h.1), sixteen (λ y. shifted_rows (inv_shift_rows y) ≡ y) (λ xs. refl) s h.0),
)

module _ (i j k l i' j' k' l' : ℕ) (back : (a b c d : ℕ) → dot i' j' k' l' (dot i j k l a b c d) (dot i j k l b c d a) (dot i j k l c d a b) (dot i j k l d a b c) ≡ a) where
  under_column : (w : List ℕ) → AllBelowBase 256 w → AllBelowBase 256 (on_column i j k l w)
  under_column w p =
      let a = get_or w 0 0 in let b = get_or w 1 0 in let c = get_or w 2 0 in let d = get_or w 3 0 in
      let ha = under_slice_index w 0 p in let hb = under_slice_index w 1 p in let hc = under_slice_index w 2 p in let hd = under_slice_index w 3 p in
      (dot_byte i j k l a b c d ha hb hc hd, (dot_byte i j k l b c d a hb hc hd ha, (dot_byte i j k l c d a b hc hd ha hb, (dot_byte i j k l d a b c hd ha hb hc, tt))))

  under_columns : (s : State) → AllBelowBase 256 s → AllBelowBase 256 (on_columns i j k l s)
  unfolding on_columns
  under_columns s p =
      let at : (c : ℕ) → AllBelowBase 256 (on_column i j k l (column c s)) = λ c. under_column (column c s) (under_take 4 (drop (4 * c) s) (under_drop (4 * c) s p)) in
      let m : ℕ → List ℕ = λ c. on_column i j k l (column c s) in
      under_append (m 0) (m 1 ++ (m 2 ++ m 3)) (at 0) (under_append (m 1) (m 2 ++ m 3) (at 1) (under_append (m 2) (m 3) (at 2) (at 3)))

  back_column : (a b c d : ℕ) → on_column i' j' k' l' (circulant i j k l a b c d) ≡ (a ∷ b ∷ c ∷ d ∷ [])
  back_column a b c d t = back a b c d t ∷ back b c d a t ∷ back c d a b t ∷ back d a b c t ∷ []

  columns_undone : Undone (on_columns i j k l) (on_columns i' j' k' l')
  unfolding on_columns
  columns_undone s h =
      let at : (xs : List ℕ) → on_columns i' j' k' l' (on_columns i j k l (spread 16 0 xs)) ≡ spread 16 0 xs =
      λ xs t. back_column (get_or xs 0 0) (get_or xs 1 0) (get_or xs 2 0) (get_or xs 3 0) t
      ++ (back_column (get_or xs 4 0) (get_or xs 5 0) (get_or xs 6 0) (get_or xs 7 0) t
      ++ (back_column (get_or xs 8 0) (get_or xs 9 0) (get_or xs 10 0) (get_or xs 11 0) t
      ++ back_column (get_or xs 12 0) (get_or xs 13 0) (get_or xs 14 0) (get_or xs 15 0) t)) in
      ((refl, under_columns s h.1), sixteen (λ y. on_columns i' j' k' l' (on_columns i j k l y) ≡ y) at s h.0)

mix_inverted : Inverted mixed_columns inv_mixed_columns
mix_inverted = (columns_undone 2 3 1 1 14 11 13 9 mix_back, columns_undone 14 11 13 9 2 3 1 1 mix-forth)

add_undone : (n : ℕ) (xs ks : List ℕ) → length xs ≡ n → length ks ≡ n → (length (add xs ks) ≡ n) × (add (add xs ks) ks ≡ xs)
add_undone n [] ks h e = (h, refl)
add_undone n (x ∷ xs) [] h e = absurd (omega arith)
add_undone zero (x ∷ xs) (k ∷ ks) h e = absurd (omega arith)
add_undone (suc n) (x ∷ xs) (k ∷ ks) h e =
    let r = add_undone n xs ks (omega arith) (omega arith) in
    (ap suc r.0, ap₂ (λ (y : ℕ) (ys : List ℕ). y ∷ ys) (cancel x k) r.1)

add_inverted : (k : State) → IsState k → Inverted (λ s. add s k) (λ s. add s k)
add_inverted k hk =
    let once : Undone (λ s. add s k) (λ s. add s k) =
    λ s h. let r = add_undone 16 s k h.0 hk.0 in ((r.0, under_add s k h.1 hk.1), r.1) in
    (once, once)

-- ---- the round keys

constant_byte : (i : ℕ) → round_constant i < 256
unfolding round_constant
constant_byte zero = omega arith
constant_byte (suc i) = double_byte (round_constant i)

length-next : (rc : ℕ) (k : State) → length k ≡ 16 → length (key_after rc k) ≡ 16
unfolding key_after
length-next rc k h = sixteen (λ y. length (key_after rc y) ≡ 16) (λ xs. refl) k h

is_next : (rc : ℕ) (k : State) → rc < 256 → IsState k → IsState (key_after rc k)
unfolding key_after
is_next rc k hr hk =
    let col : (c : ℕ) → AllBelowBase 256 (column c k) = λ c. under_take 4 (drop (4 * c) k) (under_drop (4 * c) k hk.1) in
    let w = column 3 k in
    let g : (i : ℕ) → sbox (get_or w i 0) < 256 = λ i. sbox_byte (get_or w i 0) (under_slice_index w i (col 3)) in
    let t : AllBelowBase 256 (key_core rc w) = (xor_lt 8 (sbox (get_or w 1 0)) rc (g 1) hr, (g 2, (g 3, (g 0, tt)))) in
    let a = under_add (column 0 k) (key_core rc w) (col 0) t in
    let b = under_add (column 1 k) _ (col 1) a in
    let c = under_add (column 2 k) _ (col 2) b in
    let d = under_add (column 3 k) _ (col 3) c in
    (length-next rc k hk.0, under_append _ _ a (under_append _ _ b (under_append _ _ c d)))

pub is_key : (key : State) → IsState key → (i : ℕ) → IsState (round_key key i)
unfolding round_key
is_key key h zero = h
is_key key h (suc i) = is_next (round_constant i) (round_key key i) (constant_byte i) (is_key key h i)

-- ---- the whole

module _ (key : State) (hk : IsState key) where
  -- SubBytes and ShiftRows
  subbed : Inverted (λ s. shifted_rows (sub_bytes s)) (λ s. inv_sub_bytes (inv_shift_rows s))
  subbed = inverted_then sub_bytes inv_sub_bytes shifted_rows inv_shift_rows sub_inverted shift_inverted

  keyed : (i : ℕ) → Inverted (λ s. add s (round_key key i)) (λ s. add s (round_key key i))
  keyed i = add_inverted (round_key key i) (is_key key hk i)

  rounds_inverted : (n : ℕ)
      → Inverted (λ s. shifted_rows (sub_bytes (rounds key n s))) (λ s. add (inv_sub_bytes (inv_shift_rows (inv_rounds key n s))) (round_key key 0))
  unfolding rounds round inv_rounds inv_round_of
  rounds_inverted zero = inverted_then _ _ _ _ (keyed 0) subbed
  rounds_inverted (suc n) =
      inverted_then _ _ _ _ (rounds_inverted n) (inverted_then mixed_columns inv_mixed_columns _ _ mix_inverted (inverted_then _ _ _ _ (keyed (suc n)) subbed))

  cipher_inverted : Inverted (cipher key) (inv_cipher key)
  unfolding cipher inv_cipher
  cipher_inverted = inverted_then _ _ _ _ (rounds_inverted 9) (keyed 10)

-- ---- on numbers

pub is_bytes : (x : ℕ) → IsState (bytes 16 x)
is_bytes x = (length-bytes 16 x, under_bytes 16 x)

on_numbers : (f g : State → State) → Undone f g → (x : ℕ) → IsBlock x → number_from_digits 256 (g (bytes 16 (number_from_digits 256 (f (bytes 16 x))))) ≡ x
on_numbers f g p x h =
    let r = p (bytes 16 x) (is_bytes x) in
    ap (λ (s : State). number_from_digits 256 (g s)) (bytes_number 16 (f (bytes 16 x)) r.0.0 r.0.1)
    ∙ ap (number_from_digits 256) r.1 ∙ number_bytes 16 x h

pub inverses : Inverses
unfolding aes_encrypted aes_decrypted
inverses =
    record {
      decenc = λ key x h. on_numbers (cipher (bytes 16 key)) (inv_cipher (bytes 16 key)) (cipher_inverted (bytes 16 key) (is_bytes key)).0 x h;
      encdec = λ key x h. on_numbers (inv_cipher (bytes 16 key)) (cipher (bytes 16 key)) (cipher_inverted (bytes 16 key) (is_bytes key)).1 x h;
    }

number_block : (s : State) → IsState s → IsBlock (number_from_digits 256 s)
number_block s h = subst (λ (n : ℕ). number_from_digits 256 s < 256 ^ n) h.0 (number_lt 256 s h.1)

pub encrypted_block : (key x : ℕ) → IsBlock (aes_encrypted key x)
unfolding aes_encrypted
encrypted_block key x = number_block _ ((cipher_inverted (bytes 16 key) (is_bytes key)).0 (bytes 16 x) (is_bytes x)).0

pub decrypted_block : (key x : ℕ) → IsBlock (aes_decrypted key x)
unfolding aes_decrypted
decrypted_block key x = number_block _ ((cipher_inverted (bytes 16 key) (is_bytes key)).1 (bytes 16 x) (is_bytes x)).0

-- ---- InvMixColumns of a sum

pub inv_mix_add : (x y : State) → length x ≡ 16 → length y ≡ 16 → inv_mixed_columns (add x y) ≡ add (inv_mixed_columns x) (inv_mixed_columns y)
unfolding on_columns
inv_mix_add x y hx hy =
    sixteen (λ v. inv_mixed_columns (add v y) ≡ add (inv_mixed_columns v) (inv_mixed_columns y))
    (λ xs. sixteen (λ w. inv_mixed_columns (add (spread 16 0 xs) w) ≡ add (inv_mixed_columns (spread 16 0 xs)) (inv_mixed_columns w)) (written xs) y hy) x hx
  where
    col : (a b c d e f g h : ℕ) → circulant 14 11 13 9 (bit_xor a e) (bit_xor b f) (bit_xor c g) (bit_xor d h) ≡ add (circulant 14 11 13 9 a b c d) (circulant 14 11 13 9 e f g h)
    col a b c d e f g h t =
        dot-add 14 11 13 9 a b c d e f g h t ∷ dot-add 14 11 13 9 b c d a f g h e t ∷ dot-add 14 11 13 9 c d a b g h e f t ∷ dot-add 14 11 13 9 d a b c h e f g t ∷ []

    written : (xs ys : State) → inv_mixed_columns (add (spread 16 0 xs) (spread 16 0 ys)) ≡ add (inv_mixed_columns (spread 16 0 xs)) (inv_mixed_columns (spread 16 0 ys))
    written xs ys t =
        col (get_or xs 0 0) (get_or xs 1 0) (get_or xs 2 0) (get_or xs 3 0) (get_or ys 0 0) (get_or ys 1 0) (get_or ys 2 0) (get_or ys 3 0) t
        ++ (col (get_or xs 4 0) (get_or xs 5 0) (get_or xs 6 0) (get_or xs 7 0) (get_or ys 4 0) (get_or ys 5 0) (get_or ys 6 0) (get_or ys 7 0) t
        ++ (col (get_or xs 8 0) (get_or xs 9 0) (get_or xs 10 0) (get_or xs 11 0) (get_or ys 8 0) (get_or ys 9 0) (get_or ys 10 0) (get_or ys 11 0) t
        ++ col (get_or xs 12 0) (get_or xs 13 0) (get_or xs 14 0) (get_or xs 15 0) (get_or ys 12 0) (get_or ys 13 0) (get_or ys 14 0) (get_or ys 15 0) t))

-- a round of the inverse cipher, with the key through InvMixColumns
pub inv_round_is : (k s : State) → length k ≡ 16 → inv_round_of k s ≡ add (inv_mixed_columns (inv_sub_bytes (inv_shift_rows s))) (inv_mixed_columns k)
unfolding inv_round_of inv_shift_rows
inv_round_is k s h = inv_mix_add (inv_sub_bytes (inv_shift_rows s)) k refl h
