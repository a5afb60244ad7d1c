-- The loops: the key schedule, the rounds as the code takes them, and the round keys of decryption.
use Rattle.std.proofs.Common.{◌≡◌, ℕ, zero, suc, ◌+◌, ◌≤◌, ◌<◌, List, [], ◌∷◌, length, get_or, map, take, drop, set, reverse, ◌++◌, fold, sym, refl, ap, ◌∙◌, ap₂, zero-add, arith}
use Rattle.std.proofs.lemmas.List.{get_or-map, take_more_set, map_push, take_all, drop_all, take-map, drop-map, drop-drop, length-map, map-append, append-nil, reverse-append}
use Rattle.std.specs.List.{range_with_len}
use Rattle.std.proofs.lemmas.List.FromFn.{map-range_with_len_more}
use Rattle.std.proofs.lemmas.List.Sums.{fold_more}
use Rattle.std.proofs.lemmas.Simd.{map-map}
use Rattle.std.specs.Int.Digits.{number_from_digits}
use Rattle.block.specs.Blocks.{bytes}
use Rattle.aes.specs.Aes.{State, add, sub_bytes, inv_sub_bytes, shifted_rows, inv_shift_rows, mixed_columns, inv_mixed_columns, round_key, round, rounds, cipher, inv_round_of, inv_rounds, inv_cipher, aes_encrypted, aes_decrypted}
use Rattle.aes.specs.Words.{state, keys_of_rounds}
use Rattle.aes.specs.Walk.{walked, inverted_keys}
use Rattle.aes.specs.declared.columns.Columns.{Columns}
use Rattle.aes.proofs.Inverse.{is_bytes, is_key, inv_round_is}

-- ---- the key schedule

module _ (f : Columns → State) (g : ℕ → State) where
  -- one more key stored, after the first i
  pub stored_more : (ks : List Columns) (i : ℕ) (k : Columns) → i < length ks → f k ≡ g i → map f (take i ks) ≡ map g (range_with_len 0 i)
      → map f (take (i + 1) (set ks i k)) ≡ map g (range_with_len 0 (i + 1))
  stored_more ks i k h e so_far =
      ap (map f) (take_more_set ks i k h) ∙ map_push f (take i ks) k
      ∙ ap₂ (λ (xs : List State) (x : State). xs ++ (x ∷ [])) so_far e
      ∙ sym (map-range_with_len_more g 0 i i (zero-add i))

-- ---- the rounds

-- a turn of the loop over the keys ms, and the last round
pub walk_turns : (sub_shift mix : State → State) (ms : List Columns) (first x y : State) (i : ℕ) (d : Columns) → i < length ms
    → y ≡ add (mix (sub_shift x)) (state (get_or ms i d))
    → x ≡ fold (λ x k. add (mix (sub_shift x)) k) first (take i (map state ms))
    → y ≡ fold (λ x k. add (mix (sub_shift x)) k) first (take (i + 1) (map state ms))
walk_turns sub_shift mix ms first x y i d h is_y is_x =
    let step : State → State → State = λ x k. add (mix (sub_shift x)) k in
    let m : i < length (map state ms) = simp length-map h in
    is_y ∙ ap₂ step is_x (sym (get_or-map state ms i d [] h)) ∙ sym (fold_more step first (map state ms) i [] m)

pub walk_ends : (sub_shift mix : State → State) (ks : List Columns) (s first x : State) (i : ℕ) (d e : Columns) → length ks ≡ 11 → length (take 9 (drop 1 ks)) ≤ i
    → first ≡ add s (state (get_or ks 0 d))
    → x ≡ fold (λ x k. add (mix (sub_shift x)) k) first (take i (map state (take 9 (drop 1 ks))))
    → add (sub_shift x) (state (get_or ks 10 e)) ≡ walked sub_shift mix (map state ks) s
unfolding walked
walk_ends sub_shift mix ks s first x i d e n over is_first is_x =
    let m : length (map state (take 9 (drop 1 ks))) ≤ i = simp length-map over in
    let h0 : 0 < length ks = omega arith in
    let h10 : 10 < length ks = omega arith in
    let all : take i (map state (take 9 (drop 1 ks))) ≡ take 9 (drop 1 (map state ks)) =
    take_all i (map state (take 9 (drop 1 ks))) m ∙ sym (ap (take 9) (drop-map state 1 ks) ∙ take-map state 9 (drop 1 ks)) in
    ap₂ (λ (y k : State). add (sub_shift y) k)
    (is_x ∙ ap₂ (fold (λ x k. add (mix (sub_shift x)) k)) (is_first ∙ ap (add s) (sym (get_or-map state ks 0 d [] h0))) all)
    (sym (get_or-map state ks 10 e [] h10))

pub encrypted_walked : (key x : ℕ) {ks : List State} → ks ≡ keys_of_rounds key → number_from_digits 256 (walked (λ s. shifted_rows (sub_bytes s)) mixed_columns ks (bytes 16 x)) ≡ aes_encrypted key x
unfolding walked keys_of_rounds rounds round cipher aes_encrypted
encrypted_walked key x e = ap (λ (ks : List State). number_from_digits 256 (walked (λ s. shifted_rows (sub_bytes s)) mixed_columns ks (bytes 16 x))) e

abbrev inv_sub_shift : State → State
inv_sub_shift s = inv_sub_bytes (inv_shift_rows s)

abbrev inv_step : State → State → State
inv_step s k = add (inv_mixed_columns (inv_sub_shift s)) k

-- the round keys from n down to 1, through InvMixColumns
down : State → ℕ → List State
down key zero = []
down key (suc n) = inv_mixed_columns (round_key key (suc n)) ∷ down key n

inv_rounds_walked : (key : ℕ) (n : ℕ) (s : State) → fold inv_step s (down (bytes 16 key) n) ≡ inv_rounds (bytes 16 key) n s
unfolding down inv_rounds
inv_rounds_walked key zero s = refl
inv_rounds_walked key (suc n) s =
    let k = round_key (bytes 16 key) (suc n) in
    ap (λ (t : State). fold inv_step t (down (bytes 16 key) n)) (sym (inv_round_is k s (is_key (bytes 16 key) (is_bytes key) (suc n)).0))
    ∙ inv_rounds_walked key n (inv_round_of k s)

pub decrypted_walked : (key x : ℕ) {ks : List State} → ks ≡ inverted_keys (keys_of_rounds key) → number_from_digits 256 (walked inv_sub_shift inv_mixed_columns ks (bytes 16 x)) ≡ aes_decrypted key x
unfolding walked inverted_keys keys_of_rounds down inv_cipher aes_decrypted
decrypted_walked key x e =
    let k = bytes 16 key in
    ap (λ (ks : List State). number_from_digits 256 (walked inv_sub_shift inv_mixed_columns ks (bytes 16 x))) e
    ∙ ap (λ (s : State). number_from_digits 256 (add (inv_sub_shift s) (round_key k 0))) (inv_rounds_walked key 9 (add (bytes 16 x) (round_key k 10)))

-- ---- the round keys of decryption

map-reverse : {X Y : Type 0} (f : X → Y) (xs : List X) → map f (reverse xs) ≡ reverse (map f xs)
map-reverse f [] = refl
map-reverse {X} {Y} f (x ∷ xs) =
    ap (map f) (reverse-append (x ∷ []) xs)
    ∙ map-append f (reverse xs) (x ∷ [])
    ∙ ap (λ (ys : List Y). ys ++ (f x ∷ [])) (map-reverse f xs)
    ∙ sym (reverse-append (f x ∷ []) (map f xs))

abbrev inverted : Columns → State
inverted k = inv_mixed_columns (state k)

-- rs has the keys backwards, and ls the middle ones as the loop leaves them
pub inverts : (ks rs ls : List Columns) (i : ℕ) → rs ≡ reverse ks → length ls ≤ i
    → map state (take i ls) ++ map inverted (drop i ls) ≡ map inverted (take 9 (drop 1 rs))
    → map state (take 1 rs ++ (ls ++ drop 9 (drop 1 rs))) ≡ inverted_keys (map state ks)
unfolding inverted_keys
inverts ks rs ls i back over turn =
    let keys : map state rs ≡ reverse (map state ks) = ap (map state) back ∙ map-reverse state ks in
    let mid : map state (take 9 (drop 1 rs)) ≡ take 9 (drop 1 (map state rs)) = sym (ap (take 9) (drop-map state 1 rs) ∙ take-map state 9 (drop 1 rs)) in
    let done : map state ls ≡ map inv_mixed_columns (take 9 (drop 1 (map state rs))) =
    sym (append-nil (map state ls))
    ∙ sym (ap₂ (λ (xs ys : List Columns). map state xs ++ map inverted ys) (take_all i ls over) (drop_all i ls over))
    ∙ turn
    ∙ sym (map-map inv_mixed_columns state (take 9 (drop 1 rs)))
    ∙ ap (map inv_mixed_columns) mid in
    let last : map state (drop 9 (drop 1 rs)) ≡ drop 10 (map state rs) = sym (ap (drop 9) (drop-map state 1 rs) ∙ drop-map state 9 (drop 1 rs)) ∙ drop-drop 9 1 (map state rs) in
    map-append state (take 1 rs) (ls ++ drop 9 (drop 1 rs))
    ∙ ap₂ (λ (xs ys : List State). xs ++ ys) (sym (take-map state 1 rs)) (map-append state ls (drop 9 (drop 1 rs)) ∙ ap₂ (λ (xs ys : List State). xs ++ ys) done last)
    ∙ ap (λ (xs : List State). take 1 xs ++ (map inv_mixed_columns (take 9 (drop 1 xs)) ++ drop 10 xs)) keys
