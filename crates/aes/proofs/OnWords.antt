-- Words of four bytes, and four words as a state.
use Rattle.std.proofs.Common.{◌≡◌, ℕ, zero, suc, ◌+◌, ◌*◌, ◌/◌, ◌%◌, ◌^◌, ◌<◌, List, [], ◌∷◌, ◌++◌, map, get_or, sym, refl, ap, ◌∙◌, ap₂, mul_comm, suc-add, zero-add, div-one, arith, pow-add}
use native.Mathlib.Nat.{div-div-eq-div-mul, mul-add-mod_self_right}
use lib.Arith.{digits_mod}
use lib.Bits.{bit_and, bit_xor, bit_or, and_mask, xor_mod, xor_shr, xor_comm, xor_assoc, or_comm, or_shifted}
use Rattle.std.specs.List.{range_with_len}
use Rattle.std.specs.Int.Digits.{number_from_digits}
use Rattle.std.proofs.lemmas.List.FromFn.{get_or-map-range_with_len}
use Rattle.block.specs.Blocks.{bytes}
use Rattle.block.proofs.OnBytes.{bytes_number}
use Rattle.aes.specs.Field.{times}
use Rattle.aes.specs.Aes.{add, circulant, key_core, key_after}
use Rattle.aes.specs.Words.{state}
use Rattle.aes.specs.Walk.{turned as turned_of, diagonal, part}
use Rattle.aes.specs.declared.columns.Columns.{Columns}
use Rattle.block.proofs.Sums.{xor-left}
use Rattle.aes.proofs.OnField.{times_byte}

-- what `to_be_bytes` gives
abbrev pub be_bytes : ℕ → List ℕ
be_bytes w = w / 16777216 % 256 ∷ w / 65536 % 256 ∷ w / 256 % 256 ∷ w % 256 ∷ []

pub be_bytes_state : (w : ℕ) → be_bytes w ≡ bytes 4 w
be_bytes_state w = ap (λ (x : ℕ). w / 16777216 % 256 ∷ w / 65536 % 256 ∷ w / 256 % 256 ∷ x % 256 ∷ []) (sym (div-one w))

-- what is made of byte k of a word
pub byte_at : {X : Type 0} (f : ℕ → X) (k w : ℕ) (ws : List ℕ) {x : X} → x ≡ f (get_or ws k 0) → ws ≡ be_bytes w → x ≡ f (get_or (bytes 4 w) k 0)
byte_at f k w ws e is = e ∙ ap (λ (xs : List ℕ). f (get_or xs k 0)) (is ∙ be_bytes_state w)

pub bytes-xor : (u v : ℕ) → bytes 4 (bit_xor u v) ≡ add (bytes 4 u) (bytes 4 v)
bytes-xor u v =
    let at : (k : ℕ) → bit_xor u v / 2 ^ k % 2 ^ 8 ≡ bit_xor (u / 2 ^ k % 2 ^ 8) (v / 2 ^ k % 2 ^ 8) = λ k. ap (λ (n : ℕ). n % 2 ^ 8) (xor_shr u v k) ∙ xor_mod (u / 2 ^ k) (v / 2 ^ k) 8 in
    λ t. at 24 t ∷ at 16 t ∷ at 8 t ∷ at 0 t ∷ []

-- what `from_be_bytes` gives
pub word_bytes : (n p q r s : ℕ) → p < 256 → q < 256 → r < 256 → s < 256 → n ≡ p * 16777216 + q * 65536 + r * 256 + s → bytes 4 n ≡ (p ∷ q ∷ r ∷ s ∷ [])
word_bytes n p q r s hp hq hr hs e =
    let is : n ≡ number_from_digits 256 (p ∷ q ∷ r ∷ s ∷ []) = omega arith in
    ap (bytes 4) is ∙ bytes_number 4 (p ∷ q ∷ r ∷ s ∷ []) refl (hp, (hq, (hr, (hs, tt))))

-- ---- a table is compared, entry by entry, with what its rule f computes at 0 to 255; this carries it to one entry

pub entry : (f : ℕ → ℕ) (x : ℕ) → x < 256 → get_or (map f (range_with_len 0 256)) x 0 ≡ f x
entry f x h = get_or-map-range_with_len f 0 256 x x 0 h (omega arith)

-- ---- a column by four words of a table

abbrev pub turned : List ℕ → List ℕ
turned w = get_or w 3 0 ∷ get_or w 0 0 ∷ get_or w 1 0 ∷ get_or w 2 0 ∷ []

-- what `rotate_right(8)` gives
abbrev pub rotate : ℕ → ℕ
rotate w = bit_or (w / 2 ^ 8) (w * 2 ^ 24 % 2 ^ 32)

pub bytes-rotate : (w : ℕ) → w < 2 ^ 32 → bytes 4 (rotate w) ≡ turned (bytes 4 w)
bytes-rotate w h =
    let q : ℕ = w / 2 ^ 8 in
    let r : ℕ = w % 2 ^ 8 in
    let split : w * 2 ^ 24 ≡ w / 2 ^ 8 * 2 ^ 32 + w % 2 ^ 8 * 2 ^ 24 = omega arith in
    let low : w * 2 ^ 24 % 2 ^ 32 ≡ r * 2 ^ 24 = ap (λ (x : ℕ). x % 2 ^ 32) split ∙ digits_mod q {m = 2 ^ 32} {r = r * 2 ^ 24} (omega arith) in
    let whole : rotate w ≡ r * 2 ^ 24 + q = ap (bit_or q) low ∙ or_comm q (r * 2 ^ 24) ∙ or_shifted r 24 q (omega arith) in
    ap (bytes 4) whole ∙ parts q r w (omega arith) (omega arith) (omega arith)
  where
    -- a byte of the rotated word, above which stands a multiple of 256
    at : (m n x y : ℕ) → m ≡ n * 256 + x → y ≡ x → m % 256 ≡ y % 256
    at m n x y e f = ap (λ (z : ℕ). z % 256) e ∙ mul-add-mod_self_right n 256 x ∙ ap (λ (z : ℕ). z % 256) (sym f)

    parts : (q r w : ℕ) → q < 2 ^ 24 → r < 2 ^ 8 → w ≡ q * 2 ^ 8 + r → bytes 4 (r * 2 ^ 24 + q) ≡ turned (bytes 4 w)
    parts q r w hq hr e =
        let p0 = at ((r * 2 ^ 24 + q) / 16777216) 0 r (w % 256) (omega arith) (omega arith) in
        let p1 = at ((r * 2 ^ 24 + q) / 65536) r (q / 65536) (w / 16777216) (omega arith) (omega arith) in
        let p2 = at ((r * 2 ^ 24 + q) / 256) (r * 256) (q / 256) (w / 65536) (omega arith) (omega arith) in
        let p3 = at ((r * 2 ^ 24 + q) / 1) (r * 65536) q (w / 256) (omega arith) (omega arith) in
        let last : w % 256 % 256 ≡ w / 1 % 256 = omega arith in
        λ t. (p0 ∙ last) t ∷ p1 t ∷ p2 t ∷ p3 t ∷ []

-- the same four numbers in a sum, from each of them on
module _ (p q r s : ℕ) where
  sum0 : bit_xor p (bit_xor q (bit_xor r s)) ≡ bit_xor (bit_xor (bit_xor p q) r) s
  sum0 = simp (xor_comm, xor-left, xor_assoc)

  sum1 : bit_xor p (bit_xor q (bit_xor r s)) ≡ bit_xor (bit_xor (bit_xor q r) s) p
  sum1 = simp (xor_comm, xor-left, xor_assoc)

  sum2 : bit_xor p (bit_xor q (bit_xor r s)) ≡ bit_xor (bit_xor (bit_xor r s) p) q
  sum2 = simp (xor_comm, xor-left, xor_assoc)

  sum3 : bit_xor p (bit_xor q (bit_xor r s)) ≡ bit_xor (bit_xor (bit_xor s p) q) r
  sum3 = simp (xor_comm, xor-left, xor_assoc)

module _ (i j k l : ℕ) where
  summed : (a b c d : ℕ)
      → add (part i j k l a) (turned (add (part i j k l b) (turned (add (part i j k l c) (turned (part i j k l d)))))) ≡ circulant i j k l a b c d
  summed a b c d t =
      sum0 (times i a) (times j b) (times k c) (times l d) t
      ∷ sum1 (times l a) (times i b) (times j c) (times k d) t
      ∷ sum2 (times k a) (times l b) (times i c) (times j d) t
      ∷ sum3 (times j a) (times k b) (times l c) (times i d) t
      ∷ []

  pub column_code : (u v w z x y r a b c d : ℕ) → bytes 4 u ≡ part i j k l a → bytes 4 v ≡ part i j k l b → bytes 4 w ≡ part i j k l c → bytes 4 z ≡ part i j k l d
      → z < 2 ^ 32 → bit_xor w x < 2 ^ 32 → bit_xor v y < 2 ^ 32 → x ≡ rotate z → y ≡ rotate (bit_xor w x) → r ≡ rotate (bit_xor v y)
      → bytes 4 (bit_xor u r) ≡ circulant i j k l a b c d
  column_code u v w z x y r a b c d eu ev ew ez hz hx hy is_x is_y is-r =
      let at : bytes 4 x ≡ turned (part i j k l d) = ap (bytes 4) is_x ∙ bytes-rotate z hz ∙ ap turned ez in
      let on : bytes 4 y ≡ turned (add (part i j k l c) (turned (part i j k l d))) = ap (bytes 4) is_y ∙ bytes-rotate (bit_xor w x) hx ∙ ap turned (bytes-xor w x ∙ ap₂ add ew at) in
      let to : bytes 4 r ≡ turned (add (part i j k l b) (turned (add (part i j k l c) (turned (part i j k l d))))) = ap (bytes 4) is-r ∙ bytes-rotate (bit_xor v y) hy ∙ ap turned (bytes-xor v y ∙ ap₂ add ev on) in
      bytes-xor u r ∙ ap₂ add eu to ∙ summed a b c d

  -- an entry of the table of such words
  pub part_entry : (f : ℕ → ℕ) → ((x : ℕ) → x < 256 → f x < 256) → (x : ℕ) → x < 256
      → bytes 4 (get_or (map (λ y. number_from_digits 256 (part i j k l (f y))) (range_with_len 0 256)) x 0) ≡ part i j k l (f x)
  part_entry f keeps x h =
      let s = f x in
      let p = keeps x h in
      ap (bytes 4) (entry (λ y. number_from_digits 256 (part i j k l (f y))) x h)
      ∙ bytes_number 4 (part i j k l s) refl (times_byte i s p, (times_byte l s p, (times_byte k s p, (times_byte j s p, tt))))

-- ---- four words

abbrev pub columns : (a b c d : ℕ) → Columns
columns a b c d = record { a = a; b = b; c = c; d = d }

pub state-xor : (a b c d e f g h : ℕ) → state (columns (bit_xor a e) (bit_xor b f) (bit_xor c g) (bit_xor d h)) ≡ add (state (columns a b c d)) (state (columns e f g h))
unfolding state
state-xor a b c d e f g h t = bytes-xor a e t ++ (bytes-xor b f t ++ (bytes-xor c g t ++ bytes-xor d h t))

bytes-split : (j k n : ℕ) → bytes (j + k) n ≡ bytes j (n / 256 ^ k) ++ bytes k n
bytes-split zero k n = ap (λ (m : ℕ). bytes m n) (zero-add k)
bytes-split (suc j) k n =
    ap (λ (m : ℕ). bytes m n) (suc-add j k)
    ∙ ap₂ (λ (x : ℕ) (xs : List ℕ). x % 256 ∷ xs)
    (ap (λ (m : ℕ). n / m) (pow-add 256 j k ∙ mul_comm (256 ^ j) (256 ^ k)) ∙ sym (div-div-eq-div-mul n (256 ^ k) (256 ^ j)))
    (bytes-split j k n)

low_word : (m : ℕ) → bytes 4 (bit_and m 0xffff_ffff) ≡ bytes 4 m
low_word m =
    let p0 : m % 2 ^ 32 / 16777216 % 256 ≡ m / 16777216 % 256 = omega arith in
    let p1 : m % 2 ^ 32 / 65536 % 256 ≡ m / 65536 % 256 = omega arith in
    let p2 : m % 2 ^ 32 / 256 % 256 ≡ m / 256 % 256 = omega arith in
    let p3 : m % 2 ^ 32 / 1 % 256 ≡ m / 1 % 256 = omega arith in
    ap (bytes 4) (and_mask m 32) ∙ (λ t. p0 t ∷ p1 t ∷ p2 t ∷ p3 t ∷ [])

pub from_block : (x : ℕ) → state (columns (x / 2 ^ 96) (bit_and (x / 2 ^ 64) 0xffff_ffff) (bit_and (x / 2 ^ 32) 0xffff_ffff) (bit_and x 0xffff_ffff)) ≡ bytes 16 x
unfolding state
from_block x =
    (λ t. bytes 4 (x / 2 ^ 96) ++ (low_word (x / 2 ^ 64) t ++ (low_word (x / 2 ^ 32) t ++ low_word x t)))
    ∙ ap (λ (r : List ℕ). bytes 4 (x / 2 ^ 96) ++ (bytes 4 (x / 2 ^ 64) ++ r)) (sym (bytes-split 4 4 x))
    ∙ ap (λ (r : List ℕ). bytes 4 (x / 2 ^ 96) ++ r) (sym (bytes-split 4 8 x))
    ∙ sym (bytes-split 4 12 x)

-- four columns, each by its own equation
pub state_is : (a b c d : ℕ) {A B C D : List ℕ} → bytes 4 a ≡ A → bytes 4 b ≡ B → bytes 4 c ≡ C → bytes 4 d ≡ D → state (columns a b c d) ≡ A ++ (B ++ (C ++ D))
unfolding state
state_is a b c d p q r s t = p t ++ (q t ++ (r t ++ s t))

-- the same where each column is f of the diagonal of x, turned to it
module _ (f : List ℕ → List ℕ) (order : Columns → Columns) where
  pub turned_state : {x x1 x2 x3 : Columns} {p q r s : List ℕ} (a b c d : ℕ) → x1 ≡ turned_of x → x2 ≡ turned_of x1 → x3 ≡ turned_of x2
      → p ≡ diagonal order x → q ≡ diagonal order x1 → r ≡ diagonal order x2 → s ≡ diagonal order x3
      → bytes 4 a ≡ f p → bytes 4 b ≡ f q → bytes 4 c ≡ f r → bytes 4 d ≡ f s
      → state (columns a b c d)
      ≡ f (diagonal order x) ++ (f (diagonal order (turned_of x)) ++ (f (diagonal order (turned_of (turned_of x))) ++ f (diagonal order (turned_of (turned_of (turned_of x))))))
  turned_state a b c d e1 e2 e3 hp hq hr hs ha hb hc hd =
      let two = e2 ∙ ap turned_of e1 in
      let three = e3 ∙ ap turned_of two in
      state_is a b c d (ha ∙ ap f hp) (hb ∙ ap f (hq ∙ ap (diagonal order) e1)) (hc ∙ ap f (hr ∙ ap (diagonal order) two)) (hd ∙ ap f (hs ∙ ap (diagonal order) three))

pub next_code : (rc a b c d t : ℕ) → bytes 4 t ≡ key_core rc (bytes 4 d)
    → state (columns (bit_xor a t) (bit_xor b (bit_xor a t)) (bit_xor c (bit_xor b (bit_xor a t))) (bit_xor d (bit_xor c (bit_xor b (bit_xor a t))))) ≡ key_after rc (state (columns a b c d))
unfolding state key_after
next_code rc a b c d t e =
    let ea = bytes-xor a t ∙ ap (add (bytes 4 a)) e in
    let eb = bytes-xor b (bit_xor a t) ∙ ap (add (bytes 4 b)) ea in
    let ec = bytes-xor c (bit_xor b (bit_xor a t)) ∙ ap (add (bytes 4 c)) eb in
    let ed = bytes-xor d (bit_xor c (bit_xor b (bit_xor a t))) ∙ ap (add (bytes 4 d)) ec in
    λ x. ea x ++ (eb x ++ (ec x ++ ed x))
