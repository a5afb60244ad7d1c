-- Numbers of 16 bits in bytes: two bytes written and read, and a loop that writes them.
use Rattle.std.specs.Prelude.{◌≡◌, ℕ, zero, suc, ◌+◌, ◌*◌, ◌/◌, ◌%◌, ◌^◌, ◌<◌, ◌≤◌, true, List, [], ◌∷◌, ◌++◌, length, take, drop, nat_le, slice_index, slice_set, refl}
use Rattle.std.proofs.Common.{sym, ap, ap₂, subst, ◌∙◌, append_assoc, arith, add-one, drop-cons, take-add}
use Rattle.std.specs.Int.Digits.{number_from_digits, AllBelowBase}
use Rattle.std.proofs.lemmas.List.{length-drop, take_at, drop_at, drop-drop, take_more, length-take-le}
use Rattle.std.proofs.lemmas.Int.Digits.{number_lt}
use Rattle.std.proofs.lemmas.Bool.{and_parts, leb-true}
use Rattle.block.specs.Blocks.{bytes}
use Rattle.block.proofs.OnBytes.{under_bytes, under_append, under_take, under_drop, bytes_number, number_bytes}
use Rattle.record.specs.Rules.{within}
use Rattle.record.specs.Sixteens.{sixteens, field}

-- two elements set side by side
pub set_two : (m : List ℕ) (i a b : ℕ) → i + 2 ≤ length m → slice_set (slice_set m i a) (suc i) b ≡ take i m ++ (a ∷ b ∷ drop (suc (suc i)) m)
set_two [] i a b h = absurd (omega arith)
set_two (x ∷ []) i a b h = absurd (omega arith)
set_two (x ∷ y ∷ m) zero a b h = refl
set_two (x ∷ y ∷ m) (suc i) a b h = ap (λ r. x ∷ r) (set_two (y ∷ m) i a b (omega arith))

pub two_at : (x : List ℕ) (i : ℕ) → i + 2 ≤ length x → take 2 (drop i x) ≡ slice_index x i ∷ slice_index x (suc i) ∷ []
two_at x i h =
    ap (take 2) (drop-cons x i 0 (omega arith))
    ∙ ap (λ r. slice_index x i ∷ take 1 r) (drop-cons x (suc i) 0 (omega arith))

pub field_at : (x : List ℕ) (k : ℕ) → 2 * k + 2 ≤ length x → slice_index x (2 * k) * 256 + slice_index x (2 * k + 1) ≡ field k x
field_at x k h =
    ap (λ i. slice_index x (2 * k) * 256 + slice_index x i) (add-one (2 * k))
    ∙ digits (slice_index x (2 * k)) (slice_index x (suc (2 * k)))
    ∙ sym (ap (number_from_digits 256) (two_at x (2 * k) h))
  where
    digits : (a b : ℕ) → a * 256 + b ≡ number_from_digits 256 (a ∷ b ∷ [])
    digits a b = omega arith

pub bytes_two : (n : ℕ) → n / 256 % 256 ∷ n % 256 ∷ [] ≡ bytes 2 n
bytes_two n = ap (λ b. n / 256 % 256 ∷ b ∷ []) (omega arith)

pub length-sixteens : (ns : List ℕ) → length (sixteens ns) ≡ 2 * length ns
length-sixteens [] = refl
length-sixteens (n ∷ ns) = let h = length-sixteens ns in omega arith

pub under_sixteens : (ns : List ℕ) → AllBelowBase 256 (sixteens ns)
under_sixteens [] = tt
under_sixteens (n ∷ ns) = under_append (bytes 2 n) (sixteens ns) (under_bytes 2 n) (under_sixteens ns)

sixteens-push : (ns : List ℕ) (n : ℕ) → sixteens (ns ++ (n ∷ [])) ≡ sixteens ns ++ bytes 2 n
sixteens-push [] n = refl
sixteens-push (x ∷ ns) n = ap (λ r. bytes 2 x ++ r) (sixteens-push ns n) ∙ sym (append_assoc (bytes 2 x) (sixteens ns) (bytes 2 n))

-- the numbers before place k written, and one more
pub sixteens_more : (ns m : List ℕ) (k : ℕ) (m₀ m₁ : List ℕ) → k < length ns
    → m₀ ≡ sixteens (take k ns) ++ drop (2 * k) m
    → m₁ ≡ take (2 * k) m₀ ++ (bytes 2 (slice_index ns k) ++ drop (2 * k + 2) m₀)
    → m₁ ≡ sixteens (take (k + 1) ns) ++ drop (2 * (k + 1)) m
sixteens_more ns m k m₀ m₁ h done wrote =
    let W : List ℕ = sixteens (take k ns) in
    let rest : List ℕ = drop (2 * k) m in
    let long : length W ≡ 2 * k = length-sixteens (take k ns) ∙ ap (λ n. 2 * n) (length-take-le k ns (omega arith)) in
    wrote
    ∙ ap₂ (λ x y. x ++ (bytes 2 (slice_index ns k) ++ y))
    (ap (take (2 * k)) done ∙ take_at W rest (2 * k) long)
    (ap (drop (2 * k + 2)) done ∙ sym (drop-drop 2 (2 * k) (W ++ rest)) ∙ ap (drop 2) (drop_at W rest (2 * k) long) ∙ drop-drop 2 (2 * k) m ∙ ap (λ n. drop n m) (on k))
    ∙ sym (append_assoc W (bytes 2 (slice_index ns k)) (drop (2 * (k + 1)) m))
    ∙ ap (λ r. r ++ drop (2 * (k + 1)) m) (sym (sixteens-push (take k ns) (slice_index ns k)) ∙ ap sixteens (sym (take_more ns k 0 h)))
  where
    on : (k : ℕ) → 2 * k + 2 ≡ 2 * (k + 1)
    on k = omega arith

length-field : (k : ℕ) (x : List ℕ) → 2 * k + 2 ≤ length x → length (take 2 (drop (2 * k) x)) ≡ 2
length-field k x h = length-take-le 2 (drop (2 * k) x) (simp length-drop (omega arith))

-- n numbers from place k on
abbrev pub fields : ℕ → ℕ → List ℕ → List ℕ
fields zero k x = []
fields (suc n) k x = field k x ∷ fields n (suc k) x

pub sixteens-fields : (n k : ℕ) (x : List ℕ) → 2 * k + 2 * n ≤ length x → AllBelowBase 256 x → sixteens (fields n k x) ≡ take (2 * n) (drop (2 * k) x)
sixteens-fields zero k x h u = refl
sixteens-fields (suc n) k x h u =
    let rest : List ℕ = drop (2 * k) x in
    ap₂ (λ a b. a ++ b)
    (bytes_number 2 (take 2 rest) (length-field k x (omega arith)) (under_take 2 rest (under_drop (2 * k) x u)))
    (sixteens-fields n (suc k) x (omega arith) u ∙ ap (λ i. take (2 * n) (drop i x)) (on k) ∙ ap (take (2 * n)) (sym (drop-drop 2 (2 * k) x)))
    ∙ sym (ap (λ i. take i rest) (more n) ∙ take-add 2 (2 * n) rest)
  where
    on : (k : ℕ) → 2 * suc k ≡ 2 * k + 2
    on k = omega arith

    more : (n : ℕ) → 2 * suc n ≡ 2 + 2 * n
    more n = omega arith

pub field_lt : (k : ℕ) (x : List ℕ) → 2 * k + 2 ≤ length x → AllBelowBase 256 x → field k x < 2 ^ 16
field_lt k x h u =
    let two : List ℕ = take 2 (drop (2 * k) x) in
    subst (λ n. number_from_digits 256 two < 256 ^ n) (length-field k x h) (number_lt 256 two (under_take 2 (drop (2 * k) x) (under_drop (2 * k) x u)))

-- a number comes back from its two bytes
pub back : (low high x : ℕ) → high ≤ 9999 → within low high x ≡ true → number_from_digits 256 (bytes 2 x) ≡ x
back low high x h e =
    let p = leb-true x high (and_parts (nat_le low x) (nat_le x high) e).1 in
    number_bytes 2 x (omega arith)
