-- What is known of a numeral: its length, its first digit, its digits; and the first comma of a text.
use Rattle.std.proofs.Common.{◌≡◌, ℕ, zero, suc, ◌+◌, ◌-◌, ◌*◌, ◌^◌, ◌<◌, ◌≤◌, List, ◌∷◌, ◌++◌, length, get_or, take, drop, decimal, position, eqb, ltb, Some, None, sym, ⊎_elim, refl, ap, ◌∙◌, arith}
use native.Mathlib.Nat.{sub-zero}
use Rattle.std.proofs.lemmas.Bool.{cases_lt, cond-true, lt-ltb, eqb-true, eqb-false}
use Rattle.std.proofs.lemmas.List.Quantifiers.{position-Some}
use Rattle.std.proofs.lemmas.List.Sums.{fails_before_first}
use Rattle.std.proofs.lemmas.Option.{none-some}
use Rattle.std.specs.List.{position_or_len}
use Rattle.std.proofs.lemmas.List.{take_rest, take-append-drop, drop_more, get_or-take, length-take-le}
use Rattle.std.proofs.lemmas.Str.{digit_value_digit}
use Rattle.std.specs.Int.{IsInRange}
use Rattle.std.specs.Char.{digit_value}
use Rattle.std.specs.Str.Parse.{AllDigits, digits_value}
use Rattle.std.proofs.ByRecursion.{All-from_get_or}
use Rattle.std.proofs.lemmas.Str.Parse.{IsNumeralModel, numerals_by_value, tells_digits, digit_at, digits_value_short}
use Rattle.std.proofs.lemmas.Fmt.{length-decimal-le, decimal_digit, decimal_nonempty, first_decimal, digits_decimal, decimal-digits_value, decimal_injective}
use Rattle.std.proofs.lemmas.Int.Digits.{digits_more, digits_value_more}
use Rattle.text.specs.Texts.{Small, Free}

pub own : IsNumeralModel (AllDigits 10) (digits_value 10)
own = numerals_by_value (AllDigits 10) tells_digits

wide : (n : ℕ) → Small n → n < 2 ^ 64
wide n h = omega arith

pub numeral_some : (bs : List ℕ) (n : ℕ) → Small n → bs ≡ decimal n → 0 < length bs
numeral_some bs n h e = rw e (decimal_nonempty n (wide n h))

pub numeral_short : (bs : List ℕ) (n : ℕ) → Small n → bs ≡ decimal n → length bs ≤ 5
numeral_short bs n h e = rw e (length-decimal-le 5 n (omega arith) (omega arith) (wide n h))

pub numeral_plain : (bs : List ℕ) (n : ℕ) → Small n → bs ≡ decimal n → get_or bs 0 0 ≡ 48 → 1 < length bs → ⊥
numeral_plain bs zero h e z l = let one : length bs ≡ 1 = ap length (e ∙ decimal_digit 0 (omega arith)) in omega arith
numeral_plain bs (suc n) h e z l = let d : 48 < get_or bs 0 0 = rw e (first_decimal (suc n) (omega arith) (wide (suc n) h)) in omega arith

pub numeral_digit : (bs : List ℕ) (n i : ℕ) → Small n → bs ≡ decimal n → i < length bs → IsInRange 48 57 (get_or bs i 0)
numeral_digit bs n i h e l = digit_at bs i (rw e (digits_decimal own n (wide n h))) l

pub numeral_free : (n : ℕ) → Small n → Free (decimal n)
numeral_free n h = All-from_get_or (λ b. b ≡ 44 → ⊥) (decimal n) 0 (λ i l e. let d = numeral_digit (decimal n) n i h refl l in omega arith)

pub same_numeral : (m n : ℕ) → Small m → Small n → decimal m ≡ decimal n → m ≡ n
same_numeral m n h k e = decimal_injective m n (wide m h) (wide n k) e

one_long : (n : ℕ) → 0 < n → (1 < n → ⊥) → n ≡ 1
one_long zero h p = absurd (omega arith)
one_long (suc zero) h p = refl
one_long (suc (suc n)) h p = absurd (p (omega arith))

pub numeral_made : (bs : List ℕ) → AllDigits 10 bs → 0 < length bs → length bs ≤ 5 → (get_or bs 0 0 ≡ 48 → 1 < length bs → ⊥) → Small (digits_value 10 bs) × (bs ≡ decimal (digits_value 10 bs))
numeral_made bs ds some short plain =
    let small : digits_value 10 bs < 10 ^ 5 = digits_value_short own bs 5 ds short in
    (omega arith, sym (decimal-digits_value own bs ds some (λ z. one_long (length bs) some (plain z)) (omega arith)))

pub digit_step : (bs : List ℕ) (i n : ℕ) → i < length bs → AllDigits 10 (take i bs) → n ≡ digits_value 10 (take i bs) → 48 ≤ get_or bs i 0 → get_or bs i 0 ≤ 57 → AllDigits 10 (take (i + 1) bs) × (n * 10 + (get_or bs i 0 - 48) ≡ digits_value 10 (take (i + 1) bs))
digit_step bs i n l ds e lo hi =
    let d : digit_value (get_or bs i 0) + 48 ≡ get_or bs i 0 = digit_value_digit (get_or bs i 0) (lo, hi) in
    let small : digit_value (get_or bs i 0) < 10 = omega arith in
    let same : get_or bs i 0 - 48 ≡ digit_value (get_or bs i 0) = omega arith in
    let more = digits_value_more 10 bs i l in
    (digits_more 10 bs i l ds small, cc)

-- before and after the first comma
pub cut_at : (bs : List ℕ) (i : ℕ) → position (λ b. eqb b 44) bs ≡ Some i → Free (take (i - 0) bs) × (bs ≡ take (i - 0) bs ++ (44 ∷ take (length bs - (i + 1)) (drop (i + 1) bs)))
cut_at bs i is =
    let p = position-Some (λ b. eqb b 44) bs i 0 is in
    let e : get_or bs i 0 ≡ 44 = eqb-true (get_or bs i 0) 44 p.1 in (
      rw sub-zero (All-from_get_or (λ b. b ≡ 44 → ⊥) (take i bs) 0 (λ k h z.
          let n : length (take i bs) ≡ i = length-take-le i bs (omega arith) in
          eqb-false (get_or bs k 0) 44 (p.2 k (omega arith)) (sym (get_or-take i bs k 0 (omega arith)) ∙ z))),
      rw (sub-zero, take_rest bs (i + 1)) (sym (take-append-drop i bs) ∙ ap (λ x. take i bs ++ x) (drop_more bs i 0 p.0 ∙ ap (λ x. x ∷ drop (i + 1) bs) e)),
    )

pub cut_none : (bs : List ℕ) → position (λ b. eqb b 44) bs ≡ None → Free bs
cut_none bs none =
    let at = position_or_len (λ b. eqb b 44) bs in
    let all : length bs ≤ at =
    ⊎_elim (λ (h : at < length bs). absurd (none-some at (sym none ∙ cond-true (ltb at (length bs)) (Some at) None (lt-ltb at (length bs) h)))) (λ (h : length bs ≤ at). h) (cases_lt at (length bs)) in
    All-from_get_or (λ b. b ≡ 44 → ⊥) bs 0 (λ k h. eqb-false (get_or bs k 0) 44 (fails_before_first (λ b. eqb b 44) bs k 0 (omega arith)))
