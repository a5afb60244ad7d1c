use Rattle.std.proofs.Common.{◌≡◌, ℕ, ◌^◌, ◌<◌, ◌≤◌, List, length, take, sym, ◌∙◌, ⊎_elim, arith}
use Rattle.std.proofs.lemmas.Bool.{eqb-true, eqb-false}
use Rattle.std.specs.Str.Parse.{AllDigits, digits_value}
use Rattle.std.proofs.lemmas.Str.Parse.{digits_value_short}
use Rattle.std.proofs.lemmas.List.{take_all, length-take-le}
use Rattle.text.proofs.Digits.{own, numeral_some, numeral_short, numeral_plain, numeral_digit, numeral_made, digit_step}
use Rattle.text.proofs.numerals.number.Goals as goal

pub returns-then-is_empty : goal.returns-then-is_empty
returns-then-is_empty c = λ n h e.
    let a = numeral_some c.args.bytes.now n h e in
    let b = numeral_short c.args.bytes.now n h e in
    ⊎_elim (λ z. let none = eqb-true (length c.args.bytes.now) 0 (sym c.is_empty.ensures ∙ z) in omega arith) (λ z. omega arith) c.then-is_empty.either

pub returns-then-bytes-gt1 : goal.returns-then-bytes-gt1
returns-then-bytes-gt1 c = λ n h e. numeral_plain c.args.bytes.now n h e c.if-bytes-eq48.true (omega arith)

pub returns-then-not-is_ascii_digit : goal.returns-then-not-is_ascii_digit
returns-then-not-is_ascii_digit c = λ n h e.
    let d = numeral_digit c.args.bytes.now n c.loop-b.b-index h e c.loop-b-test.true in
    ⊎_elim (λ z. omega arith) (λ z. omega arith) c.if-not-is_ascii_digit.ensures.cases

small : (bs : List ℕ) (i n : ℕ) → i < length bs → length bs ≤ 5 → AllDigits 10 (take i bs) → n ≡ digits_value 10 (take i bs) → n < 100000
small bs i n l s d e =
    let len : length (take i bs) ≡ i = length-take-le i bs (omega arith) in
    let v : digits_value 10 (take i bs) < 10 ^ 5 = digits_value_short own (take i bs) 5 d (omega arith) in omega arith

pub overflow_mul-n : goal.overflow_mul-n
overflow_mul-n c = let s = small c.args.bytes.now c.loop-b.b-index c.loop-b.n c.loop-b-test.true c.if-bytes-gt-MOST_DIGITS.false c.loop-b.invariant.0 c.loop-b.invariant.1 in omega arith

pub overflow_add-n : goal.overflow_add-n
overflow_add-n c = let s = small c.args.bytes.now c.loop-b.b-index c.loop-b.n c.loop-b-test.true c.if-bytes-gt-MOST_DIGITS.false c.loop-b.invariant.0 c.loop-b.invariant.1 in omega arith

pub loop-b-preserved : goal.loop-b-preserved
loop-b-preserved c = digit_step c.args.bytes.now c.loop-b.b-index c.loop-b.n c.loop-b-test.true c.loop-b.invariant.0 c.loop-b.invariant.1 c.if-not-is_ascii_digit.ensures.cases.0 c.if-not-is_ascii_digit.ensures.cases.1

pub returns : goal.returns
returns c =
    let bs = c.args.bytes.now in
    let all : take c.loop-b.b-index bs ≡ bs = take_all c.loop-b.b-index bs c.loop-b-test.false in
    let some = eqb-false (length bs) 0 (sym c.is_empty.ensures ∙ c.if-is_empty.false) in
    let ds : AllDigits 10 bs = rw all at c.loop-b.invariant.0 in
    let n : c.loop-b.n ≡ digits_value 10 bs = rw all at c.loop-b.invariant.1 in
    rw n (numeral_made bs ds (omega arith) c.if-bytes-gt-MOST_DIGITS.false
    (λ z l. elim c.else-bytes-eq48.branch [
      | goal.else-bytes-eq48-via-then-bytes-eq48+else-bytes-gt1 w ↦ omega (arith, w.if-bytes-gt1.false)
      | goal.else-bytes-eq48-via-else-bytes-eq48 w ↦ w.if-bytes-eq48.false z
    ]))
