use Rattle.std.proofs.Common.{rules, ◌≡◌, ◌↔◌, ℕ, ◌<◌, List, Option, Some, None, Bool, true, false, is_some, length, slice_index, refl, arith}
use Rattle.std.specs.Bool.{MatchBool, IsTrue}
use Rattle.std.specs.Char.{digit_char}
use Rattle.std.specs.List.{AllWithin, HoldsAt, EachIndex}
use Rattle.std.proofs.lemmas.Iterator.{cases_from_all, YieldsList-from_slice}
use borrow.Author.Tests.{tests}
use Rattle.text.specs.Texts.{Reads, IsDigit}
use Rattle.text.proofs.hexadecimal.are_digits.Goals as goal

-- what the closure says of a byte
abbrev Judged : Bool → ℕ → Type 0
Judged is b = (read : Option ℕ) × Reads (λ d. d < 16) digit_char b read × (is_some read ≡ is)

digit : (b : ℕ) → Judged true b → IsDigit b
digit b (Some d, h, e) = (d, h.0, h.1)
digit b (None, h, e) = absurd cc

other : (b : ℕ) → Judged false b → IsDigit b → ⊥
other b (Some d, h, e) is = absurd cc
other b (None, h, e) (d, small, is) = h d small is

decided : (text : List ℕ) (all : Bool) → MatchBool all (AllWithin (Judged true) text 0 (length text)) ((k : ℕ) × (k < length text) × HoldsAt (Judged false) text k)
    → IsTrue all ↔ EachIndex text (λ k. IsDigit (slice_index text k))
decided text true h = (λ t k l. digit (slice_index text k) (h k 0 (omega arith) l), λ t. refl)
decided text false (k, l, h) = (λ t. absurd cc, λ all. absurd (other (slice_index text k) (h 0) (all k l)))

pub returns : goal.returns
returns c =
    decided c.args.text.now c.all.result
    (cases_from_all _ _ c.all.result (Judged true) (Judged false) c.all.ensures.ran (YieldsList-from_slice c.args.text.now cc)
    (λ x q k. search (rules, tests)) (λ x q k. search (rules, tests)))
