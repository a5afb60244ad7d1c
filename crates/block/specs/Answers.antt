-- What a call answers: a value, or a refusal by its numbers, which one first and then its values.
use Rattle.std.specs.Prelude.{ℕ, List, Ok, Err, Result}

pub data Answer (T : Type 0) : Type 0 where
  accepted : T → Answer T
  refused : List ℕ → Answer T

-- a result, with the numbers that each refusal of its kind has
abbrev pub answered : {T E : Type 0} → (E → List ℕ) → Result T E → Answer T
answered numbers (Ok x) = accepted x
answered numbers (Err e) = refused (numbers e)

-- the same, where only a part of the value is told
abbrev pub answered_as : {T U E : Type 0} → (T → U) → (E → List ℕ) → Result T E → Answer U
answered_as part numbers (Ok x) = accepted (part x)
answered_as part numbers (Err e) = refused (numbers e)
