-- Records made of fields that keep their rules.
use Rattle.std.specs.Prelude.{◌≡◌, ℕ, Bool, true, false, cond, T, List, [], ◌∷◌, Ok, Err, Result, refl}
use Rattle.std.proofs.Common.{subst}
use Rattle.block.specs.Answers.{Answer, accepted, refused}
use Rattle.record.specs.declared.fault.FieldFault.{FieldFault}
use Rattle.record.specs.Rules.{lowest, kept}

module _ {F R : Type 0} (rules : F → List Bool) (made : (f : F) → T (kept (rules f)) → R) where
  abbrev pub by_test : (f : F) (b : Bool) → b ≡ kept (rules f) → Result R FieldFault
  by_test f true e = Ok (made f (subst T e tt))
  by_test f false e = Err (record { field = lowest (rules f) })

  -- the record of these fields, or the lowest wrong one
  abbrev pub making : F → Result R FieldFault
  making f = by_test f (kept (rules f)) refl

-- what making answers, in numbers: 8 with the lowest wrong field where one is wrong
abbrev pub numbers : FieldFault → List ℕ
numbers e = 8 ∷ e.field ∷ []

abbrev pub answer : {F : Type 0} → (F → List Bool) → F → Answer F
answer rules f = cond (kept (rules f)) (accepted f) (refused (8 ∷ lowest (rules f) ∷ []))
