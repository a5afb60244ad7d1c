-- Which line is which sheet.
use Rattle.std.specs.Prelude.{◌≡◌, ℕ, List, [], ◌∷◌, Ok, Err, Result, ◌≢◌}
use Rattle.record.specs.declared.fields.SheetFields.{SheetFields}
use Rattle.record.specs.declared.sheet.Sheet.{Sheet}
use Rattle.record.specs.Fields.{list_of}
use Rattle.record.specs.Sheets.{making}
use Rattle.text.specs.Texts.{Seven, listed}
use Rattle.commission.specs.declared.refusal.Refusal.{Refusal}
use Rattle.commission.specs.declared.refusal.Refusal.TheVariants.{Line, Field}

-- each refusal's number and values
abbrev pub numbers : Refusal → List ℕ
numbers Line = 9 ∷ []
numbers (Field e) = 8 ∷ e.field ∷ []

-- what a line answers: the sheet that it writes; that the sheet is refused; or that it writes none
abbrev pub Taken : List ℕ → Result Sheet Refusal → Type 0
Taken line (Ok s) = line ≡ listed (list_of s.fields)
Taken line (Err (Field e)) = (f : SheetFields) × Seven (list_of f) × (line ≡ listed (list_of f)) × (making f ≡ Err e)
Taken line (Err Line) = (ns : List ℕ) → Seven ns → line ≢ listed ns
