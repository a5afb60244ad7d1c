-- Sheets as records.
use Rattle.std.specs.Prelude.{ℕ, T, List, Result}
use Rattle.block.specs.Answers.{Answer}
use Rattle.record.specs.declared.fault.FieldFault.{FieldFault}
use Rattle.record.specs.declared.fields.SheetFields.{SheetFields}
use Rattle.record.specs.declared.sheet.Sheet.{Sheet}
use Rattle.record.specs.Fields.{rules, sound, encoded, decoded}
use Rattle.record.specs.Makings as makings

abbrev pub made : (f : SheetFields) → T (sound f) → Sheet
made f p = record { fields = f; ok = p }

-- the sheet of these fields, or the lowest wrong one
abbrev pub making : SheetFields → Result Sheet FieldFault
making f = makings.making rules made f

abbrev pub writing : Sheet → List ℕ
writing s = encoded s.fields

abbrev pub reading : List ℕ → Result Sheet FieldFault
reading x = making (decoded x)

-- what making answers, in numbers
abbrev pub answer : SheetFields → Answer SheetFields
answer f = makings.answer rules f
