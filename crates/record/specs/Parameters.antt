-- Parameter sets as records.
use Rattle.std.specs.Prelude.{ℕ, T, List, Result}
use Rattle.block.specs.Answers.{Answer}
use Rattle.record.specs.declared.fault.FieldFault.{FieldFault}
use Rattle.record.specs.declared.setting.ParameterFields.{ParameterFields}
use Rattle.record.specs.declared.parameters.ParameterSet.{ParameterSet}
use Rattle.record.specs.Settings.{rules, sound, encoded, decoded}
use Rattle.record.specs.Makings as makings

abbrev pub made : (f : ParameterFields) → T (sound f) → ParameterSet
made f p = record { fields = f; ok = p }

-- the set of these fields, or the lowest wrong one
abbrev pub making : ParameterFields → Result ParameterSet FieldFault
making f = makings.making rules made f

abbrev pub writing : ParameterSet → List ℕ
writing s = encoded s.fields

abbrev pub reading : List ℕ → Result ParameterSet FieldFault
reading x = making (decoded x)

-- what making answers, in numbers
abbrev pub answer : ParameterFields → Answer ParameterFields
answer f = makings.answer rules f
