-- The fields of a parameter set, their ranges, and their bytes.
use Rattle.std.specs.Prelude.{ℕ, Bool, List, [], ◌∷◌, ◌++◌, pos, neg_ℤ, slice_index}
use Rattle.record.specs.Rules.{within, between, kept}
use Rattle.record.specs.Sixteens.{sixteens, field, twos, signed}
use Rattle.record.specs.declared.setting.ParameterFields.{ParameterFields}

-- which of fields 1 to 5 keep their rule
abbrev pub rules : ParameterFields → List Bool
rules f =
    within 10 350 f.slope
    ∷ between (neg_ℤ (pos 100)) (pos 100) f.shift
    ∷ within 200 650 f.flow
    ∷ within 300 f.flow f.water
    ∷ within 0 3 f.mode
    ∷ []

abbrev pub sound : ParameterFields → Bool
sound f = kept (rules f)

-- the four numbers of 16 bits in order
abbrev pub wide : ParameterFields → List ℕ
wide f = f.slope ∷ twos f.shift ∷ f.flow ∷ f.water ∷ []

-- in bytes, and back: the mode in one byte after them
abbrev pub encoded : ParameterFields → List ℕ
encoded f = sixteens (wide f) ++ (f.mode ∷ [])

abbrev pub decoded : List ℕ → ParameterFields
decoded x =
    record {
      slope = field 0 x;
      shift = signed (field 1 x);
      flow = field 2 x;
      water = field 3 x;
      mode = slice_index x 8;
    }
