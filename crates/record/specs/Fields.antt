-- The fields of a commissioning sheet, their ranges, and their bytes.
use Rattle.std.specs.Prelude.{ℕ, Bool, not, ◌&&◌, List, [], ◌∷◌, ◌==◌, slice_index}
use Rattle.record.specs.Rules.{within, kept}
use Rattle.record.specs.Sixteens.{sixteens, field}
use Rattle.record.specs.declared.fields.SheetFields.{SheetFields}

-- which of fields 1 to 7 keep their rule
abbrev pub rules : SheetFields → List Bool
rules f =
    within 1 9999 f.sensor1
    ∷ (within 1 9999 f.sensor2 && not (f.sensor2 == f.sensor1))
    ∷ within 0 1000 f.flow
    ∷ within 0 1000 f.returned
    ∷ within 0 1000 f.water
    ∷ within 0 1000 f.room
    ∷ within 0 1000 f.brine
    ∷ []

abbrev pub sound : SheetFields → Bool
sound f = kept (rules f)

-- the seven numbers in order, and back
abbrev pub list_of : SheetFields → List ℕ
list_of f = f.sensor1 ∷ f.sensor2 ∷ f.flow ∷ f.returned ∷ f.water ∷ f.room ∷ f.brine ∷ []

abbrev pub fields_of : List ℕ → SheetFields
fields_of n =
    record {
      sensor1 = slice_index n 0;
      sensor2 = slice_index n 1;
      flow = slice_index n 2;
      returned = slice_index n 3;
      water = slice_index n 4;
      room = slice_index n 5;
      brine = slice_index n 6;
    }

-- in bytes, and back
abbrev pub encoded : SheetFields → List ℕ
encoded f = sixteens (list_of f)

abbrev pub decoded : List ℕ → SheetFields
decoded x =
    record {
      sensor1 = field 0 x;
      sensor2 = field 1 x;
      flow = field 2 x;
      returned = field 3 x;
      water = field 4 x;
      room = field 5 x;
      brine = field 6 x;
    }
