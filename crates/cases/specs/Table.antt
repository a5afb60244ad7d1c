-- The worked cases, from the definitions. Messages are enciphered under the bench cipher.
use Rattle.std.specs.Prelude.{◌≡◌, ℕ, List, [], ◌∷◌, ◌++◌, map, replicate}
use Rattle.block.specs.Answers.{accepted, refused}
use Rattle.block.specs.Blocks.{bytes, block}
use Rattle.block.specs.Alpha.{α}
use Rattle.cipher.specs.Bench.{bench_sum}
use Rattle.mode.specs.Permutes.{enciphered}
use Rattle.skinny.specs.Sbox.{sub}
use Rattle.skinny.specs.Skinny.{constant_at}
use Rattle.zcz.specs.Refusals as mode
use Rattle.record.specs.declared.fields.SheetFields.{SheetFields}
use Rattle.record.specs.Sheets as sheet

-- a block, and a block times α, in bytes
abbrev pub doubled : List ℕ → List ℕ
doubled x = bytes 16 (α (block x))

abbrev pub sealed : List ℕ → List ℕ
sealed = enciphered bench_sum

abbrev pub all : ℕ → List ℕ
all b = replicate 16 b

abbrev pub ending : ℕ → List ℕ
ending b = replicate 15 0 ++ (b ∷ [])

-- a sheet whose flow reading is given
abbrev pub flowing : ℕ → SheetFields
flowing t = record { sensor1 = 1; sensor2 = 2; flow = t; returned = 300; water = 480; room = 210; brine = 55 }

pub record Cases : Type 0 where
  pub alpha_carries : doubled (0x80 ∷ replicate 15 0) ≡ ending 0x87
  pub alpha_shifts : doubled (ending 1) ≡ ending 2
  pub sbox_00 : sub 0x00 ≡ 0x65
  pub constants : map constant_at (0 ∷ 1 ∷ 2 ∷ []) ≡ 0x01 ∷ 0x03 ∷ 0x07 ∷ []
  pub zeros_32 : sealed (replicate 32 0) ≡ replicate 32 0
  pub one_di_block : sealed (all 0x11 ++ all 0x22) ≡ all 0x22 ++ all 0x33
  pub zeros_33 : sealed (replicate 33 0) ≡ replicate 17 0 ++ (0x80 ∷ replicate 15 0)
  pub zeros_64 : sealed (replicate 64 0) ≡ ending 1 ++ (ending 1 ++ (ending 1 ++ ending 1))
  pub bytes_31 : mode.answer 31 ≡ refused (1 ∷ [])
  pub reading_1000 : sheet.answer (flowing 1000) ≡ accepted (flowing 1000)
  pub reading_1001 : sheet.answer (flowing 1001) ≡ refused (8 ∷ 3 ∷ [])
