-- The reading law of parameter sets.
use Rattle.std.specs.Prelude.{◌≡◌, ℕ, ◌<◌, ◌≤◌, T, List, [], ◌∷◌, ◌++◌, length, drop, ℤ, Ok, nat_le, slice_index, refl}
use Rattle.std.proofs.Common.{sym, ap, ap₂, ◌∙◌, arith, lit≤, drop-cons}
use Rattle.std.specs.Int.Digits.{AllBelowBase}
use Rattle.std.proofs.lemmas.List.{drop_all, take-append-drop}
use Rattle.std.proofs.lemmas.Bool.{and_parts, leb-true}
use Rattle.block.proofs.OnBytes.{number_bytes, under_append}
use Rattle.record.specs.declared.setting.ParameterFields.{ParameterFields}
use Rattle.record.specs.declared.parameters.ParameterSet.{ParameterSet}
use Rattle.record.specs.Sixteens.{sixteens, field, twos, signed}
use Rattle.record.specs.Settings.{rules, sound, wide, encoded, decoded}
use Rattle.record.specs.Parameters.{made, making, writing, reading}
use Rattle.record.specs.Made.{all-kept, making-sound, made-part}
use Rattle.record.specs.Numbers.{back, field_lt, sixteens-fields, under_sixteens}
use Rattle.record.specs.Twos.{twos_lt, signed-twos, twos-signed, between_mag}

abbrev pub five : (a : ℕ) (b : ℤ) (c d e : ℕ) → ParameterFields
five a b c d e = record { slope = a; shift = b; flow = c; water = d; mode = e }

pub same : {a c d e a' c' d' e' : ℕ} {b b' : ℤ} → a ≡ a' → b ≡ b' → c ≡ c' → d ≡ d' → e ≡ e' → five a b c d e ≡ five a' b' c' d' e'
same {a} {c} {d} {e} {a'} {c'} {d'} {e'} {b} {b'} p q r s t =
    ap₂ (λ x y. five x y c d e) p q
    ∙ ap₂ (λ x y. five a' b' x y e) r s
    ∙ ap (λ x. five a' b' c' d' x) t

decoded-encoded : (f : ParameterFields) → T (sound f) → decoded (encoded f) ≡ f
decoded-encoded f p =
    let ok = all-kept (rules f) p in
    let most = leb-true f.flow 650 (and_parts (nat_le 200 f.flow) (nat_le f.flow 650) ok.1.1.0).1 in
    same
    (back 10 350 f.slope (lit≤ tt) ok.0)
    (ap signed (number_bytes 2 (twos f.shift) (twos_lt f.shift)) ∙ signed-twos f.shift (between_mag f.shift ok.1.0))
    (back 200 650 f.flow (lit≤ tt) ok.1.1.0)
    (back 300 f.flow f.water (omega arith) ok.1.1.1.0)
    refl

-- the mode fits its byte
pub mode_le : (f : ParameterFields) → T (sound f) → f.mode ≤ 3
mode_le f p = leb-true f.mode 3 (and_parts (nat_le 0 f.mode) (nat_le f.mode 3) (all-kept (rules f) p).1.1.1.1.0).1

pub under_encoded : (f : ParameterFields) → T (sound f) → AllBelowBase 256 (encoded f)
under_encoded f p =
    let h = mode_le f p in
    let small : f.mode < 256 = omega arith in
    under_append (sixteens (wide f)) (f.mode ∷ []) (under_sixteens (wide f)) (small, tt)

-- the byte after the four numbers
pub last_byte : (x : List ℕ) → length x ≡ 9 → drop 8 x ≡ slice_index x 8 ∷ []
last_byte x e = drop-cons x 8 0 (omega arith) ∙ ap (λ r. slice_index x 8 ∷ r) (drop_all 9 x (omega arith))

encoded-decoded : (x : List ℕ) → length x ≡ 9 → AllBelowBase 256 x → encoded (decoded x) ≡ x
encoded-decoded x e u =
    ap₂ (λ n r. sixteens (field 0 x ∷ n ∷ field 2 x ∷ field 3 x ∷ []) ++ r) (twos-signed (field 1 x) (field_lt 1 x (omega arith) u)) (sym (last_byte x e))
    ∙ ap (λ r. r ++ drop 8 x) (sixteens-fields 4 0 x (omega arith) u)
    ∙ take-append-drop 8 x

pub read_written : (s : ParameterSet) → reading (writing s) ≡ Ok s
read_written s = ap making (decoded-encoded s.fields s.ok) ∙ making-sound rules made s.fields s.ok

pub written_read : (x : List ℕ) (s : ParameterSet) → length x ≡ 9 → AllBelowBase 256 x → reading x ≡ Ok s → writing s ≡ x
written_read x s long under e =
    ap encoded (sym (made-part rules made (λ r. r.fields) (λ g p. refl) (decoded x) s e)) ∙ encoded-decoded x long under
