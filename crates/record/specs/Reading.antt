-- The reading law of sheets.
use Rattle.std.specs.Prelude.{◌≡◌, ℕ, not, T, List, length, Ok, ◌==◌, refl}
use Rattle.std.proofs.Common.{sym, ap, ap₂, ◌∙◌, arith, lit≤}
use Rattle.std.specs.Int.Digits.{AllBelowBase}
use Rattle.std.proofs.lemmas.List.{take_all}
use Rattle.std.proofs.lemmas.Bool.{and_parts}
use Rattle.record.specs.declared.fields.SheetFields.{SheetFields}
use Rattle.record.specs.declared.sheet.Sheet.{Sheet}
use Rattle.record.specs.Rules.{within}
use Rattle.record.specs.Fields.{rules, sound, encoded, decoded}
use Rattle.record.specs.Sheets.{made, making, writing, reading}
use Rattle.record.specs.Made.{all-kept, making-sound, made-part}
use Rattle.record.specs.Numbers.{back, sixteens-fields}

abbrev pub seven : (a b c d e g h : ℕ) → SheetFields
seven a b c d e g h = record { sensor1 = a; sensor2 = b; flow = c; returned = d; water = e; room = g; brine = h }

pub same : {a b c d e g h a' b' c' d' e' g' h' : ℕ} → a ≡ a' → b ≡ b' → c ≡ c' → d ≡ d' → e ≡ e' → g ≡ g' → h ≡ h'
    → seven a b c d e g h ≡ seven a' b' c' d' e' g' h'
same {a} {b} {c} {d} {e} {g} {h} {a'} {b'} {c'} {d'} {e'} {g'} {h'} p q r s t u v =
    ap₂ (λ x y. seven x y c d e g h) p q
    ∙ ap₂ (λ x y. seven a' b' x y e g h) r s
    ∙ ap₂ (λ x y. seven a' b' c' d' x y h) t u
    ∙ ap (λ x. seven a' b' c' d' e' g' x) v

decoded-encoded : (f : SheetFields) → T (sound f) → decoded (encoded f) ≡ f
decoded-encoded f p =
    let ok = all-kept (rules f) p in
    let second = and_parts (within 1 9999 f.sensor2) (not (f.sensor2 == f.sensor1)) ok.1.0 in
    same
    (back 1 9999 f.sensor1 (lit≤ tt) ok.0)
    (back 1 9999 f.sensor2 (lit≤ tt) second.0)
    (back 0 1000 f.flow (lit≤ tt) ok.1.1.0)
    (back 0 1000 f.returned (lit≤ tt) ok.1.1.1.0)
    (back 0 1000 f.water (lit≤ tt) ok.1.1.1.1.0)
    (back 0 1000 f.room (lit≤ tt) ok.1.1.1.1.1.0)
    (back 0 1000 f.brine (lit≤ tt) ok.1.1.1.1.1.1.0)

pub made-fields : (f : SheetFields) (s : Sheet) → making f ≡ Ok s → f ≡ s.fields
made-fields f s e = made-part rules made (λ r. r.fields) (λ g p. refl) f s e

pub read_written : (s : Sheet) → reading (writing s) ≡ Ok s
read_written s = ap making (decoded-encoded s.fields s.ok) ∙ making-sound rules made s.fields s.ok

pub written_read : (x : List ℕ) (s : Sheet) → length x ≡ 14 → AllBelowBase 256 x → reading x ≡ Ok s → writing s ≡ x
written_read x s long under e =
    ap encoded (sym (made-fields (decoded x) s e)) ∙ sixteens-fields 7 0 x (omega arith) under ∙ take_all 14 x (omega arith)
