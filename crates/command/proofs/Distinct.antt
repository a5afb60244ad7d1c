-- Two sound commands with one text are one command.
use Rattle.std.proofs.Common.{◌≡◌, ℕ, ◌∷◌, ◌++◌, decimal, sym, refl, ap, ◌∙◌, subst, ap₂}
use Rattle.block.specs.Blocks.{bytes}
use Rattle.block.proofs.OnBytes.{length-bytes, under_bytes, number_bytes}
use Rattle.std.specs.Int.Digits.{number_from_digits}
use Rattle.text.specs.Texts.{Small, listed}
use Rattle.text.proofs.Cuts.{same_cut}
use Rattle.text.proofs.Digits.{numeral_free, same_numeral}
use Rattle.text.proofs.Hexes.{hex_same}
use Rattle.text.proofs.Listing.{listed_same}
use Rattle.record.specs.declared.fields.SheetFields.{SheetFields}
use Rattle.record.specs.Fields.{list_of, fields_of}
use Rattle.command.specs.declared.command.Command.{Command}
use Rattle.command.specs.declared.command.Command.TheVariants.{Form, Put, Get, Clear, Page, Change}
use Rattle.command.specs.Commands.{letter, spelt, word_of, arguments, Seven, IsKey, key_text, Sound, Distinct}
use Rattle.command.proofs.Spelling.{letter_free, letter_same, spelt_free, spelt_same}
use Rattle.command.proofs.Parts.{Of, by_word}

fields_same : (f g : SheetFields) → Seven f → Seven g → listed (list_of f) ≡ listed (list_of g) → f ≡ g
fields_same f g p q e = ap fields_of (listed_same (list_of f) (list_of g) refl p q e)

key_same : (x y : ℕ) → IsKey x → IsKey y → key_text x ≡ key_text y → x ≡ y
key_same x y p q e =
    let b = hex_same (bytes 16 x) (bytes 16 y) (length-bytes 16 x ∙ sym (length-bytes 16 y)) (under_bytes 16 x) (under_bytes 16 y) e in
    sym (number_bytes 16 x p) ∙ ap (number_from_digits 256) b ∙ number_bytes 16 y q

-- of one word
same : (x y : Command) → Of (word_of x) y → Sound x → Sound y → arguments x ≡ arguments y → x ≡ y
same (Get slot) y o p q e = ap Get (same_numeral slot o.0 p (subst Sound o.1 q) (e ∙ ap arguments o.1)) ∙ sym o.1
same (Clear slot) y o p q e = ap Clear (same_numeral slot o.0 p (subst Sound o.1 q) (e ∙ ap arguments o.1)) ∙ sym o.1
same (Page slot) y o p q e = ap Page (same_numeral slot o.0 p (subst Sound o.1 q) (e ∙ ap arguments o.1)) ∙ sym o.1
same (Change key) y o p q e = ap Change (key_same key o.0 p (subst Sound o.1 q) (e ∙ ap arguments o.1)) ∙ sym o.1
same (Put slot fields) y o p q e =
    let r : Small o.0 × Seven o.1 = subst Sound o.2 q in
    let c = same_cut (decimal slot) (listed (list_of fields)) (decimal o.0) (listed (list_of o.1)) (numeral_free slot p.0) (numeral_free o.0 r.0) (e ∙ ap arguments o.2) in
    ap₂ Put (same_numeral slot o.0 p.0 r.0 c.0) (fields_same fields o.1 p.1 r.1 c.1) ∙ sym o.2
same (Form cipher slots page) y o p q e =
    let r : Small o.1 × Small o.2 = subst Sound o.3 q in
    let c = same_cut (letter cipher) (decimal slots ++ (44 ∷ decimal page)) (letter o.0) (decimal o.1 ++ (44 ∷ decimal o.2)) (letter_free cipher) (letter_free o.0) (e ∙ ap arguments o.3) in
    let d = same_cut (decimal slots) (decimal page) (decimal o.1) (decimal o.2) (numeral_free slots p.0) (numeral_free o.1 r.0) c.1 in
    let one = letter_same cipher o.0 c.0 in
    let two = same_numeral slots o.1 p.0 r.0 d.0 in
    let three = same_numeral page o.2 p.1 r.1 d.1 in
    let is : y ≡ Form o.0 o.1 o.2 = o.3 in cc

pub distinct : Distinct
distinct x y p q e =
    let c = same_cut (spelt (word_of x)) (arguments x) (spelt (word_of y)) (arguments y) (spelt_free (word_of x)) (spelt_free (word_of y)) e in
    same x y (by_word (word_of x) y (sym (spelt_same (word_of x) (word_of y) c.0))) p q c.1
