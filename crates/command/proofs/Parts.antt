-- What the parts of a line are, where it is the text of a command.
use Rattle.std.proofs.Common.{◌≡◌, ℕ, List, ◌∷◌, ◌++◌, decimal, sym, refl, ap, ◌∙◌, subst}
use Rattle.text.specs.Texts.{Free, Small, listed}
use Rattle.text.proofs.Cuts.{same_cut}
use Rattle.text.proofs.Digits.{numeral_free}
use Rattle.record.specs.declared.fields.SheetFields.{SheetFields}
use Rattle.record.specs.Fields.{list_of}
use Rattle.ciphers.specs.declared.name.CipherName.{CipherName}
use Rattle.command.specs.declared.command.Word.{Word}
use Rattle.command.specs.declared.command.Word.TheVariants as word
use Rattle.command.specs.declared.command.Command.{Command}
use Rattle.command.specs.declared.command.Command.TheVariants.{Form, Put, Get, Clear, Page, Change}
use Rattle.command.specs.Commands.{letter, spelt, word_of, arguments, text, Seven, Sound}
use Rattle.command.proofs.Spelling.{letter_free, spelt_free}

-- the commands of a word
abbrev pub Of : Word → Command → Type 0
Of word.Form x = (cipher : CipherName) × (slots : ℕ) × (page : ℕ) × (x ≡ Form cipher slots page)
Of word.Put x = (slot : ℕ) × (fields : SheetFields) × (x ≡ Put slot fields)
Of word.Get x = (slot : ℕ) × (x ≡ Get slot)
Of word.Clear x = (slot : ℕ) × (x ≡ Clear slot)
Of word.Page x = (slot : ℕ) × (x ≡ Page slot)
Of word.Change x = (key : ℕ) × (x ≡ Change key)

by_own_word : (x : Command) → Of (word_of x) x
by_own_word (Form cipher slots page) = (cipher, slots, page, refl)
by_own_word (Put slot fields) = (slot, fields, refl)
by_own_word (Get slot) = (slot, refl)
by_own_word (Clear slot) = (slot, refl)
by_own_word (Page slot) = (slot, refl)
by_own_word (Change key) = (key, refl)

pub by_word : (w : Word) (x : Command) → word_of x ≡ w → Of w x
by_word w x e = subst (λ v. Of v x) e (by_own_word x)

pub record FormParts (first rest : List ℕ) : Type 0 where
  pub cipher : CipherName
  pub slots : ℕ
  pub page : ℕ
  pub small : Small slots × Small page
  pub here : first ≡ letter cipher
  pub more : rest ≡ decimal slots ++ (44 ∷ decimal page)

pub form_parts : {bs first rest : List ℕ} → Free first × (bs ≡ first ++ (44 ∷ rest)) → (x : Command) → Sound x × (word_of x ≡ word.Form) → bs ≡ arguments x → FormParts first rest
form_parts {bs} {first} {rest} f x h e =
    let o = by_word word.Form x h.1 in
    let s = same_cut first rest (letter o.0) (decimal o.1 ++ (44 ∷ decimal o.2)) f.0 (letter_free o.0) (sym f.1 ∙ e ∙ ap arguments o.3) in
    record { cipher = o.0; slots = o.1; page = o.2; small = subst Sound o.3 h.0; here = s.0; more = s.1 }

pub form_numbers : {first rest second third : List ℕ} (p : FormParts first rest) → Free second × (rest ≡ second ++ (44 ∷ third)) → (second ≡ decimal p.slots) × (third ≡ decimal p.page)
form_numbers {first} {rest} {second} {third} p f = same_cut second third (decimal p.slots) (decimal p.page) f.0 (numeral_free p.slots p.small.0) (sym f.1 ∙ p.more)

pub record PutParts (bs : List ℕ) : Type 0 where
  pub slot : ℕ
  pub fields : SheetFields
  pub small : Small slot × Seven fields
  pub is : bs ≡ decimal slot ++ (44 ∷ listed (list_of fields))

pub put-parts : {bs : List ℕ} (x : Command) → Sound x × (word_of x ≡ word.Put) → bs ≡ arguments x → PutParts bs
put-parts {bs} x h e =
    let o = by_word word.Put x h.1 in
    record { slot = o.0; fields = o.1; small = subst Sound o.2 h.0; is = e ∙ ap arguments o.2 }

pub put_cut : {bs first rest : List ℕ} (p : PutParts bs) → Free first × (bs ≡ first ++ (44 ∷ rest)) → (first ≡ decimal p.slot) × (rest ≡ listed (list_of p.fields))
put_cut {bs} {first} {rest} p f = same_cut first rest (decimal p.slot) (listed (list_of p.fields)) f.0 (numeral_free p.slot p.small.0) (sym f.1 ∙ p.is)

-- a command's word and its arguments, from the first comma of its text
pub text-parts : {bs first rest : List ℕ} → Free first × (bs ≡ first ++ (44 ∷ rest)) → (x : Command) → bs ≡ text x → (first ≡ spelt (word_of x)) × (rest ≡ arguments x)
text-parts {bs} {first} {rest} f x e = same_cut first rest (spelt (word_of x)) (arguments x) f.0 (spelt_free (word_of x)) (sym f.1 ∙ e)
