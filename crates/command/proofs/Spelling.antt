-- The letters of the ciphers and the words of the commands: no comma in them, and no two alike.
use Rattle.std.proofs.Common.{◌≡◌, ℕ, cond, eqb, get_or, sym, refl, ap, ◌∙◌, rules}
use Rattle.text.specs.Texts.{Free}
use Rattle.ciphers.specs.declared.name.CipherName.{CipherName}
use Rattle.ciphers.specs.declared.name.CipherName.TheVariants.{Skinny, Cascade, Bench}
use Rattle.command.specs.declared.command.Word.{Word}
use Rattle.command.specs.declared.command.Word.TheVariants.{Form, Put, Get, Clear, Page, Change}
use Rattle.command.specs.Commands.{letter, spelt}

pub letter_free : (c : CipherName) → Free (letter c)
letter_free Skinny = search rules
letter_free Cascade = search rules
letter_free Bench = search rules

pub spelt_free : (w : Word) → Free (spelt w)
spelt_free Form = search rules
spelt_free Put = search rules
spelt_free Get = search rules
spelt_free Clear = search rules
spelt_free Page = search rules
spelt_free Change = search rules

-- the cipher by its letter, and the word by its second letter
cipher_by : ℕ → CipherName
cipher_by b = cond (eqb b 115) Skinny (cond (eqb b 97) Cascade Bench)

word_by : ℕ → Word
word_by b = cond (eqb b 111) Form (cond (eqb b 117) Put (cond (eqb b 101) Get (cond (eqb b 108) Clear (cond (eqb b 97) Page Change))))

cipher_back : (c : CipherName) → cipher_by (get_or (letter c) 0 0) ≡ c
unfolding cipher_by
cipher_back Skinny = refl
cipher_back Cascade = refl
cipher_back Bench = refl

word_back : (w : Word) → word_by (get_or (spelt w) 1 0) ≡ w
unfolding word_by
word_back Form = refl
word_back Put = refl
word_back Get = refl
word_back Clear = refl
word_back Page = refl
word_back Change = refl

pub letter_same : (c d : CipherName) → letter c ≡ letter d → c ≡ d
letter_same c d e = sym (cipher_back c) ∙ ap (λ bs. cipher_by (get_or bs 0 0)) e ∙ cipher_back d

pub spelt_same : (v w : Word) → spelt v ≡ spelt w → v ≡ w
spelt_same v w e = sym (word_back v) ∙ ap (λ bs. word_by (get_or bs 1 0)) e ∙ word_back w
