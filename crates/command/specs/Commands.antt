-- The text of a command: its word, a comma, and its arguments with commas between them.
use Rattle.std.specs.Prelude.{◌≡◌, ℕ, List, ◌∷◌, ◌++◌, codes, decimal}
use Rattle.std.specs.List.{AllByRecursion}
use Rattle.block.specs.Blocks.{IsBlock, bytes}
use Rattle.text.specs.Texts.{Small, listed, hex}
use Rattle.record.specs.declared.fields.SheetFields.{SheetFields}
use Rattle.record.specs.Fields.{list_of}
use Rattle.ciphers.specs.declared.name.CipherName.{CipherName}
use Rattle.ciphers.specs.declared.name.CipherName.TheVariants.{Skinny, Cascade, Bench}
use Rattle.command.specs.declared.command.Word.{Word}
use Rattle.command.specs.declared.command.Word.TheVariants as word
use Rattle.command.specs.declared.command.Command.{Command}
use Rattle.command.specs.declared.command.Command.TheVariants.{Form, Put, Get, Clear, Page, Change}

-- the letter of a cipher
abbrev pub letter : CipherName → List ℕ
letter Skinny = codes "s"
letter Cascade = codes "a"
letter Bench = codes "x"

-- the word of a command
abbrev pub spelt : Word → List ℕ
spelt word.Form = codes "form"
spelt word.Put = codes "put"
spelt word.Get = codes "get"
spelt word.Clear = codes "clear"
spelt word.Page = codes "page"
spelt word.Change = codes "change"

abbrev pub word_of : Command → Word
word_of (Form cipher slots page) = word.Form
word_of (Put slot fields) = word.Put
word_of (Get slot) = word.Get
word_of (Clear slot) = word.Clear
word_of (Page slot) = word.Page
word_of (Change key) = word.Change

-- a key's 16 bytes in hexadecimal digits
abbrev pub key_text : ℕ → List ℕ
key_text key = hex (bytes 16 key)

abbrev pub arguments : Command → List ℕ
arguments (Form cipher slots page) = letter cipher ++ (44 ∷ (decimal slots ++ (44 ∷ decimal page)))
arguments (Put slot fields) = decimal slot ++ (44 ∷ listed (list_of fields))
arguments (Get slot) = decimal slot
arguments (Clear slot) = decimal slot
arguments (Page slot) = decimal slot
arguments (Change key) = key_text key

-- 44 is the comma
abbrev pub text : Command → List ℕ
text c = spelt (word_of c) ++ (44 ∷ arguments c)

abbrev pub Seven : SheetFields → Type 0
Seven fields = AllByRecursion Small (list_of fields)

abbrev pub IsKey : ℕ → Type 0
IsKey key = IsBlock key

-- a command that a line can ask for: its numbers have one to five digits, and its key 16 bytes
abbrev pub Sound : Command → Type 0
Sound (Form cipher slots page) = Small slots × Small page
Sound (Put slot fields) = Small slot × Seven fields
Sound (Get slot) = Small slot
Sound (Clear slot) = Small slot
Sound (Page slot) = Small slot
Sound (Change key) = IsKey key

-- no two of them have one text
abbrev pub Distinct : Type 0
Distinct = (x y : Command) → Sound x → Sound y → text x ≡ text y → x ≡ y
