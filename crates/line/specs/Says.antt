-- The text of a line's answer.
use Rattle.std.specs.Prelude.{◌≡◌, ℕ, List}
use Rattle.writer.specs.Writes.{Written}
use Rattle.session.specs.Answers.{Answer, answer_text}

-- the text is that of an answer of which P holds
abbrev pub Says : (Answer → Type 0) → List ℕ → Type 0
Says P text = (a : Answer) × P a × (text ≡ answer_text a)

-- the text of an answer of which P holds was written from the front of the buffer on, and is `end` bytes long
abbrev pub SaysInto : (Answer → Type 0) → List ℕ → List ℕ → ℕ → Type 0
SaysInto P out out' end = (a : Answer) × P a × Written out 0 (answer_text a) out' end
