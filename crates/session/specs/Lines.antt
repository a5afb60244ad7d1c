-- Lines, and lists of them.
use Rattle.std.specs.Prelude.{◌≡◌, ℕ, cond, List, [], ◌∷◌, length, Some, None, Option, nat_le}
use Rattle.text.specs.Texts.{Reads}
use Rattle.command.specs.declared.command.Command.{Command}
use Rattle.command.specs.Commands.{Sound, text}
use Rattle.session.specs.Answers.{Answer, no}
use Rattle.session.specs.States.{State, start}
use Rattle.session.specs.Commanded.{Does}

-- a line of more than 256 bytes is not kept
abbrev pub kept : List ℕ → Option (List ℕ)
kept line = cond (nat_le (length line) 256) (Some line) None

-- what a line asks: the command whose text it is, or nothing where it is that of none, or was not kept
abbrev pub Asks : Option (List ℕ) → Option Command → Type 0
Asks None asked = asked ≡ None
Asks (Some line) asked = Reads Sound text line asked

-- what asking that does
abbrev pub Acts : State → Option Command → State → Answer → Type 0
Acts s None s' a = (s' ≡ s) × (a ≡ no (9 ∷ []))
Acts s (Some x) s' a = Does s x s' a

-- a line, what it asked, and what it was answered
pub record Event : Type 0 where
  pub line : List ℕ
  pub asked : Option Command
  pub answer : Answer

-- the lines came one after the other, from the start on, and left the state s; the latest stands first
pub data Ran : List Event → State → Type 0 where
  starts : Ran [] start
  goes_on : {es : List Event} {s s' : State} → Ran es s → (e : Event) → Asks (kept e.line) e.asked → Acts s e.asked s' e.answer → Ran (e ∷ es) s'
