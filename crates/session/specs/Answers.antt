-- What a line is answered, and the answer's text.
use Rattle.std.specs.Prelude.{ℕ, List, [], ◌∷◌, ◌++◌, Some, None, Ok, Err, codes, Option, Result}
use Rattle.text.specs.Texts.{listed, hex}
use Rattle.record.specs.declared.sheet.Sheet.{Sheet}
use Rattle.record.specs.Fields.{list_of}
use Rattle.record.specs.Makings as makings
use Rattle.calls.specs.Shapes as shapes
use Rattle.calls.specs.declared.refusal.Refusal as store
use Rattle.calls.specs.Calls as calls
use Rattle.session.specs.declared.refusal.Refusal.{Refusal}
use Rattle.session.specs.declared.refusal.Refusal.TheVariants as refusal
use Rattle.session.specs.declared.reply.Reply.{Reply}
use Rattle.session.specs.declared.reply.Reply.TheVariants.{Done, Empty, Found}

-- done; nothing there; a sheet's seven numbers; a page's bytes; refused, with the refusal's number and values
pub data Answer : Type 0 where
  ok : Answer
  none : Answer
  numbers : List ℕ → Answer
  stored : List ℕ → Answer
  no : List ℕ → Answer

abbrev pub answer_text : Answer → List ℕ
answer_text ok = codes "ok"
answer_text none = codes "none"
answer_text (numbers ns) = listed ns
answer_text (stored bytes) = hex bytes
answer_text (no ns) = codes "no," ++ listed ns

-- each refusal's number and values
abbrev pub refusal_numbers : Refusal → List ℕ
refusal_numbers refusal.Line = 9 ∷ []
refusal_numbers (refusal.Geometry e) = shapes.numbers e
refusal_numbers (refusal.Sheet e) = makings.numbers e
refusal_numbers (refusal.Store e) = calls.numbers e

-- what the code answers, in these words
abbrev pub replied : Result Reply Refusal → Answer
replied (Ok Done) = ok
replied (Ok Empty) = none
replied (Ok (Found s)) = numbers (list_of s.fields)
replied (Err e) = no (refusal_numbers e)

-- the answer to a call of the store: one that only tells that it is done, and one that tells what it found
abbrev pub done : Result (Unit {0}) store.Refusal → Answer
done (Ok _) = ok
done (Err e) = no (calls.numbers e)

abbrev pub told : Result (Option Sheet) store.Refusal → Answer
told (Ok None) = none
told (Ok (Some s)) = numbers (list_of s.fields)
told (Err e) = no (calls.numbers e)
