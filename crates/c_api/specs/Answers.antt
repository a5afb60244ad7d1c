-- The numbers and values of each answer.
use Rattle.std.specs.Prelude.{ℕ, Some, None, Ok, Err, Option, Result}
use Rattle.page.specs.declared.fault.PageFault.{PageFault}
use Rattle.page.specs.declared.fault.PageFault.TheVariants as fault
use Rattle.zcz.specs.declared.refusal.Refusal as message
use Rattle.calls.specs.declared.refusal.Refusal as store
use Rattle.calls.specs.declared.refusal.Refusal.TheVariants as why
use Rattle.c_api.specs.declared.answer.Answer.{Answer}
use Rattle.c_api.specs.declared.answer.Refusal.{Refusal}
use Rattle.c_api.specs.declared.answer.Refusal.TheVariants.{Cipher, Key, Message, Geometry, Record, Store}

abbrev pub yes : ℕ → Answer
yes found = record { number = 0; slot = 0; field = 0; found = found }

abbrev pub no : ℕ → ℕ → ℕ → Answer
no number slot field = record { number = number; slot = slot; field = field; found = 0 }

abbrev pub page_answer : ℕ → PageFault → Answer
page_answer slot fault.Head = no 6 slot 0
page_answer slot (fault.Record e) = no 7 slot e.field

abbrev pub store_answer : store.Refusal → Answer
store_answer why.Memory = no 3 0 0
store_answer why.Slot = no 4 0 0
store_answer why.Buffer = no 5 0 0
store_answer (why.Page e) = page_answer e.slot e.fault

abbrev pub refused : Refusal → Answer
refused Cipher = no 100 0 0
refused Key = no 101 0 0
refused (Message e) = no 1 0 0
refused (Geometry e) = no 2 0 0
refused (Record e) = no 8 0 e.field
refused (Store e) = store_answer e

-- the answer to a message
abbrev pub sent : Result (Unit {0}) message.Refusal → Answer
sent (Ok _) = yes 0
sent (Err e) = no 1 0 0

-- the answer to a call of the store: one that only tells that it is done, and one that tells what it found
abbrev pub done : Result (Unit {0}) store.Refusal → Answer
done (Ok _) = yes 0
done (Err e) = store_answer e

abbrev pub told : {R : Type 0} → Result (Option R) store.Refusal → Answer
told (Ok None) = yes 0
told (Ok (Some r)) = yes 1
told (Err e) = store_answer e

-- what was found, or what was there before
abbrev pub found_or : {R F : Type 0} → (R → F) → Result (Option R) store.Refusal → F → F
found_or fields (Ok None) f = f
found_or fields (Ok (Some r)) f = fields r
found_or fields (Err e) f = f
