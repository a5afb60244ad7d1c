-- What a list of lines tells by itself, with no store and no memory: what is formed, what each slot holds, and what the
-- next line is due to be answered. The latest line stands first.
use Rattle.std.specs.Prelude.{◌≡◌, ℕ, ◌*◌, ◌<◌, Bool, true, false, cond, List, [], ◌∷◌, Some, None, Ok, Err, Option, Result, ◌==◌, nat_le, nat_lt}
use Rattle.std.specs.Result.{result_ok}
use Rattle.record.specs.declared.sheet.Sheet.{Sheet}
use Rattle.record.specs.declared.fault.FieldFault.{FieldFault}
use Rattle.record.specs.contracts.sheet.making.SheetRecord.TheImpl as sheet
use Rattle.record.specs.Fields.{list_of}
use Rattle.record.specs.Sheets.{making}
use Rattle.record.specs.Makings as makings
use Rattle.ciphers.specs.declared.name.CipherName.{CipherName}
use Rattle.ciphers.specs.Ciphers.{encryption}
use Rattle.mode.specs.Permutes.{enciphered}
use Rattle.page.specs.Pages.{plain}
use Rattle.calls.specs.Shapes.{admitted}
use Rattle.command.specs.declared.command.Command.{Command}
use Rattle.command.specs.declared.command.Command.TheVariants.{Form, Put, Get, Clear, Page, Change}
use Rattle.session.specs.Answers.{Answer, ok, none, numbers, stored, no}
use Rattle.session.specs.States.{State}
use Rattle.session.specs.Lines.{Event, Ran}

abbrev pub accepted : Answer → Bool
accepted ok = true
accepted none = true
accepted (numbers ns) = true
accepted (stored bytes) = true
accepted (no ns) = false

-- what is formed: the cipher and its key, how many slots, and how many bytes a page
pub record Formation : Type 0 where
  pub name : CipherName
  pub key : ℕ
  pub slots : ℕ
  pub size : ℕ

abbrev pub rekeyed : ℕ → Option Formation → Option Formation
rekeyed key None = None
rekeyed key (Some f) = Some (record { name = f.name; key = key; slots = f.slots; size = f.size })

-- what a line makes of it
abbrev pub formed_by : Option Command → Answer → Option Formation → Option Formation
formed_by None a o = o
formed_by (Some (Form name n p)) a o = cond (accepted a) (Some (record { name = name; key = 0; slots = n; size = p })) o
formed_by (Some (Put slot fields)) a o = o
formed_by (Some (Get slot)) a o = o
formed_by (Some (Clear slot)) a o = o
formed_by (Some (Page slot)) a o = o
formed_by (Some (Change key)) a o = cond (accepted a) (rekeyed key o) o

-- the last accepted form, under the key of the last accepted change after it
abbrev pub formation : List Event → Option Formation
formation [] = None
formation (e ∷ es) = formed_by e.asked e.answer (formation es)

-- what a line makes of the sheet that slot k holds
abbrev pub held_by : Option Command → Answer → ℕ → Option Sheet → Option Sheet
held_by None a k o = o
held_by (Some (Form name n p)) a k o = cond (accepted a) None o
held_by (Some (Put slot fields)) a k o = cond (accepted a) (cond (k == slot) (result_ok (making fields)) o) o
held_by (Some (Get slot)) a k o = o
held_by (Some (Clear slot)) a k o = cond (accepted a) (cond (k == slot) None o) o
held_by (Some (Page slot)) a k o = o
held_by (Some (Change key)) a k o = o

-- the sheet of the last accepted put to slot k, unless an accepted form, or an accepted clear of it, came after
abbrev pub held : List Event → ℕ → Option Sheet
held [] k = None
held (e ∷ es) k = held_by e.asked e.answer k (held es k)

-- what is due where something must be formed, and where there must be such a slot
abbrev pub where_formed : Option Formation → (Formation → Answer) → Answer
where_formed None due = no (9 ∷ [])
where_formed (Some f) due = due f

abbrev pub where_slot : Formation → ℕ → Answer → Answer
where_slot f k a = cond (nat_lt k f.slots) a (no (4 ∷ []))

-- form: the geometry's limits, and then the memory's
abbrev pub form_due : ℕ → ℕ → Answer
form_due n p = cond (admitted n p) (cond (nat_le (n * p) 32768) ok (no (3 ∷ []))) (no (2 ∷ []))

-- put: the sheet's fields, and then the slot
abbrev pub put_due : Formation → ℕ → Result Sheet FieldFault → Answer
put_due f k (Ok s) = where_slot f k ok
put_due f k (Err e) = no (makings.numbers e)

abbrev pub tells : Option Sheet → Answer
tells None = none
tells (Some s) = numbers (list_of s.fields)

-- the page of slot k: the enciphering of the plain page for what it holds
abbrev pub page_due : Formation → ℕ → Option Sheet → List ℕ
page_due f k o = enciphered (encryption f.name f.key) (plain sheet.ghosts f.size k o)

-- what a command is due to be answered
abbrev pub due : Option Formation → (ℕ → Option Sheet) → Command → Answer
due o holds (Form name n p) = form_due n p
due o holds (Put k fields) = where_formed o (λ f. put_due f k (making fields))
due o holds (Get k) = where_formed o (λ f. where_slot f k (tells (holds k)))
due o holds (Clear k) = where_formed o (λ f. where_slot f k ok)
due o holds (Page k) = where_formed o (λ f. where_slot f k (stored (page_due f k (holds k))))
due o holds (Change key) = where_formed o (λ f. ok)

-- what a line is due to be answered
abbrev pub due_after : List Event → Option Command → Answer
due_after es None = no (9 ∷ [])
due_after es (Some x) = due (formation es) (held es) x

-- every line was answered as it was due. So get answers the numbers of the last accepted put to its slot, unless an
-- accepted form or clear came after, whatever keys were changed in between.
pub record Law : Type 0 where
  pub answered : (es : List Event) (e : Event) (s : State) → Ran (e ∷ es) s → e.answer ≡ due_after es e.asked
  pub kept : (es : List Event) (e : Event) (s : State) (f : Formation) (k : ℕ) → Ran (e ∷ es) s → formation es ≡ Some f → k < f.slots → e.asked ≡ Some (Get k) → e.answer ≡ tells (held es k)
