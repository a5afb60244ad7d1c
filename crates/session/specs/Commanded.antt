-- What each command does and is answered, by the calls of the store (m, w and c are the store's memory, the working
-- buffer and the cipher before it, and m', w' and c' after it).
use Rattle.std.specs.Prelude.{◌≡◌, ℕ, List, [], ◌∷◌, Some, None, Ok, Err, Option, Result}
use Rattle.block.specs.Answers.{answered_as}
use Rattle.record.specs.declared.sheet.Sheet.{Sheet}
use Rattle.record.specs.declared.fault.FieldFault.{FieldFault}
use Rattle.record.specs.Sheets.{making}
use Rattle.record.specs.Makings as makings
use Rattle.record.specs.contracts.sheet.making.SheetRecord.TheImpl as sheet
use Rattle.ciphers.specs.declared.name.CipherName.{CipherName}
use Rattle.ciphers.specs.declared.any.AnyCipher.{AnyCipher}
use Rattle.ciphers.specs.contracts.any.AnyCipherTweakableCipher.TheImpl as any
use Rattle.ciphers.specs.Ciphers.{name_of, Under}
use Rattle.command.specs.declared.command.Command.{Command}
use Rattle.command.specs.declared.command.Command.TheVariants as command
use Rattle.calls.specs.declared.geometry.Geometry.{Geometry}
use Rattle.calls.specs.declared.geometry.shape.GeometryFault.{GeometryFault}
use Rattle.calls.specs.declared.refusal.Refusal.{Refusal}
use Rattle.calls.specs.Shapes as shapes
use Rattle.calls.specs.Memory.{page}
use Rattle.calls.specs.Calls as calls
use Rattle.calls.specs.Refused.{by_memory, by_slot}
use Rattle.session.specs.Answers.{Answer, stored, no, done, told}
use Rattle.session.specs.States.{Formed, State, used, spare}

-- put: a wrong field comes before a wrong slot
abbrev pub Puts : Geometry → AnyCipher → List ℕ → ℕ → Result Sheet FieldFault → List ℕ → Answer → Type 0
Puts g c m slot (Err e) m' a = (m' ≡ m) × (a ≡ no (makings.numbers e))
Puts g c m slot (Ok r) m' a = (q : Result (Unit {0}) Refusal) × calls.Put any.ghosts sheet.ghosts g c m slot (Some r) m' q × (a ≡ done q)

-- page: refused as get is before it looks at the page, or the bytes as they are stored
abbrev pub shown : List ℕ → List ℕ → Answer
shown [] bytes = stored bytes
shown (n ∷ ns) bytes = no (n ∷ ns)

-- a command on a formed store; form makes one and is told of below
abbrev pub Serves : Geometry → AnyCipher → List ℕ → List ℕ → Command → AnyCipher → List ℕ → List ℕ → Answer → Type 0
Serves g c m w (command.Form name n p) c' m' w' a = ⊥
Serves g c m w (command.Put slot fields) c' m' w' a = (c' ≡ c) × (w' ≡ w) × Puts g c m slot (making fields) m' a
Serves g c m w (command.Get slot) c' m' w' a =
    (c' ≡ c) × (m' ≡ m) × ((q : Result (Option Sheet) Refusal) × calls.Got any.ghosts sheet.ghosts g c m slot w w' q × (a ≡ told q))
Serves g c m w (command.Clear slot) c' m' w' a =
    (c' ≡ c) × (w' ≡ w) × ((q : Result (Unit {0}) Refusal) × calls.Put any.ghosts sheet.ghosts g c m slot None m' q × (a ≡ done q))
Serves g c m w (command.Page slot) c' m' w' a =
    (c' ≡ c) × (m' ≡ m) × (w' ≡ w) × (a ≡ shown (by_memory g m (by_slot g slot [])) (page g.page slot m))
Serves g c m w (command.Change key) c' m' w' a =
    (to : AnyCipher) × Under (name_of c) key to
    × ((q : Result (Unit {0}) Refusal) × calls.Changed any.ghosts sheet.ghosts g c m to w c' m' w' q × (a ≡ done q))

-- what is formed after a form: where it is accepted the new, else the former
abbrev pub after : Result (Unit {0}) Refusal → Formed → Option Formed → Option Formed
after (Ok _) new former = Some new
after (Err e) new former = former

-- form, by what making the geometry answered: refused, or the call of the store under a key of 16 zero bytes
abbrev pub Forms : State → CipherName → Result Geometry GeometryFault → State → Answer → Type 0
Forms s name (Err e) s' a = (s' ≡ s) × (a ≡ no (shapes.numbers e))
Forms s name (Ok g) s' a =
    (c : AnyCipher) × Under name 0 c
    × ((q : Result (Unit {0}) Refusal) × calls.Formed any.ghosts sheet.ghosts g c (used g s.memory) (used g s'.memory) q
    × (s'.formed ≡ after q (record { geometry = g; cipher = c }) s.formed) × (a ≡ done q))
    × (spare g s'.memory ≡ spare g s.memory) × (s'.working ≡ s.working)

-- a command on a formed store whose part of the memory is `used`
abbrev pub OnFormed : State → Geometry → AnyCipher → Command → State → Answer → Type 0
OnFormed s g c x s' a =
    (c' : AnyCipher) × (s'.formed ≡ Some (record { geometry = g; cipher = c' }))
    × Serves g c (used g s.memory) s.working x c' (used g s'.memory) s'.working a
    × (spare g s'.memory ≡ spare g s.memory)

-- a command that wants a formed store
abbrev pub On : State → Option Formed → Command → State → Answer → Type 0
On s None x s' a = (s' ≡ s) × (a ≡ no (9 ∷ []))
On s (Some f) x s' a = OnFormed s f.geometry f.cipher x s' a

-- a command, whatever is held
abbrev pub Does : State → Command → State → Answer → Type 0
Does s (command.Form name n p) s' a =
    (r : Result Geometry GeometryFault) × (answered_as (λ g. (g.slots, g.page)) shapes.numbers r ≡ shapes.answer n p) × Forms s name r s' a
Does s (command.Put slot fields) s' a = On s s.formed (command.Put slot fields) s' a
Does s (command.Get slot) s' a = On s s.formed (command.Get slot) s' a
Does s (command.Clear slot) s' a = On s s.formed (command.Clear slot) s' a
Does s (command.Page slot) s' a = On s s.formed (command.Page slot) s' a
Does s (command.Change key) s' a = On s s.formed (command.Change key) s' a
