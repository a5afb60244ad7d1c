-- Every line is answered as the lines before it make due.
use Rattle.std.proofs.Common.{◌≡◌, ℕ, ◌*◌, ◌<◌, ◌≤◌, Bool, true, false, cond, eqb, ltb, leb, List, [], ◌∷◌, length, get_or, Some, None, Ok, Err, Option, Result, sym, refl, ap, ◌∙◌, ⊎_elim, arith}
use Rattle.std.proofs.lemmas.List.{length-take}
use Rattle.std.proofs.lemmas.Bool.{cond-true, cond-false, lt-ltb, le-ltb, le-leb, lt-leb, eq-eqb, cases_lt}
use Rattle.block.specs.Answers.{answered_as}
use Rattle.block.specs.Answers as block
use Rattle.record.specs.declared.sheet.Sheet.{Sheet}
use Rattle.record.specs.declared.fault.FieldFault.{FieldFault}
use Rattle.record.specs.Sheets.{making}
use Rattle.record.specs.contracts.sheet.making.SheetRecord.TheImpl as sheet
use Rattle.ciphers.specs.declared.name.CipherName.{CipherName}
use Rattle.ciphers.specs.declared.any.AnyCipher.{AnyCipher}
use Rattle.ciphers.specs.contracts.any.AnyCipherTweakableCipher.TheImpl as any
use Rattle.ciphers.specs.Ciphers.{encryption}
use Rattle.command.specs.declared.command.Command.{Command}
use Rattle.command.specs.declared.command.Command.TheVariants.{Form, Put, Get, Clear, Page, Change}
use Rattle.mode.specs.Permutes.{enciphered}
use Rattle.page.specs.declared.fault.PageFault.{PageFault}
use Rattle.page.specs.declared.fault.PageFault.TheVariants as fault
use Rattle.page.specs.Pages as pages
use Rattle.calls.specs.declared.geometry.Geometry.{Geometry}
use Rattle.calls.specs.declared.geometry.shape.GeometryFault.{GeometryFault}
use Rattle.calls.specs.declared.refusal.Refusal.{Refusal}
use Rattle.calls.specs.declared.refusal.Refusal.TheVariants as why
use Rattle.calls.specs.Shapes as shapes
use Rattle.calls.specs.Memory.{page, Sized}
use Rattle.calls.specs.Calls as calls
use Rattle.calls.specs.Refused.{by_memory, by_slot}
use Rattle.calls.specs.Runs as runs
use Rattle.session.specs.Answers.{Answer, ok, no, done, told}
use Rattle.session.specs.Answers as answers
use Rattle.session.specs.States.{Formed, State, used}
use Rattle.session.specs.Commanded.{Puts, shown, Serves, Forms, On}
use Rattle.session.specs.Lines.{Acts, Event, Ran, goes_on}
use Rattle.session.specs.History.{Formation, formation, held, where_slot, form_due, put_due, tells, page_due, due, due_after, Law}
use Rattle.session.proofs.Keeping.{Run, Stands, Whole, shape, stands}

-- a slot that is there, and one that is not
there : (k n : ℕ) (a b : Answer) → k < n → a ≡ cond (ltb k n) a b
there k n a b h = sym (cond-true (ltb k n) a b (lt-ltb k n h))

past : (k n : ℕ) (a b : Answer) → n ≤ k → b ≡ cond (ltb k n) a b
past k n a b h = sym (cond-false (ltb k n) a b (le-ltb k n h))

put-answer : (g : Geometry) (c : AnyCipher) (m : List ℕ) (k : ℕ) (o : Option Sheet) (m' : List ℕ) (q : Result (Unit {0}) Refusal) → Sized g m → calls.Put any.ghosts sheet.ghosts g c m k o m' q → done q ≡ cond (ltb k g.slots) ok (no (4 ∷ []))
put-answer g c m k o m' (Ok _) sized h = there k g.slots ok (no (4 ∷ [])) h.1
put-answer g c m k o m' (Err why.Memory) sized h = absurd (h.1 sized)
put-answer g c m k o m' (Err why.Slot) sized h = past k g.slots ok (no (4 ∷ [])) h.1.1
put-answer g c m k o m' (Err why.Buffer) sized h = absurd h.1
put-answer g c m k o m' (Err (why.Page e)) sized h = absurd h.1

told-tells : (o : Option Sheet) → told (Ok o) ≡ tells o
told-tells None = refl
told-tells (Some s) = refl

past_answer : (g : Geometry) (c : AnyCipher) (m : List ℕ) (k : ℕ) (b b' : List ℕ) (q : Result (Option Sheet) Refusal) → g.slots ≤ k → Sized g m → calls.Got any.ghosts sheet.ghosts g c m k b b' q → told q ≡ no (4 ∷ [])
past_answer g c m k b b' (Ok o) h sized got = absurd (omega (arith, got.1))
past_answer g c m k b b' (Err why.Memory) h sized got = absurd (got.0 sized)
past_answer g c m k b b' (Err why.Slot) h sized got = refl
past_answer g c m k b b' (Err why.Buffer) h sized got = absurd (omega (arith, got.1))
past_answer g c m k b b' (Err (why.Page e)) h sized got = absurd (omega (arith, got.1))

module _ (law : runs.Law any.ghosts sheet.ghosts) (es : List Event) (g : Geometry) (c : AnyCipher) (m : List ℕ) (r : Run g c es m) where
  stand : runs.Held any.ghosts sheet.ghosts g r.made c m
  stand = law.holds g r.made c m r.ran

  here : Formation
  here = record { name = r.name; key = r.key; slots = g.slots; size = g.page }

  puts_answer : (k : ℕ) (made : Result Sheet FieldFault) (m' : List ℕ) (a : Answer) → Puts g c m k made m' a → a ≡ put_due here k made
  unfolding here
  puts_answer k (Err e) m' a h = h.1
  puts_answer k (Ok s) m' a h = h.2 ∙ put-answer g c m k (Some s) m' h.0 stand.sized h.1

  get-answer : (k : ℕ) (w w' : List ℕ) (q : Result (Option Sheet) Refusal) → length w ≡ 4096 → calls.Got any.ghosts sheet.ghosts g c m k w w' q → told q ≡ where_slot here k (tells (held es k))
  unfolding here
  get-answer k w w' q long got =
      ⊎_elim
      (λ (h : k < g.slots).
      ap told (stand.got k w w' q h (omega (arith, g.ok.3)) got) ∙ told-tells (runs.content r.made k) ∙ ap tells (sym (r.same k))
      ∙ there k g.slots (tells (held es k)) (no (4 ∷ [])) h)
      (λ (h : g.slots ≤ k). past_answer g c m k w w' q h stand.sized got ∙ past k g.slots (tells (held es k)) (no (4 ∷ [])) h)
      (cases_lt k g.slots)

  page-answer : (k : ℕ) → shown (by_memory g m (by_slot g k [])) (page g.page k m) ≡ where_slot here k (answers.stored (page_due here k (held es k)))
  unfolding here
  page-answer k =
      ap (λ ns. shown ns (page g.page k m)) (cond-true (eqb (length m) (g.slots * g.page)) (by_slot g k []) (3 ∷ []) (eq-eqb (length m) (g.slots * g.page) stand.sized))
      ∙ ⊎_elim
      (λ (h : k < g.slots).
      ap (λ ns. shown ns (page g.page k m)) (cond-true (ltb k g.slots) [] (4 ∷ []) (lt-ltb k g.slots h))
      ∙ ap answers.stored (stand.pages k h
      ∙ ap (λ e. enciphered e (pages.plain sheet.ghosts g.page k (runs.content r.made k))) r.under.encrypting
      ∙ ap (λ o. enciphered (encryption r.name r.key) (pages.plain sheet.ghosts g.page k o)) (sym (r.same k)))
      ∙ there k g.slots _ (no (4 ∷ [])) h)
      (λ (h : g.slots ≤ k).
      ap (λ ns. shown ns (page g.page k m)) (cond-false (ltb k g.slots) [] (4 ∷ []) (le-ltb k g.slots h)) ∙ past k g.slots _ (no (4 ∷ [])) h)
      (cases_lt k g.slots)

  change_answer : (to c' : AnyCipher) (m' w w' : List ℕ) (q : Result (Unit {0}) Refusal) → length w ≡ 4096 → calls.Changed any.ghosts sheet.ghosts g c m to w c' m' w' q → done q ≡ ok
  change_answer to c' m' w w' (Ok _) long h = refl
  change_answer to c' m' w w' (Err why.Memory) long h = absurd (h.3 stand.sized)
  change_answer to c' m' w w' (Err why.Slot) long h = absurd h
  change_answer to c' m' w w' (Err why.Buffer) long h = absurd (omega (arith, h.4, g.ok.3))
  change_answer to c' m' w w' (Err (why.Page e)) long h =
      let x = runs.change m m' to w w' (Err (why.Page e)) in
      let sound = (law.holds g (x ∷ r.made) c' m' (runs.goes_on r.ran x refl h refl)).sound in
      absurd (low e.slot e.fault sound.0)
    where
      low : (slot : ℕ) (e : PageFault) → get_or (pages.fault_numbers slot e) 0 0 < 6 → ⊥
      low slot fault.Head h = omega arith
      low slot (fault.Record r) h = omega arith

  serves_answer : (w : List ℕ) (x : Command) (c' : AnyCipher) (m' w' : List ℕ) (a : Answer) → length w ≡ 4096 → Serves g c m w x c' m' w' a → a ≡ due (Some here) (held es) x
  unfolding here
  serves_answer w (Form name n p) c' m' w' a long h = absurd h
  serves_answer w (Put k fields) c' m' w' a long h = puts_answer k (making fields) m' a h.2
  serves_answer w (Get k) c' m' w' a long h = h.2.2 ∙ get-answer k w w' h.2.0 long h.2.1
  serves_answer w (Clear k) c' m' w' a long h = h.2.2 ∙ put-answer g c m k None m' h.2.0 stand.sized h.2.1
  serves_answer w (Page k) c' m' w' a long h = h.3 ∙ page-answer k
  serves_answer w (Change key) c' m' w' a long h = h.2.2 ∙ change_answer h.0 c' m' w w' h.2.0 long h.2.1

  served : (w : List ℕ) (x : Command) (c' : AnyCipher) (m' w' : List ℕ) (a : Answer) → length w ≡ 4096 → Serves g c m w x c' m' w' a → a ≡ due (formation es) (held es) x
  unfolding here
  served w x c' m' w' a long h = serves_answer w x c' m' w' a long h ∙ ap (λ o. due o (held es) x) (sym r.formed)

-- form: the geometry is made just where its numbers are admitted, and the memory suffices just where it is long enough
formed_answer : (g : Geometry) (c : AnyCipher) (memory m' : List ℕ) (q : Result (Unit {0}) Refusal) → length memory ≡ 32768 → calls.Formed any.ghosts sheet.ghosts g c (used g memory) m' q
    → done q ≡ cond (leb (g.slots * g.page) 32768) ok (no (3 ∷ []))
formed_answer g c memory m' (Ok _) long h =
    let n = length-take (g.slots * g.page) memory in
    sym (cond-true (leb (g.slots * g.page) 32768) ok (no (3 ∷ [])) (le-leb (g.slots * g.page) 32768 (omega (arith, h.0))))
formed_answer g c memory m' (Err why.Memory) long h =
    ⊎_elim
    (λ (l : 32768 < g.slots * g.page). sym (cond-false (leb (g.slots * g.page) 32768) ok (no (3 ∷ [])) (lt-leb (g.slots * g.page) 32768 l)))
    (λ (l : g.slots * g.page ≤ 32768). let n = length-take (g.slots * g.page) memory in absurd (h.1 (omega arith)))
    (cases_lt 32768 (g.slots * g.page))
formed_answer g c memory m' (Err why.Slot) long h = absurd h.1
formed_answer g c memory m' (Err why.Buffer) long h = absurd h.1
formed_answer g c memory m' (Err (why.Page e)) long h = absurd h.1

by_the_test : {T U : Type 0} (x : T) (y : block.Answer T) (ns : List ℕ) (b : Bool) (a d : U) → block.accepted x ≡ y → y ≡ cond b (block.accepted x) (block.refused ns) → a ≡ cond b a d
by_the_test x y ns true a d e h = refl
by_the_test x y ns false a d e h = let z : ◌≡◌ {A = ℕ} 0 1 = cc in absurd (omega arith)

not_by_test : {T U : Type 0} (x : T) (ns ms : List ℕ) (b : Bool) (a d : U) → block.refused ns ≡ cond b (block.accepted x) (block.refused ms) → d ≡ cond b a d
not_by_test x ns ms false a d h = refl
not_by_test x ns ms true a d h = let z : ◌≡◌ {A = ℕ} 0 1 = cc in absurd (omega arith)

forms_answer : (s s' : State) (name : CipherName) (n p : ℕ) (made : Result Geometry GeometryFault) (a : Answer) → length s.memory ≡ 32768 → answered_as (λ g. (g.slots, g.page)) shapes.numbers made ≡ shapes.answer n p
    → Forms s name made s' a → a ≡ form_due n p
forms_answer s s' name n p (Err e) a long is h =
    let x : ℕ × ℕ = (n, p) in
    h.1 ∙ not_by_test x (2 ∷ []) (2 ∷ []) (shapes.admitted n p) (cond (leb (n * p) 32768) ok (no (3 ∷ []))) (no (2 ∷ [])) is
forms_answer s s' name n p (Ok g) a long is h =
    let same = shape g n p is in
    let x : ℕ × ℕ = (n, p) in
    let mine : ℕ × ℕ = (g.slots, g.page) in
    let x-is : mine ≡ x = cc in
    h.2.3 ∙ formed_answer g h.0 s.memory (used g s'.memory) h.2.0 long h.2.1
    ∙ ap (λ k. cond (leb k 32768) ok (no (3 ∷ []))) (ap (λ k. k * g.page) same.0 ∙ ap (λ k. n * k) same.1)
    ∙ by_the_test x (block.accepted mine) (2 ∷ []) (shapes.admitted n p) (cond (leb (n * p) 32768) ok (no (3 ∷ []))) (no (2 ∷ [])) (ap block.accepted (sym x-is)) is

on_answer : runs.Law any.ghosts sheet.ghosts → (es : List Event) (s s' : State) (o : Option Formed) (x : Command) (a : Answer) → length s.working ≡ 4096 → Stands es o s.memory → On s o x s' a → (due None (held es) x ≡ no (9 ∷ [])) → a ≡ due (formation es) (held es) x
on_answer law es s s' None x a long r h none = h.1 ∙ sym none ∙ ap (λ o. due o (held es) x) (sym r)
on_answer law es s s' (Some f) x a long r h none =
    served law es f.geometry f.cipher (used f.geometry s.memory) r s.working x h.0 (used f.geometry s'.memory) s'.working a long h.2

acts_answer : runs.Law any.ghosts sheet.ghosts → (es : List Event) (s s' : State) (o : Option Command) (a : Answer) → Whole es s → Acts s o s' a → a ≡ due_after es o
acts_answer law es s s' None a whole h = h.1
acts_answer law es s s' (Some (Form name n p)) a whole h = forms_answer s s' name n p h.0 a whole.memory h.1 h.2
acts_answer law es s s' (Some (Put k fields)) a whole h = on_answer law es s s' s.formed (Put k fields) a whole.working whole.stands h refl
acts_answer law es s s' (Some (Get k)) a whole h = on_answer law es s s' s.formed (Get k) a whole.working whole.stands h refl
acts_answer law es s s' (Some (Clear k)) a whole h = on_answer law es s s' s.formed (Clear k) a whole.working whole.stands h refl
acts_answer law es s s' (Some (Page k)) a whole h = on_answer law es s s' s.formed (Page k) a whole.working whole.stands h refl
acts_answer law es s s' (Some (Change key)) a whole h = on_answer law es s s' s.formed (Change key) a whole.working whole.stands h refl

answered : runs.Law any.ghosts sheet.ghosts → (es : List Event) (e : Event) (s : State) → Ran (e ∷ es) s → e.answer ≡ due_after es e.asked
answered law es e s (goes_on {s = s₀} r e₀ asks acts) = acts_answer law es s₀ s e.asked e.answer (stands es s₀ r) acts

pub lawful : runs.Law any.ghosts sheet.ghosts → Law
lawful law =
    record {
      answered = answered law;
      kept = λ es e s f k ran formed h asked.
          answered law es e s ran ∙ ap (due_after es) asked ∙ ap (λ o. due o (held es) (Get k)) formed ∙ sym (there k f.slots (tells (held es k)) (no (4 ∷ [])) h);
    }
