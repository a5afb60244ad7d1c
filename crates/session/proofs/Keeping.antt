-- What is held between lines is what the lines tell: behind it stands a list of the store's calls.
use Rattle.std.proofs.Common.{◌≡◌, ℕ, ◌+◌, ◌*◌, ◌≤◌, Bool, true, false, cond, List, [], ◌∷◌, ◌++◌, length, take, drop, Some, None, Ok, Err, Option, Result, sym, refl, ap, ◌∙◌, subst, arith, length-append, length-drop}
use lib.ListN.{length-replicate}
use Rattle.std.proofs.lemmas.List.{take-append-drop}
use Rattle.block.specs.Answers.{answered_as}
use Rattle.block.specs.Answers as block
use Rattle.record.specs.declared.sheet.Sheet.{Sheet}
use Rattle.record.specs.declared.fault.FieldFault.{FieldFault}
use Rattle.record.specs.declared.fields.SheetFields.{SheetFields}
use Rattle.record.specs.Sheets.{making}
use Rattle.record.specs.contracts.sheet.making.SheetRecord.TheImpl as sheet
use Rattle.ciphers.specs.declared.name.CipherName.{CipherName}
use Rattle.ciphers.specs.declared.any.AnyCipher.{AnyCipher}
use Rattle.ciphers.specs.contracts.any.AnyCipherTweakableCipher.TheImpl as any
use Rattle.ciphers.specs.Ciphers.{name_of, Under}
use Rattle.command.specs.declared.command.Command.{Command}
use Rattle.command.specs.declared.command.Command.TheVariants.{Form, Put, Get, Clear, Page, Change}
use Rattle.calls.specs.declared.geometry.Geometry.{Geometry}
use Rattle.calls.specs.declared.geometry.shape.GeometryFault.{GeometryFault}
use Rattle.calls.specs.declared.refusal.Refusal as refusal
use Rattle.calls.specs.declared.refusal.Refusal.TheVariants as why
use Rattle.calls.specs.Shapes as shapes
use Rattle.calls.specs.Memory.{wiped}
use Rattle.calls.specs.Calls as calls
use Rattle.calls.specs.Runs as runs
use Rattle.session.specs.Answers.{Answer, ok, no, done}
use Rattle.session.specs.States.{Formed, State, start, used, spare}
use Rattle.session.specs.Commanded.{Puts, Serves, after, Forms, On}
use Rattle.session.specs.Lines.{Acts, Event, Ran, starts, goes_on}
use Rattle.session.specs.History.{Formation, rekeyed, formed_by, formation, held_by, held}

-- the store's calls behind the lines since the last accepted form; m is the store's part of the memory
pub record Run (g : Geometry) (c : AnyCipher) (es : List Event) (m : List ℕ) : Type 0 where
  pub made : List (runs.Call AnyCipher Sheet)
  pub ran : runs.Ran any.ghosts sheet.ghosts g made c m
  pub name : CipherName
  pub key : ℕ
  pub under : Under name key c
  pub formed : formation es ≡ Some (record { name = name; key = key; slots = g.slots; size = g.page })
  pub same : (k : ℕ) → held es k ≡ runs.content made k

abbrev pub Stands : List Event → Option Formed → List ℕ → Type 0
Stands es None memory = formation es ≡ None
Stands es (Some f) memory = Run f.geometry f.cipher es (used f.geometry memory)

pub record Whole (es : List Event) (s : State) : Type 0 where
  pub memory : length s.memory ≡ 32768
  pub working : length s.working ≡ 4096
  pub stands : Stands es s.formed s.memory

-- memories of one length in a store's part and behind it
same_long : (n : ℕ) (m m' : List ℕ) → length (take n m') ≡ length (take n m) → drop n m' ≡ drop n m → length m' ≡ length m
same_long n m m' here behind =
    ap length (sym (take-append-drop n m')) ∙ length-append (take n m') (drop n m')
    ∙ ap (λ k. k + length (drop n m')) here
    ∙ ap (λ x. length (take n m) + length x) behind
    ∙ sym (length-append (take n m) (drop n m))
    ∙ ap length (take-append-drop n m)

-- the working buffer keeps its length
wiped_long : (size : ℕ) (b : List ℕ) → size ≤ length b → length (wiped size b) ≡ length b
wiped_long size b h = simp (length-append, length-replicate, length-drop) (omega arith)

got_long : (g : Geometry) (c : AnyCipher) (m : List ℕ) (k : ℕ) (b b' : List ℕ) (q : Result (Option Sheet) refusal.Refusal) → calls.Got any.ghosts sheet.ghosts g c m k b b' q → length b' ≡ length b
got_long g c m k b b' (Ok o) h = ap length h.4 ∙ wiped_long g.page b h.2
got_long g c m k b b' (Err why.Memory) h = ap length h.1
got_long g c m k b b' (Err why.Slot) h = ap length h.2
got_long g c m k b b' (Err why.Buffer) h = ap length h.3
got_long g c m k b b' (Err (why.Page e)) h = ap length h.4 ∙ wiped_long g.page b h.2

changed_long : (g : Geometry) (c : AnyCipher) (m : List ℕ) (to : AnyCipher) (b : List ℕ) (c' : AnyCipher) (m' b' : List ℕ) (q : Result (Unit {0}) refusal.Refusal) → calls.Changed any.ghosts sheet.ghosts g c m to b c' m' b' q → length b' ≡ length b
changed_long g c m to b c' m' b' (Ok _) h = ap length h.5 ∙ wiped_long g.page b h.3
changed_long g c m to b c' m' b' (Err why.Memory) h = ap length h.2
changed_long g c m to b c' m' b' (Err why.Slot) h = absurd h
changed_long g c m to b c' m' b' (Err why.Buffer) h = ap length h.2
changed_long g c m to b c' m' b' (Err (why.Page e)) h = ap length h.2 ∙ wiped_long g.page b h.4

serves_long : (g : Geometry) (c : AnyCipher) (m w : List ℕ) (x : Command) (c' : AnyCipher) (m' w' : List ℕ) (a : Answer) → Serves g c m w x c' m' w' a → length w' ≡ length w
serves_long g c m w (Form name n p) c' m' w' a h = absurd h
serves_long g c m w (Put slot fields) c' m' w' a h = ap length h.1
serves_long g c m w (Get slot) c' m' w' a h = got_long g c m slot w w' h.2.0 h.2.1
serves_long g c m w (Clear slot) c' m' w' a h = ap length h.1
serves_long g c m w (Page slot) c' m' w' a h = ap length h.2
serves_long g c m w (Change key) c' m' w' a h = changed_long g c m h.0 w c' m' w' h.2.0 h.2.1

-- and so does the store's part of the memory
put_long : (g : Geometry) (c : AnyCipher) (m : List ℕ) (k : ℕ) (o : Option Sheet) (m' : List ℕ) (q : Result (Unit {0}) refusal.Refusal) → calls.Put any.ghosts sheet.ghosts g c m k o m' q → length m' ≡ length m
put_long g c m k o m' (Ok _) h = h.2.long
put_long g c m k o m' (Err e) h = ap length h.0

puts_long : (g : Geometry) (c : AnyCipher) (m : List ℕ) (k : ℕ) (made : Result Sheet FieldFault) (m' : List ℕ) (a : Answer) → Puts g c m k made m' a → length m' ≡ length m
puts_long g c m k (Err e) m' a h = ap length h.0
puts_long g c m k (Ok r) m' a h = put_long g c m k (Some r) m' h.0 h.1

changed_sized : (g : Geometry) (c : AnyCipher) (m : List ℕ) (to : AnyCipher) (b : List ℕ) (c' : AnyCipher) (m' b' : List ℕ) (q : Result (Unit {0}) refusal.Refusal) → calls.Changed any.ghosts sheet.ghosts g c m to b c' m' b' q → length m' ≡ length m
changed_sized g c m to b c' m' b' (Ok _) h = h.2 ∙ sym h.1
changed_sized g c m to b c' m' b' (Err why.Memory) h = ap length h.1
changed_sized g c m to b c' m' b' (Err why.Slot) h = absurd h
changed_sized g c m to b c' m' b' (Err why.Buffer) h = ap length h.1
changed_sized g c m to b c' m' b' (Err (why.Page e)) h = ap length h.1

serves_sized : (g : Geometry) (c : AnyCipher) (m w : List ℕ) (x : Command) (c' : AnyCipher) (m' w' : List ℕ) (a : Answer) → Serves g c m w x c' m' w' a → length m' ≡ length m
serves_sized g c m w (Form name n p) c' m' w' a h = absurd h
serves_sized g c m w (Put slot fields) c' m' w' a h = puts_long g c m slot (making fields) m' a h.2
serves_sized g c m w (Get slot) c' m' w' a h = ap length h.1
serves_sized g c m w (Clear slot) c' m' w' a h = put_long g c m slot None m' h.2.0 h.2.1
serves_sized g c m w (Page slot) c' m' w' a h = ap length h.1
serves_sized g c m w (Change key) c' m' w' a h = changed_sized g c m h.0 w c' m' w' h.2.0 h.2.1

-- a refused line tells nothing new
refused_held : (x : Command) (ns : List ℕ) (k : ℕ) (o : Option Sheet) → held_by (Some x) (no ns) k o ≡ o
refused_held (Form name n p) ns k o = refl
refused_held (Put slot fields) ns k o = refl
refused_held (Get slot) ns k o = refl
refused_held (Clear slot) ns k o = refl
refused_held (Page slot) ns k o = refl
refused_held (Change key) ns k o = refl

refused_formed : (x : Command) (ns : List ℕ) (o : Option Formation) → formed_by (Some x) (no ns) o ≡ o
refused_formed (Form name n p) ns o = refl
refused_formed (Put slot fields) ns o = refl
refused_formed (Get slot) ns o = refl
refused_formed (Clear slot) ns o = refl
refused_formed (Page slot) ns o = refl
refused_formed (Change key) ns o = refl

-- a line that makes no call
still : (g : Geometry) (c c' : AnyCipher) (es : List Event) (e : Event) (m m' : List ℕ) → c' ≡ c → m' ≡ m → formation (e ∷ es) ≡ formation es → ((k : ℕ) → held (e ∷ es) k ≡ held es k) → Run g c es m → Run g c' (e ∷ es) m'
still g c c' es e m m' c-is m-is s h r =
    record {
      made = r.made;
      ran = rw (c-is, m-is) r.ran;
      name = r.name;
      key = r.key;
      under = rw c-is r.under;
      formed = s ∙ r.formed;
      same = λ k. h k ∙ r.same k;
    }

-- a line that makes a call and leaves the key
more : (g : Geometry) (c c' : AnyCipher) (es : List Event) (e : Event) (x : runs.Call AnyCipher Sheet) → runs.Does any.ghosts sheet.ghosts g c x c' → c' ≡ c → formation (e ∷ es) ≡ formation es
    → ((k : ℕ) (o : Option Sheet) → held es k ≡ o → held (e ∷ es) k ≡ runs.after x k o) → Run g c es (runs.handed x) → Run g c' (e ∷ es) (runs.left x)
more g c c' es e x does c-is s h r =
    record {
      made = x ∷ r.made;
      ran = runs.goes_on r.ran x refl does refl;
      name = r.name;
      key = r.key;
      under = rw c-is r.under;
      formed = s ∙ r.formed;
      same = λ k. h k (runs.content r.made k) (r.same k);
    }

put-held : (slot : ℕ) (fields : SheetFields) (r : Sheet) → making fields ≡ Ok r → (m m' : List ℕ) (q : Result (Unit {0}) refusal.Refusal) (k : ℕ) (o p : Option Sheet) → o ≡ p
    → held_by (Some (Put slot fields)) (done q) k o ≡ runs.after {C = AnyCipher} (runs.put m m' slot r q) k p
put-held slot fields r is m m' (Ok _) k o p e = rw (e, is) refl
put-held slot fields r is m m' (Err f) k o p e = e

clear_held : (slot : ℕ) (m m' : List ℕ) (q : Result (Unit {0}) refusal.Refusal) (k : ℕ) (o p : Option Sheet) → o ≡ p
    → held_by (Some (Clear slot)) (done q) k o ≡ runs.after {C = AnyCipher} (runs.clear m m' slot q) k p
clear_held slot m m' (Ok _) k o p e = rw e refl
clear_held slot m m' (Err f) k o p e = e

put_carries : (g : Geometry) (c c' : AnyCipher) (es : List Event) (e : Event) (m m' : List ℕ) (slot : ℕ) (fields : SheetFields) (made : Result Sheet FieldFault) → e.asked ≡ Some (Put slot fields) → making fields ≡ made
    → c' ≡ c → Puts g c m slot made m' e.answer → Run g c es m → Run g c' (e ∷ es) m'
put_carries g c c' es e m m' slot fields (Err f) asked is c-is h r =
    still g c c' es e m m' c-is h.0 (rw asked refl) (λ k. rw (asked, h.1) refl) r
put_carries g c c' es e m m' slot fields (Ok s) asked is c-is h r =
    more g c c' es e (runs.put m m' slot s h.0) (c-is, h.1) c-is (rw asked refl)
    (λ k o same. rw (asked, h.2) (put-held slot fields s is m m' h.0 k (held es k) o same)) r

-- a change: accepted, the store holds the new key
change_carries : (g : Geometry) (c c' to : AnyCipher) (es : List Event) (e : Event) (m m' w w' : List ℕ) (key : ℕ) (q : Result (Unit {0}) refusal.Refusal) → e.asked ≡ Some (Change key) → Under (name_of c) key to
    → calls.Changed any.ghosts sheet.ghosts g c m to w c' m' w' q → e.answer ≡ done q → Run g c es m → Run g c' (e ∷ es) m'
change_carries g c c' to es e m m' w w' key (Ok _) asked under does is r =
    let c-is : c' ≡ to = does.0 in
    record {
      made = runs.change m m' to w w' (Ok tt) ∷ r.made;
      ran = runs.goes_on r.ran (runs.change m m' to w w' (Ok tt)) refl does refl;
      name = r.name;
      key = key;
      under = rw c-is (subst (λ n. Under n key to) r.under.named under);
      formed = rw (asked, is) (ap (rekeyed key) r.formed);
      same = λ k. rw asked (r.same k);
    }
change_carries g c c' to es e m m' w w' key (Err f) asked under does is r =
    more g c c' es e (runs.change m m' to w w' (Err f)) does (kept-cipher f does) (rw (asked, is) refl) (λ k o same. rw asked same) r
  where
    kept-cipher : (f : refusal.Refusal) → calls.Changed any.ghosts sheet.ghosts g c m to w c' m' w' (Err f) → c' ≡ c
    kept-cipher why.Memory h = h.0
    kept-cipher why.Slot h = absurd h
    kept-cipher why.Buffer h = h.0
    kept-cipher (why.Page e) h = h.0

serves_carries : (g : Geometry) (c c' : AnyCipher) (es : List Event) (e : Event) (m w m' w' : List ℕ) (x : Command) → e.asked ≡ Some x → Serves g c m w x c' m' w' e.answer → Run g c es m → Run g c' (e ∷ es) m'
serves_carries g c c' es e m w m' w' (Form name n p) asked h r = absurd h
serves_carries g c c' es e m w m' w' (Put slot fields) asked h r = put_carries g c c' es e m m' slot fields (making fields) asked refl h.0 h.2 r
serves_carries g c c' es e m w m' w' (Get slot) asked h r =
    rw h.1 (more g c c' es e (runs.get m slot w w' h.2.0) (h.0, h.2.1) h.0 (rw asked refl) (λ k o same. rw asked same) r)
serves_carries g c c' es e m w m' w' (Clear slot) asked h r =
    more g c c' es e (runs.clear m m' slot h.2.0) (h.0, h.2.1) h.0 (rw asked refl)
    (λ k o same. rw (asked, h.2.2) (clear_held slot m m' h.2.0 k (held es k) o same)) r
serves_carries g c c' es e m w m' w' (Page slot) asked h r = still g c c' es e m m' h.0 h.1 (rw asked refl) (λ k. rw asked refl) r
serves_carries g c c' es e m w m' w' (Change key) asked h r = change_carries g c c' h.0 es e m m' w w' key h.2.0 asked h.1 h.2.1 h.2.2 r

-- a line that changes nothing
idle : (es : List Event) (e : Event) (s s' : State) → s' ≡ s → formation (e ∷ es) ≡ formation es → ((k : ℕ) → held (e ∷ es) k ≡ held es k) → Whole es s → Whole (e ∷ es) s'
idle es e s s' is t h r = rw is (record { memory = r.memory; working = r.working; stands = stays s.formed r.stands })
  where
    stays : (o : Option Formed) → Stands es o s.memory → Stands (e ∷ es) o s.memory
    stays None z = t ∙ z
    stays (Some f) z = still f.geometry f.cipher f.cipher es e _ _ refl refl t h z

same_state : (s s' : State) → s'.formed ≡ s.formed → s'.memory ≡ s.memory → s'.working ≡ s.working → s' ≡ s
same_state s s' f m w =
    ap (λ (x : Option Formed). record { formed = x; memory = s'.memory; working = s'.working }) f
    ∙ ap (λ (x : List ℕ). record { formed = s.formed; memory = x; working = s'.working }) m
    ∙ ap (λ (x : List ℕ). record { formed = s.formed; memory = s.memory; working = x }) w

-- form: refused, it changes nothing; accepted, it begins a new list of calls
begins : (es : List Event) (e : Event) (g : Geometry) (c : AnyCipher) (name : CipherName) (m m' : List ℕ) → e.asked ≡ Some (Form name g.slots g.page) → e.answer ≡ ok → Under name 0 c
    → calls.Formed any.ghosts sheet.ghosts g c m m' (Ok tt) → Run g c (e ∷ es) m'
begins es e g c name m m' asked is under does =
    record {
      made = runs.form m m' (Ok tt) ∷ [];
      ran = runs.begins does;
      name = name;
      key = 0;
      under = under;
      formed = rw (asked, is) refl;
      same = λ k. rw (asked, is) refl;
    }

forms_carries : (es : List Event) (e : Event) (s s' : State) (name : CipherName) (g : Geometry) (c : AnyCipher) (q : Result (Unit {0}) refusal.Refusal) → e.asked ≡ Some (Form name g.slots g.page) → Under name 0 c
    → calls.Formed any.ghosts sheet.ghosts g c (used g s.memory) (used g s'.memory) q → s'.formed ≡ after q (record { geometry = g; cipher = c }) s.formed → e.answer ≡ done q
    → spare g s'.memory ≡ spare g s.memory → s'.working ≡ s.working → Whole es s → Whole (e ∷ es) s'
forms_carries es e s s' name g c (Ok _) asked under does formed is rest work r =
    record {
      memory = same_long (g.slots * g.page) s.memory s'.memory (does.1 ∙ sym does.0) rest ∙ r.memory;
      working = ap length work ∙ r.working;
      stands = rw formed (begins es e g c name (used g s.memory) (used g s'.memory) asked is under does);
    }
forms_carries es e s s' name g c (Err f) asked under does formed is rest work r =
    let memory : s'.memory ≡ s.memory =
    sym (take-append-drop (g.slots * g.page) s'.memory) ∙ ap (λ x. x ++ spare g s'.memory) does.0
    ∙ ap (λ x. used g s.memory ++ x) rest
    ∙ take-append-drop (g.slots * g.page) s.memory in
    idle es e s s' (same_state s s' formed memory work) (rw (asked, is) refl) (λ k. rw (asked, is) refl) r

pub accepts : {T : Type 0} (x y : T) (ns : List ℕ) (b : Bool) → block.accepted x ≡ cond b (block.accepted y) (block.refused ns) → x ≡ y
accepts x y ns true e = cc
accepts x y ns false e = let z : ◌≡◌ {A = ℕ} 0 1 = cc in absurd (omega arith)

pub shape : (g : Geometry) (n p : ℕ) → answered_as (λ g. (g.slots, g.page)) shapes.numbers (Ok g) ≡ shapes.answer n p → (g.slots ≡ n) × (g.page ≡ p)
shape g n p e =
    let mine : ℕ × ℕ = (g.slots, g.page) in
    let asked : ℕ × ℕ = (n, p) in
    let same = accepts mine asked (2 ∷ []) (shapes.admitted n p) e in
    (ap (λ (x : ℕ × ℕ). x.0) same, ap (λ (x : ℕ × ℕ). x.1) same)

form_carries : (es : List Event) (e : Event) (s s' : State) (name : CipherName) (n p : ℕ) (made : Result Geometry GeometryFault) → e.asked ≡ Some (Form name n p) → answered_as (λ g. (g.slots, g.page)) shapes.numbers made ≡ shapes.answer n p
    → Forms s name made s' e.answer → Whole es s → Whole (e ∷ es) s'
form_carries es e s s' name n p (Err f) asked is h r = idle es e s s' h.0 (rw (asked, h.1) refl) (λ k. rw (asked, h.1) refl) r
form_carries es e s s' name n p (Ok g) asked is h r =
    let here = shape g n p is in
    let asks : e.asked ≡ Some (Form name g.slots g.page) = asked ∙ ap (λ i. Some (Form name i p)) (sym here.0) ∙ ap (λ i. Some (Form name g.slots i)) (sym here.1) in
    forms_carries es e s s' name g h.0 h.2.0 asks h.1 h.2.1 h.2.2 h.2.3 h.3 h.4 r

on_carries : (es : List Event) (e : Event) (s s' : State) (o : Option Formed) (x : Command) → e.asked ≡ Some x → Whole es s → Stands es o s.memory → On s o x s' e.answer → Whole (e ∷ es) s'
on_carries es e s s' None x asked whole r h =
    idle es e s s' h.0 (rw (asked, h.1) (refused_formed x (9 ∷ []) (formation es))) (λ k. rw (asked, h.1) (refused_held x (9 ∷ []) k (held es k))) whole
on_carries es e s s' (Some f) x asked whole r h =
    let g = f.geometry in
    record {
      memory = same_long (g.slots * g.page) s.memory s'.memory (serves_sized g f.cipher (used g s.memory) s.working x h.0 (used g s'.memory) s'.working e.answer h.2) h.3 ∙ whole.memory;
      working = serves_long g f.cipher (used g s.memory) s.working x h.0 (used g s'.memory) s'.working e.answer h.2 ∙ whole.working;
      stands = rw h.1 (serves_carries g f.cipher h.0 es e (used g s.memory) s.working (used g s'.memory) s'.working x asked h.2 r);
    }

acts_carries : (es : List Event) (e : Event) (s s' : State) (o : Option Command) → e.asked ≡ o → Acts s o s' e.answer → Whole es s → Whole (e ∷ es) s'
acts_carries es e s s' None asked h r = idle es e s s' h.0 (rw asked refl) (λ k. rw asked refl) r
acts_carries es e s s' (Some (Form name n p)) asked h r = form_carries es e s s' name n p h.0 asked h.1 h.2 r
acts_carries es e s s' (Some (Put slot fields)) asked h r = on_carries es e s s' s.formed (Put slot fields) asked r r.stands h
acts_carries es e s s' (Some (Get slot)) asked h r = on_carries es e s s' s.formed (Get slot) asked r r.stands h
acts_carries es e s s' (Some (Clear slot)) asked h r = on_carries es e s s' s.formed (Clear slot) asked r r.stands h
acts_carries es e s s' (Some (Page slot)) asked h r = on_carries es e s s' s.formed (Page slot) asked r r.stands h
acts_carries es e s s' (Some (Change key)) asked h r = on_carries es e s s' s.formed (Change key) asked r r.stands h

pub stands : (es : List Event) (s : State) → Ran es s → Whole es s
unfolding start
stands es s starts = record { memory = length-replicate {A = ℕ} 32768 0; working = length-replicate {A = ℕ} 4096 0; stands = refl }
stands es s (goes_on {es = es₀} {s = s₀} r e asks acts) = acts_carries es₀ e s₀ s e.asked refl acts (stands es₀ s₀ r)
