-- A store has the front of the memory: what a call on that part does with the whole.
use Rattle.std.proofs.Common.{◌≡◌, ℕ, ◌-◌, ◌*◌, ◌<◌, ◌≤◌, min, List, [], ◌++◌, length, take, drop, Some, Ok, Err, Option, Result, sym, refl, ap, ◌∙◌, subst, ⊎_elim, append-nil, arith}
use Rattle.std.proofs.lemmas.List.{take_all, take_at, drop_all, drop_at, length-take-le}
use Rattle.std.proofs.lemmas.Bool.{cases_lt}
use Rattle.std.specs.Option.{option_map}
use Rattle.block.specs.Answers.{answered_as}
use Rattle.record.specs.contracts.sheet.making.SheetRecord.TheImpl as sheet
use Rattle.ciphers.specs.declared.name.CipherName.{CipherName}
use Rattle.ciphers.specs.declared.any.AnyCipher.{AnyCipher}
use Rattle.ciphers.specs.contracts.any.AnyCipherTweakableCipher.TheImpl as any
use Rattle.ciphers.specs.Ciphers.{Under}
use Rattle.command.specs.declared.command.Command.{Command}
use Rattle.command.specs.declared.command.Command.TheVariants.{Form}
use Rattle.calls.specs.declared.geometry.Geometry.{Geometry}
use Rattle.calls.specs.declared.refusal.Refusal.{Refusal}
use Rattle.calls.specs.Shapes as shapes
use Rattle.calls.specs.Calls.{Formed}
use Rattle.store.specs.declared.store.Store.{Store}
use Rattle.session.specs.Answers.{Answer, done}
use Rattle.session.specs.States.{used}
use Rattle.session.specs.Commanded.{Serves, after, OnFormed, Does}
use Rattle.line.specs.Benches.{formed_of, state}

-- x stands for the first bytes of m, `size` of them or all
record Front (size end : ℕ) (m x : List ℕ) : Type 0 where
  pub before : take (end - 0) m ≡ take size m
  pub here : take size (x ++ drop (end - 0) m) ≡ x
  pub behind : drop size (x ++ drop (end - 0) m) ≡ drop size m

front : (size end : ℕ) (m x : List ℕ) → end ≡ min size (length m) → length x ≡ length (take (end - 0) m) → Front size end m x
front size end m x e l =
    ⊎_elim
    (λ (h : length m < size).
    let n : end - 0 ≡ length m = omega arith in
    let all : take (end - 0) m ≡ m = take_all (end - 0) m (omega arith) in
    let none : drop (end - 0) m ≡ [] = drop_all (end - 0) m (omega arith) in
    let x-long : length x ≡ length m = l ∙ ap length all in
    let joined : x ++ drop (end - 0) m ≡ x = ap (λ y. x ++ y) none ∙ append-nil x in
    record {
      before = all ∙ sym (take_all size m (omega arith));
      here = ap (take size) joined ∙ take_all size x (omega arith);
      behind = ap (drop size) joined ∙ drop_all size x (omega arith) ∙ sym (drop_all size m (omega arith));
    })
    (λ (h : size ≤ length m).
    let n : end - 0 ≡ size = omega arith in
    let x-long : length x ≡ size = l ∙ ap (λ k. length (take k m)) n ∙ length-take-le size m h in
    record {
      before = ap (λ k. take k m) n;
      here = take_at x (drop (end - 0) m) size x-long;
      behind = drop_at x (drop (end - 0) m) size x-long ∙ ap (λ k. drop k m) n;
    })
    (cases_lt (length m) size)

-- what is formed after a form
abbrev pub formed_after : Result (Unit {0}) Refusal → Store AnyCipher → Option (Store AnyCipher) → Option (Store AnyCipher)
formed_after (Ok _) s former = Some s
formed_after (Err e) s former = former

module _ (m x w : List ℕ) (end : ℕ) (s : Store AnyCipher) (end_is : end ≡ min (s.geometry.slots * s.geometry.page) (length m)) (long : length x ≡ length (take (end - 0) m)) where
  part : Front (s.geometry.slots * s.geometry.page) end m x
  part = front (s.geometry.slots * s.geometry.page) end m x end_is long

  pub formed : (former : Option (Store AnyCipher)) (g : Geometry) (c : AnyCipher) (name : CipherName) (n p : ℕ) (q : Result (Unit {0}) Refusal) → s.geometry ≡ g → s.cipher ≡ c → Under name 0 c → answered_as (λ g. (g.slots, g.page)) shapes.numbers (Ok g) ≡ shapes.answer n p
      → Formed any.ghosts sheet.ghosts s.geometry s.cipher (take (end - 0) m) x q → Does (state former m w) (Form name n p) (state (formed_after q s former) (x ++ drop (end - 0) m) w) (done q)
  formed former g c name n p q same c-is under made does =
      let f = part in
      let moved : Formed any.ghosts sheet.ghosts s.geometry s.cipher (used s.geometry m) (used s.geometry (x ++ drop (end - 0) m)) q =
      subst (λ y. Formed any.ghosts sheet.ghosts s.geometry s.cipher (used s.geometry m) y q) (sym f.here)
      (subst (λ y. Formed any.ghosts sheet.ghosts s.geometry s.cipher y x q) f.before does) in
      (Ok s.geometry, ap (λ h. answered_as (λ h. (h.slots, h.page)) shapes.numbers (Ok h)) same ∙ made, (s.cipher, subst (Under name 0) (sym c-is) under, (q, moved, held q, refl), f.behind, refl))
    where
      held : (q : Result (Unit {0}) Refusal) → option_map formed_of (formed_after q s former) ≡ after q (formed_of s) (option_map formed_of former)
      held (Ok _) = refl
      held (Err e) = refl

  pub served : (s' : Store AnyCipher) (cmd : Command) (w' : List ℕ) (a : Answer) → s'.geometry ≡ s.geometry → Serves s.geometry s.cipher (take (end - 0) m) w cmd s'.cipher x w' a
      → OnFormed (state (Some s) m w) s.geometry s.cipher cmd (state (Some s') (x ++ drop (end - 0) m) w') a
  served s' cmd w' a kept does =
      let f = part in (
        s'.cipher,
        ap (λ h. Some (record { geometry = h; cipher = s'.cipher })) kept,
        subst (λ y. Serves s.geometry s.cipher (used s.geometry m) w cmd s'.cipher y w' a) (sym f.here)
            (subst (λ y. Serves s.geometry s.cipher y w cmd s'.cipher x w' a) f.before does),
        f.behind,
      )
