-- The table of refusals: the numbers that each call is refused with, by the first check that fails, or none where it is
-- accepted.
use Rattle.std.specs.Prelude.{◌≡◌, ℕ, zero, suc, ◌*◌, cond, List, [], ◌∷◌, length, Ok, Err, Option, Result, ◌==◌, nat_le, nat_lt}
use Rattle.cipher.specs.declared.tweakable.TweakableCipher as cipher
use Rattle.record.specs.declared.kind.Record as kind
use Rattle.page.specs.declared.fault.SlotFault.{SlotFault}
use Rattle.page.specs.Pages as pages
use Rattle.calls.specs.declared.geometry.Geometry.{Geometry}
use Rattle.calls.specs.declared.refusal.Refusal.{Refusal}
use Rattle.calls.specs.Calls.{numbers, said, Formed, Put, Got, Changed}

-- the numbers of a refusal, or none
abbrev pub refused_by : {T : Type 0} → Result T Refusal → List ℕ
refused_by (Ok x) = []
refused_by (Err e) = numbers e

-- each check, and what comes after it
abbrev pub by_memory : Geometry → List ℕ → List ℕ → List ℕ
by_memory g m after = cond (length m == g.slots * g.page) after (3 ∷ [])

abbrev pub by_slot : Geometry → ℕ → List ℕ → List ℕ
by_slot g slot after = cond (nat_lt slot g.slots) after (4 ∷ [])

abbrev pub by_buffer : Geometry → List ℕ → List ℕ → List ℕ
by_buffer g b after = cond (nat_le g.page (length b)) after (5 ∷ [])

abbrev pub by_page : {T : Type 0} → Result T SlotFault → List ℕ
by_page (Ok x) = []
by_page (Err e) = pages.numbers e

-- the first of n checks that fails
abbrev pub or_else : List ℕ → List ℕ → List ℕ
or_else [] y = y
or_else (x ∷ xs) y = x ∷ xs

abbrev pub first_of : ℕ → (ℕ → List ℕ) → List ℕ
first_of zero f = []
first_of (suc n) f = or_else (first_of n f) (f n)

-- each call is refused with just these numbers
pub record Numbered {C R : Type 0} (𝒸 : cipher.Ghosts C) (𝓇 : kind.Ghosts R) (g : Geometry) (c : C) (m : List ℕ) : Type 0 where
  pub form : (m' : List ℕ) (a : Result (Unit {0}) Refusal) → Formed 𝒸 𝓇 g c m m' a → refused_by a ≡ by_memory g m []
  pub put : (slot : ℕ) (o : Option R) (m' : List ℕ) (a : Result (Unit {0}) Refusal) → Put 𝒸 𝓇 g c m slot o m' a → refused_by a ≡ by_memory g m (by_slot g slot [])
  pub get : (slot : ℕ) (b b' : List ℕ) (a : Result (Option R) Refusal) → Got 𝒸 𝓇 g c m slot b b' a → refused_by a ≡ by_memory g m (by_slot g slot (by_buffer g b (by_page (said 𝒸 𝓇 g c m slot))))
  pub change : (to c' : C) (b m' b' : List ℕ) (a : Result (Unit {0}) Refusal) → Changed 𝒸 𝓇 g c m to b c' m' b' a → refused_by a ≡ by_memory g m (by_buffer g b (first_of g.slots (λ k. by_page (said 𝒸 𝓇 g c m k))))
