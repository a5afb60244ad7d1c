-- What each call of the store promises, by its answer. The memory is m before and m' after, the working buffer b and
-- b', and the store holds the cipher c.
use Rattle.std.specs.Prelude.{◌≡◌, ℕ, ◌<◌, ◌≤◌, List, [], ◌∷◌, length, None, Ok, Err, Option, Result, ◌≢◌}
use Rattle.cipher.specs.declared.tweakable.TweakableCipher as cipher
use Rattle.record.specs.declared.kind.Record as kind
use Rattle.mode.specs.Permutes.{enciphered, deciphered}
use Rattle.page.specs.declared.fault.SlotFault.{SlotFault}
use Rattle.page.specs.Pages as pages
use Rattle.calls.specs.declared.geometry.Geometry.{Geometry}
use Rattle.calls.specs.declared.refusal.Refusal.{Refusal}
use Rattle.calls.specs.declared.refusal.Refusal.TheVariants.{Memory, Slot, Buffer, Page}
use Rattle.calls.specs.Memory.{page, Sized, Only, wiped}

-- each refusal's number and values
abbrev pub numbers : Refusal → List ℕ
numbers Memory = 3 ∷ []
numbers Slot = 4 ∷ []
numbers Buffer = 5 ∷ []
numbers (Page e) = pages.numbers e

-- the sealed page of slot k for what it holds
abbrev pub sealed : {C R : Type 0} → cipher.Ghosts C → kind.Ghosts R → Geometry → C → ℕ → Option R → List ℕ
sealed 𝒸 𝓇 g c k o = enciphered (𝒸.encrypted c) (pages.plain 𝓇 g.page k o)

-- what page k of a memory says under a cipher
abbrev pub said : {C R : Type 0} → cipher.Ghosts C → kind.Ghosts R → Geometry → C → List ℕ → ℕ → Result (Option R) SlotFault
said 𝒸 𝓇 g c m k = pages.opened_at 𝓇 k (deciphered (𝒸.encrypted c) (𝒸.decrypted c) (page g.page k m))

-- why a call on one slot, and a call on the whole memory, is refused before it looks at a page
abbrev pub Why : Geometry → List ℕ → ℕ → Refusal → Type 0
Why g m slot Memory = Sized g m → ⊥
Why g m slot Slot = Sized g m × (g.slots ≤ slot)
Why g m slot Buffer = ⊥
Why g m slot (Page e) = ⊥

abbrev pub WhyAll : Geometry → List ℕ → Refusal → Type 0
WhyAll g m Memory = Sized g m → ⊥
WhyAll g m Slot = ⊥
WhyAll g m Buffer = ⊥
WhyAll g m (Page e) = ⊥

-- form: every page is that of an empty slot
abbrev pub Formed : {C R : Type 0} → cipher.Ghosts C → kind.Ghosts R → Geometry → C → List ℕ → List ℕ → Result (Unit {0}) Refusal → Type 0
Formed 𝒸 𝓇 g c m m' (Ok _) = Sized g m × Sized g m' × ((k : ℕ) → k < g.slots → page g.page k m' ≡ sealed 𝒸 𝓇 g c k None)
Formed 𝒸 𝓇 g c m m' (Err e) = (m' ≡ m) × WhyAll g m e

-- put, of `Some` record, and clear, of `None`: one page is written, and no other changes
abbrev pub Put : {C R : Type 0} → cipher.Ghosts C → kind.Ghosts R → Geometry → C → List ℕ → ℕ → Option R → List ℕ → Result (Unit {0}) Refusal → Type 0
Put 𝒸 𝓇 g c m slot o m' (Ok _) = Sized g m × (slot < g.slots) × Only g.page slot m m' (sealed 𝒸 𝓇 g c slot o)
Put 𝒸 𝓇 g c m slot o m' (Err e) = (m' ≡ m) × Why g m slot e

-- what clear leaves does not depend on what the slot held: cleared of it, memories that differ in that slot alone are
-- the same
abbrev pub Forgot : {C R : Type 0} → cipher.Ghosts C → kind.Ghosts R → Geometry → C → List ℕ → ℕ → List ℕ → Result (Unit {0}) Refusal → Type 0
Forgot 𝒸 𝓇 g c m slot m' (Ok _) = (x x' : List ℕ) → ((k : ℕ) → (k ≢ slot) → page g.page k x ≡ page g.page k m) → Put 𝒸 𝓇 g c x slot None x' (Ok tt) → x' ≡ m'
Forgot 𝒸 𝓇 g c m slot m' (Err e) = Unit {0}

-- get: what the page says; the memory is only read
abbrev pub Got : {C R : Type 0} → cipher.Ghosts C → kind.Ghosts R → Geometry → C → List ℕ → ℕ → List ℕ → List ℕ → Result (Option R) Refusal → Type 0
Got 𝒸 𝓇 g c m slot b b' (Ok o) = Sized g m × (slot < g.slots) × (g.page ≤ length b) × (said 𝒸 𝓇 g c m slot ≡ Ok o) × (b' ≡ wiped g.page b)
Got 𝒸 𝓇 g c m slot b b' (Err Memory) = (Sized g m → ⊥) × (b' ≡ b)
Got 𝒸 𝓇 g c m slot b b' (Err Slot) = Sized g m × (g.slots ≤ slot) × (b' ≡ b)
Got 𝒸 𝓇 g c m slot b b' (Err Buffer) = Sized g m × (slot < g.slots) × (length b < g.page) × (b' ≡ b)
Got 𝒸 𝓇 g c m slot b b' (Err (Page e)) = Sized g m × (slot < g.slots) × (g.page ≤ length b) × (said 𝒸 𝓇 g c m slot ≡ Err e) × (b' ≡ wiped g.page b)

-- the stored bytes of one page, as they are
abbrev pub Stored : Geometry → List ℕ → ℕ → List ℕ → Type 0
Stored g m slot bytes = Sized g m × (slot < g.slots) × (bytes ≡ page g.page slot m)

-- page k says something
abbrev pub Says : {C R : Type 0} → cipher.Ghosts C → kind.Ghosts R → Geometry → C → List ℕ → ℕ → Type 0
Says {C} {R} 𝒸 𝓇 g c m k = (o : Option R) × (said 𝒸 𝓇 g c m k ≡ Ok o)

-- change: every page is rewritten under the cipher `to`, which the store then holds; a fault is that of the lowest
-- faulty page
abbrev pub Changed : {C R : Type 0} → cipher.Ghosts C → kind.Ghosts R → Geometry → C → List ℕ → C → List ℕ → C → List ℕ → List ℕ → Result (Unit {0}) Refusal → Type 0
Changed {C} {R} 𝒸 𝓇 g c m to b c' m' b' (Ok _) =
    (c' ≡ to) × Sized g m × Sized g m' × (g.page ≤ length b)
    × ((k : ℕ) → k < g.slots → (o : Option R) × (said 𝒸 𝓇 g c m k ≡ Ok o) × (page g.page k m' ≡ sealed 𝒸 𝓇 g to k o))
    × (b' ≡ wiped g.page b)
Changed 𝒸 𝓇 g c m to b c' m' b' (Err Memory) = (c' ≡ c) × (m' ≡ m) × (b' ≡ b) × (Sized g m → ⊥)
Changed 𝒸 𝓇 g c m to b c' m' b' (Err Slot) = ⊥
Changed 𝒸 𝓇 g c m to b c' m' b' (Err Buffer) = (c' ≡ c) × (m' ≡ m) × (b' ≡ b) × Sized g m × (length b < g.page)
Changed 𝒸 𝓇 g c m to b c' m' b' (Err (Page e)) =
    (c' ≡ c) × (m' ≡ m) × (b' ≡ wiped g.page b) × Sized g m × (g.page ≤ length b)
    × (e.slot < g.slots) × (said 𝒸 𝓇 g c m e.slot ≡ Err e) × ((k : ℕ) → k < e.slot → Says 𝒸 𝓇 g c m k)
