-- Lists of calls, latest first; what they leave in each slot; and the law over them.
use Rattle.std.specs.Prelude.{◌≡◌, ℕ, ◌<◌, ◌≤◌, cond, List, [], ◌∷◌, length, Some, None, Ok, Err, Option, Result, ◌==◌, slice_index}
use Rattle.block.specs.Blocks.{IsBlock}
use Rattle.cipher.specs.declared.tweakable.TweakableCipher as cipher
use Rattle.record.specs.declared.kind.Record as kind
use Rattle.calls.specs.declared.geometry.Geometry.{Geometry}
use Rattle.calls.specs.declared.refusal.Refusal.{Refusal}
use Rattle.calls.specs.Memory.{page, Sized}
use Rattle.calls.specs.Calls.{sealed, Formed, Put, Got, Changed}
use Rattle.calls.specs.Refused.{refused_by, Numbered}

-- a call: the memory handed and left, the working buffer before and after, the arguments, the answer
pub data Call (C R : Type 0) : Type 0 where
  form : (m m' : List ℕ) → Result (Unit {0}) Refusal → Call C R
  put : (m m' : List ℕ) (slot : ℕ) → R → Result (Unit {0}) Refusal → Call C R
  get : (m : List ℕ) (slot : ℕ) (b b' : List ℕ) → Result (Option R) Refusal → Call C R
  clear : (m m' : List ℕ) (slot : ℕ) → Result (Unit {0}) Refusal → Call C R
  change : (m m' : List ℕ) → C → (b b' : List ℕ) → Result (Unit {0}) Refusal → Call C R

abbrev pub handed : {C R : Type 0} → Call C R → List ℕ
handed (form m m' a) = m
handed (put m m' slot r a) = m
handed (get m slot b b' a) = m
handed (clear m m' slot a) = m
handed (change m m' to b b' a) = m

abbrev pub left : {C R : Type 0} → Call C R → List ℕ
left (form m m' a) = m'
left (put m m' slot r a) = m'
left (get m slot b b' a) = m
left (clear m m' slot a) = m'
left (change m m' to b b' a) = m'

-- what the call's contract says, where the store holds the cipher c before and c' after it
abbrev pub Does : {C R : Type 0} → cipher.Ghosts C → kind.Ghosts R → Geometry → C → Call C R → C → Type 0
Does 𝒸 𝓇 g c (form m m' a) c' = (c' ≡ c) × Formed 𝒸 𝓇 g c m m' a
Does 𝒸 𝓇 g c (put m m' slot r a) c' = (c' ≡ c) × Put 𝒸 𝓇 g c m slot (Some r) m' a
Does 𝒸 𝓇 g c (get m slot b b' a) c' = (c' ≡ c) × Got 𝒸 𝓇 g c m slot b b' a
Does 𝒸 𝓇 g c (clear m m' slot a) c' = (c' ≡ c) × Put 𝒸 𝓇 g c m slot None m' a
Does 𝒸 𝓇 g c (change m m' to b b' a) c' = Changed 𝒸 𝓇 g c m to b c' m' b' a

-- the calls were made, from an accepted form of a memory on, and the store now holds c and the memory is m. A call is
-- handed that memory, or, refused for it, another that is not of the geometry's length.
pub data Ran {C R : Type 0} (𝒸 : cipher.Ghosts C) (𝓇 : kind.Ghosts R) (g : Geometry) : List (Call C R) → C → List ℕ → Type 0 where
  begins : {c : C} {m m' : List ℕ} → Formed 𝒸 𝓇 g c m m' (Ok tt) → Ran 𝒸 𝓇 g (form m m' (Ok tt) ∷ []) c m'
  goes_on : {calls : List (Call C R)} {c c' : C} {m m' : List ℕ} → Ran 𝒸 𝓇 g calls c m → (x : Call C R) → handed x ≡ m → Does 𝒸 𝓇 g c x c' → left x ≡ m' → Ran 𝒸 𝓇 g (x ∷ calls) c' m'
  elsewhere : {calls : List (Call C R)} {c c' : C} {m : List ℕ} → Ran 𝒸 𝓇 g calls c m → (x : Call C R) → (Sized g (handed x) → ⊥) → Does 𝒸 𝓇 g c x c' → Ran 𝒸 𝓇 g (x ∷ calls) c' m

-- what a call makes of the content o of slot k
abbrev pub after : {C R : Type 0} → Call C R → ℕ → Option R → Option R
after (form m m' (Ok _)) k o = None
after (form m m' (Err e)) k o = o
after (put m m' slot r (Ok _)) k o = cond (k == slot) (Some r) o
after (put m m' slot r (Err e)) k o = o
after (get m slot b b' a) k o = o
after (clear m m' slot (Ok _)) k o = cond (k == slot) None o
after (clear m m' slot (Err e)) k o = o
after (change m m' to b b' a) k o = o

-- a slot's content: the record of the last accepted put to it, unless an accepted form, or an accepted clear of it, came
-- after; else nothing
abbrev pub content : {C R : Type 0} → List (Call C R) → ℕ → Option R
content [] k = None
content (x ∷ calls) k = after x k (content calls k)

-- the numbers that a call was refused with, or none
abbrev pub refusal : {C R : Type 0} → Call C R → List ℕ
refusal (form m m' a) = refused_by a
refusal (put m m' slot r a) = refused_by a
refusal (get m slot b b' a) = refused_by a
refusal (clear m m' slot a) = refused_by a
refusal (change m m' to b b' a) = refused_by a

-- no call was refused 6 or 7
abbrev pub Sound : {C R : Type 0} → List (Call C R) → Type 0
Sound [] = Unit {0}
Sound (x ∷ calls) = (slice_index (refusal x) 0 < 6) × Sound calls

-- each page is the enciphering, under the cipher held, of the plain page for its slot's content; get answers that
-- content; and no call of the list found a page at fault
pub record Held {C R : Type 0} (𝒸 : cipher.Ghosts C) (𝓇 : kind.Ghosts R) (g : Geometry) (calls : List (Call C R)) (c : C) (m : List ℕ) : Type 0 where
  pub sized : Sized g m
  pub pages : (k : ℕ) → k < g.slots → page g.page k m ≡ sealed 𝒸 𝓇 g c k (content calls k)
  pub got : (k : ℕ) (b b' : List ℕ) (a : Result (Option R) Refusal) → k < g.slots → g.page ≤ length b → Got 𝒸 𝓇 g c m k b b' a → a ≡ Ok (content calls k)
  pub sound : Sound calls

abbrev pub Holds : {C R : Type 0} → cipher.Ghosts C → kind.Ghosts R → Type 0
Holds {C} {R} 𝒸 𝓇 = (g : Geometry) (calls : List (Call C R)) (c : C) (m : List ℕ) → Ran 𝒸 𝓇 g calls c m → Held 𝒸 𝓇 g calls c m

-- two ciphers are the same where their two functions agree on all heads, bodies and blocks
pub record Same {C : Type 0} (𝒸 : cipher.Ghosts C) (c₁ c₂ : C) : Type 0 where
  pub encrypted : (h b x : ℕ) → IsBlock h → IsBlock b → IsBlock x → 𝒸.encrypted c₁ h b x ≡ 𝒸.encrypted c₂ h b x
  pub decrypted : (h b x : ℕ) → IsBlock h → IsBlock b → IsBlock x → 𝒸.decrypted c₁ h b x ≡ 𝒸.decrypted c₂ h b x

-- one memory for one set of contents, and back
abbrev pub Determined : {C R : Type 0} → cipher.Ghosts C → kind.Ghosts R → Type 0
Determined {C} {R} 𝒸 𝓇 =
    (g : Geometry) (calls₁ calls₂ : List (Call C R)) (c₁ c₂ : C) (m₁ m₂ : List ℕ) →
    Ran 𝒸 𝓇 g calls₁ c₁ m₁ → Ran 𝒸 𝓇 g calls₂ c₂ m₂ → Same 𝒸 c₁ c₂ →
    (m₁ ≡ m₂ → (k : ℕ) → k < g.slots → content calls₁ k ≡ content calls₂ k)
    × (((k : ℕ) → k < g.slots → content calls₁ k ≡ content calls₂ k) → m₁ ≡ m₂)

pub record Law {C R : Type 0} (𝒸 : cipher.Ghosts C) (𝓇 : kind.Ghosts R) : Type 0 where
  pub numbered : (g : Geometry) (c : C) (m : List ℕ) → Numbered 𝒸 𝓇 g c m
  pub holds : Holds 𝒸 𝓇
  pub determined : Determined 𝒸 𝓇
