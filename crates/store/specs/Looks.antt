-- What the passes over all pages do.
use Rattle.std.specs.Prelude.{◌≡◌, ℕ, ◌<◌, List, None, Ok, Err, Option, Result}
use Rattle.cipher.specs.declared.tweakable.TweakableCipher as cipher
use Rattle.record.specs.declared.kind.Record as kind
use Rattle.mode.specs.Permutes.{enciphered, deciphered}
use Rattle.page.specs.declared.fault.SlotFault.{SlotFault}
use Rattle.calls.specs.declared.geometry.Geometry.{Geometry}
use Rattle.calls.specs.Memory.{page, Sized}
use Rattle.calls.specs.Calls.{sealed, said, Says}

-- every page is that of an empty slot
abbrev pub Written : {C R : Type 0} → cipher.Ghosts C → kind.Ghosts R → Geometry → C → List ℕ → Type 0
Written 𝒸 𝓇 g c m' = Sized g m' × ((k : ℕ) → k < g.slots → page g.page k m' ≡ sealed 𝒸 𝓇 g c k None)

-- every page says something, or here is the lowest that does not
abbrev pub Looked : {C R : Type 0} → cipher.Ghosts C → kind.Ghosts R → Geometry → C → List ℕ → Result (Unit {0}) SlotFault → Type 0
Looked 𝒸 𝓇 g c m (Ok _) = (k : ℕ) → k < g.slots → Says 𝒸 𝓇 g c m k
Looked 𝒸 𝓇 g c m (Err e) = (e.slot < g.slots) × (said 𝒸 𝓇 g c m e.slot ≡ Err e) × ((k : ℕ) → k < e.slot → Says 𝒸 𝓇 g c m k)

-- every page is deciphered under one cipher and enciphered under another
abbrev pub Moved : {C : Type 0} → cipher.Ghosts C → Geometry → C → C → List ℕ → List ℕ → Type 0
Moved 𝒸 g c to m m' =
    Sized g m'
    × ((k : ℕ) → k < g.slots → page g.page k m' ≡ enciphered (𝒸.encrypted to) (deciphered (𝒸.encrypted c) (𝒸.decrypted c) (page g.page k m)))

-- every page is written again for what it says, or nothing is written and here is the lowest page at fault
abbrev pub Rewritten : {C R : Type 0} → cipher.Ghosts C → kind.Ghosts R → Geometry → C → C → List ℕ → List ℕ → Result (Unit {0}) SlotFault → Type 0
Rewritten {C} {R} 𝒸 𝓇 g c to m m' (Ok _) =
    Sized g m' × ((k : ℕ) → k < g.slots → (o : Option R) × (said 𝒸 𝓇 g c m k ≡ Ok o) × (page g.page k m' ≡ sealed 𝒸 𝓇 g to k o))
Rewritten 𝒸 𝓇 g c to m m' (Err e) = (m' ≡ m) × Looked 𝒸 𝓇 g c m (Err e)
