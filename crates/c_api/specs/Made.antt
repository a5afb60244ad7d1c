-- What the calls do, by the store's own definitions: m is the memory before and m' after, w and w' the working buffer, and a
-- the answer.
use Rattle.std.specs.Prelude.{◌≡◌, ℕ, cond, ◌⊎◌, List, length, Some, None, Ok, Err, Option, Result}
use Rattle.record.specs.declared.kind.Record as kind
use Rattle.record.specs.declared.fault.FieldFault.{FieldFault}
use Rattle.ciphers.specs.declared.any.AnyCipher.{AnyCipher}
use Rattle.mode.specs.Permutes.{admitted, enciphered, deciphered}
use Rattle.ciphers.specs.Ciphers.{encrypts, decrypts}
use Rattle.ciphers.specs.contracts.any.AnyCipherTweakableCipher.TheImpl as any
use Rattle.calls.specs.declared.geometry.Geometry.{Geometry}
use Rattle.calls.specs.declared.refusal.Refusal as store
use Rattle.calls.specs.Calls as calls
use Rattle.c_api.specs.declared.answer.Answer.{Answer}
use Rattle.c_api.specs.declared.answer.Refusal.{Refusal}
use Rattle.c_api.specs.declared.answer.Refusal.TheVariants as why
use Rattle.c_api.specs.Answers.{yes, no, refused, done, told, found_or}
use Rattle.c_api.specs.Opens.{Keyed, Shaped, Unkeyed, Barred}

abbrev pub Forms : {R : Type 0} → kind.Ghosts R → Geometry → AnyCipher → List ℕ → List ℕ → Answer → Type 0
Forms 𝓇 g c m m' a = (q : Result (Unit {0}) store.Refusal) × calls.Formed any.ghosts 𝓇 g c m m' q × (a ≡ done q)

-- put, by what making the record answered
abbrev pub Puts : {R : Type 0} → kind.Ghosts R → Geometry → AnyCipher → List ℕ → ℕ → Result R FieldFault → List ℕ → Answer → Type 0
Puts 𝓇 g c m slot (Err e) m' a = (m' ≡ m) × (a ≡ refused (why.Record e))
Puts 𝓇 g c m slot (Ok r) m' a = (q : Result (Unit {0}) store.Refusal) × calls.Put any.ghosts 𝓇 g c m slot (Some r) m' q × (a ≡ done q)

abbrev pub Clears : {R : Type 0} → kind.Ghosts R → Geometry → AnyCipher → List ℕ → ℕ → List ℕ → Answer → Type 0
Clears 𝓇 g c m slot m' a = (q : Result (Unit {0}) store.Refusal) × calls.Put any.ghosts 𝓇 g c m slot None m' q × (a ≡ done q)

-- get: the fields of what was found go to f', in place of f
abbrev pub Gets : {R F : Type 0} → kind.Ghosts R → (R → F) → Geometry → AnyCipher → List ℕ → ℕ → List ℕ → F → List ℕ → F → Answer → Type 0
Gets {R} 𝓇 fields g c m slot w f w' f' a =
    (q : Result (Option R) store.Refusal) × calls.Got any.ghosts 𝓇 g c m slot w w' q × (f' ≡ found_or fields q f) × (a ≡ told q)

-- change, to the cipher `to`
abbrev pub Changes : {R : Type 0} → kind.Ghosts R → Geometry → AnyCipher → List ℕ → AnyCipher → List ℕ → List ℕ → List ℕ → Answer → Type 0
Changes 𝓇 g c m to w m' w' a =
    (c' : AnyCipher) × (q : Result (Unit {0}) store.Refusal) × calls.Changed any.ghosts 𝓇 g c m to w c' m' w' q × (a ≡ done q)

-- a call was refused before it came to a store, and all was left as it was; or it was made on a store of this cipher and
-- this geometry
abbrev pub Called : ℕ → List ℕ → ℕ → ℕ → Type 0 → (Geometry → AnyCipher → Answer → Type 0) → Answer → Type 0
Called selector key slots page Left Made a =
    ((e : Refusal) × Barred selector (length key ≡ 16) slots page e × Left × (a ≡ refused e))
    ⊎ ((g : Geometry) × (c : AnyCipher) × Keyed selector key c × Shaped slots page g × Made g c a)

-- the same with a second key
abbrev pub CalledTo : ℕ → List ℕ → List ℕ → ℕ → ℕ → Type 0 → (Geometry → AnyCipher → AnyCipher → Answer → Type 0) → Answer → Type 0
CalledTo selector key key' slots page Left Made a =
    ((e : Refusal) × Barred selector ((length key ≡ 16) × (length key' ≡ 16)) slots page e × Left × (a ≡ refused e))
    ⊎ ((g : Geometry) × (c : AnyCipher) × (to : AnyCipher) × Keyed selector key c × Keyed selector key' to × Shaped slots page g × Made g c to a)

-- a message under a cipher: what f makes of it, or refused for its length and left as it was
abbrev pub Passes : (AnyCipher → List ℕ → List ℕ) → AnyCipher → List ℕ → List ℕ → Answer → Type 0
Passes f c m m' a = (m' ≡ f c m) × (a ≡ cond (admitted (length m)) (yes 0) (no 1 0 0))

-- what the mode gives
abbrev pub Enciphers : AnyCipher → List ℕ → List ℕ → Answer → Type 0
Enciphers = Passes (λ c. enciphered (encrypts c))

abbrev pub Deciphers : AnyCipher → List ℕ → List ℕ → Answer → Type 0
Deciphers = Passes (λ c. deciphered (encrypts c) (decrypts c))

-- a call was refused before it came to a cipher; or it was made with the cipher of the selector and the key
abbrev pub CalledWith : ℕ → List ℕ → Type 0 → (AnyCipher → Answer → Type 0) → Answer → Type 0
CalledWith selector key Left Made a =
    ((e : Refusal) × Unkeyed selector (length key ≡ 16) e × Left × (a ≡ refused e)) ⊎ ((c : AnyCipher) × Keyed selector key c × Made c a)
