-- Steps that are handed over as calls: what they give, by a fact that says what a call at some arguments may
-- give. With a key, made says which ciphers may be made from it.
use Rattle.std.specs.Prelude.{◌≡◌, ℕ, List, Result}
use Rattle.cipher.specs.declared.tweak.Tweak.{Tweak}
use Rattle.zcz.specs.declared.refusal.Refusal.{Refusal}
use denote.Ref.{Bor, MutBor}

-- a step from a block gives what f does
abbrev pub Gives : (ℕ → ℕ → Type 0) → (ℕ → ℕ) → Type 0
Gives step f = (x y : ℕ) → step x y → y ≡ f x

-- under a key, a step from a tweak and a block gives what f of the key, the head and the body does
abbrev pub GivesTweaked : {C : Type 0} → (ℕ → C → Type 0) → (Bor C → Tweak → ℕ → ℕ → Type 0) → (ℕ → ℕ → ℕ → ℕ → ℕ) → Type 0
GivesTweaked {C} made step f =
    (key : ℕ) (c : Bor C) (tweak : Tweak) (x y : ℕ) → made key c.now → step c tweak x y → y ≡ f key tweak.head tweak.body x

-- the same from a block alone
abbrev pub GivesBlocks : {C : Type 0} → (ℕ → C → Type 0) → (Bor C → ℕ → ℕ → Type 0) → (ℕ → ℕ → ℕ) → Type 0
GivesBlocks {C} made step f = (key : ℕ) (c : Bor C) (x y : ℕ) → made key c.now → step c x y → y ≡ f key x

-- and from a message, in whose place it leaves what f does
abbrev pub GivesMessages : {C : Type 0} → (ℕ → C → Type 0) → (Bor C → MutBor (List ℕ) → Result (Unit {0}) Refusal → MutBor (List ℕ) → Type 0)
    → (ℕ → List ℕ → List ℕ) → Type 0
GivesMessages {C} made step f =
    (key : ℕ) (c : Bor C) (m : MutBor (List ℕ)) (q : Result (Unit {0}) Refusal) (m' : MutBor (List ℕ)) → made key c.now → step c m q m' → m'.now ≡ f key m.now
