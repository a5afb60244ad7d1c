-- A way through the mode that is handed over as a call.
use Rattle.std.specs.Prelude.{◌≡◌, ℕ, List, length, Result}
use Rattle.block.specs.Answers.{answered}
use Rattle.ciphers.specs.declared.any.AnyCipher.{AnyCipher}
use Rattle.zcz.specs.declared.refusal.Refusal.{Refusal}
use Rattle.zcz.specs.Refusals.{numbers, answer}
use denote.Ref.{Bor, MutBor}

-- a call under a cipher leaves what f makes of the message, and answers by its length
abbrev pub Leads : (Bor AnyCipher → MutBor (List ℕ) → Result (Unit {0}) Refusal → MutBor (List ℕ) → Type 0) → (AnyCipher → List ℕ → List ℕ) → Type 0
Leads way f =
    (c : Bor AnyCipher) (m : MutBor (List ℕ)) (q : Result (Unit {0}) Refusal) (m' : MutBor (List ℕ)) → way c m q m'
    → (m'.now ≡ f c.now m.now) × (answered numbers q ≡ answer (length m.now))
