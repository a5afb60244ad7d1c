-- Texts that are told apart.
use Rattle.std.proofs.Common.{◌≡◌, ℕ, Bool, true, false, List, Decides, refl}
use Rattle.std.specs.Str.{bytes_eq}
use Rattle.std.proofs.lemmas.Slice.Eq.{bytes_eq-Decides}

fails : (b : Bool) (P : Type 0) → Decides b P → (P → ⊥) → b ≡ false
fails true P d h = absurd (h (d.0 refl))
fails false P d h = refl

-- two texts that are not the same fail the test
pub apart : (xs ys : List ℕ) → (xs ≡ ys → ⊥) → bytes_eq xs ys ≡ false
apart xs ys h = fails (bytes_eq xs ys) (xs ≡ ys) (bytes_eq-Decides xs ys) h
