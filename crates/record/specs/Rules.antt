-- Rules that the fields of a record keep, in the order of the fields.
use Rattle.std.specs.Prelude.{◌≡◌, ℕ, suc, ◌≤◌, Bool, cond, ◌&&◌, List, [], ◌∷◌, ℤ, Result, MatchResult, ◌==◌, int_le, nat_le}
use Rattle.record.specs.declared.fault.FieldFault.{FieldFault}

abbrev pub within : ℕ → ℕ → ℕ → Bool
within low high x = nat_le low x && nat_le x high

-- the same for a signed number
abbrev pub between : ℤ → ℤ → ℤ → Bool
between low high x = int_le low x && int_le x high

-- the place of the first rule that is broken, counted from k; 0 where none is
abbrev pub broken : ℕ → List Bool → ℕ
broken k [] = 0
broken k (b ∷ bs) = cond b (broken (suc k) bs) k

-- the lowest wrong field, or 0
abbrev pub lowest : List Bool → ℕ
lowest bs = broken 1 bs

abbrev pub kept : List Bool → Bool
kept bs = lowest bs == 0

-- the lowest wrong field, where there is one, is refused
abbrev pub Judged : List Bool → Result (Unit {0}) FieldFault → Type 0
Judged bs r = MatchResult r (λ _. lowest bs ≡ 0) (λ e. (1 ≤ e.field) × (lowest bs ≡ e.field))
