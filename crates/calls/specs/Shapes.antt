-- The limits of a geometry, and what making one answers.
use Rattle.std.specs.Prelude.{ℕ, Bool, cond, ◌&&◌, List, [], ◌∷◌, nat_le}
use Rattle.block.specs.Answers.{Answer, accepted, refused}
use Rattle.calls.specs.declared.geometry.shape.GeometryFault.{GeometryFault}

abbrev pub admitted : ℕ → ℕ → Bool
admitted slots page = (nat_le 1 slots && nat_le slots 64) && (nat_le 64 page && nat_le page 4096)

abbrev pub numbers : GeometryFault → List ℕ
numbers e = 2 ∷ []

abbrev pub answer : ℕ → ℕ → Answer (ℕ × ℕ)
answer slots page = cond (admitted slots page) (accepted (slots, page)) (refused (2 ∷ []))
