-- What enciphering and deciphering answer.
use Rattle.std.specs.Prelude.{ℕ, cond, List, [], ◌∷◌}
use Rattle.block.specs.Answers.{Answer, accepted, refused}
use Rattle.mode.specs.Permutes.{admitted}
use Rattle.zcz.specs.declared.refusal.Refusal.{Refusal}
use Rattle.zcz.specs.declared.refusal.Refusal.TheVariants.{Length}

-- each refusal's number
abbrev pub numbers : Refusal → List ℕ
numbers Length = 1 ∷ []

-- to a message of n bytes
abbrev pub answer : ℕ → Answer (Unit {0})
answer n = cond (admitted n) (accepted tt) (refused (1 ∷ []))
