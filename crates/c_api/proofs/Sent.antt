-- A message is refused just where its length is not admitted.
use Rattle.std.proofs.Common.{◌≡◌, ℕ, Bool, true, false, cond, [], ◌∷◌, Ok, Err, Result, refl, arith}
use Rattle.block.specs.Answers.{answered, accepted, refused}
use Rattle.zcz.specs.declared.refusal.Refusal.{Refusal}
use Rattle.zcz.specs.Refusals.{numbers}
use Rattle.c_api.specs.Answers.{sent, yes, no}

pub sent_is : (b : Bool) (q : Result (Unit {0}) Refusal) → answered numbers q ≡ cond b (accepted tt) (refused (1 ∷ [])) → sent q ≡ cond b (yes 0) (no 1 0 0)
sent_is true (Ok _) e = refl
sent_is false (Err r) e = refl
sent_is false (Ok _) e = let z : ◌≡◌ {A = ℕ} 0 1 = cc in absurd (omega arith)
sent_is true (Err r) e = let z : ◌≡◌ {A = ℕ} 0 1 = cc in absurd (omega arith)
