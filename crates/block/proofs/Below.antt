-- A rule of every number below n, by one test that the checker computes.
use Rattle.std.proofs.Common.{◌≡◌, ℕ, zero, suc, ◌<◌, Bool, true, ◌&&◌, eqb, ltb, refl}
use Rattle.std.proofs.lemmas.Bool.Decides.{Decides-below_and, Decides-eqb, Decides-ltb}

abbrev pub every : (ℕ → Bool) → ℕ → Bool
every p zero = true
every p (suc n) = p n && every p n

module _ (f g : ℕ → ℕ) (n : ℕ) where
  pub same_below : every (λ x. eqb (f x) (g x)) n ≡ true → (k : ℕ) → k < n → f k ≡ g k
  same_below = (Decides-below_and (λ x. eqb (f x) (g x)) (λ x. f x ≡ g x) (every (λ x. eqb (f x) (g x))) (λ x. Decides-eqb (f x) (g x)) refl (λ _. refl) n).0

  pub less_below : every (λ x. ltb (f x) (g x)) n ≡ true → (k : ℕ) → k < n → f k < g k
  less_below = (Decides-below_and (λ x. ltb (f x) (g x)) (λ x. f x < g x) (every (λ x. ltb (f x) (g x))) (λ x. Decides-ltb (f x) (g x)) refl (λ _. refl) n).0
