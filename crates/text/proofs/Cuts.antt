-- A text has one first comma.
use Rattle.std.proofs.Common.{◌≡◌, ℕ, List, [], ◌∷◌, ◌++◌, refl, arith}
use Rattle.text.specs.Texts.{Free}

pub same_cut : (a b a' b' : List ℕ) → Free a → Free a' → a ++ (44 ∷ b) ≡ a' ++ (44 ∷ b') → (a ≡ a') × (b ≡ b')
same_cut [] b [] b' f f' e = (refl, cc)
same_cut [] b (y ∷ a') b' f f' e = let z : y ≡ 44 = cc in absurd (f'.0 z)
same_cut (x ∷ a) b [] b' f f' e = let z : x ≡ 44 = cc in absurd (f.0 z)
same_cut (x ∷ a) b (y ∷ a') b' f f' e =
    let z : x ≡ y = cc in
    let t : a ++ (44 ∷ b) ≡ a' ++ (44 ∷ b') = cc in
    let h = same_cut a b a' b' f.1 f'.1 t in
    let p : a ≡ a' = h.0 in
    (cc, h.1)

pub no_cut : (x a b : List ℕ) → Free x → x ≡ a ++ (44 ∷ b) → ⊥
no_cut [] [] b f e = let z : ◌≡◌ {A = ℕ} 0 1 = cc in omega arith
no_cut [] (y ∷ a) b f e = let z : ◌≡◌ {A = ℕ} 0 1 = cc in omega arith
no_cut (x ∷ xs) [] b f e = let z : x ≡ 44 = cc in f.0 z
no_cut (x ∷ xs) (y ∷ a) b f e = let t : xs ≡ a ++ (44 ∷ b) = cc in no_cut xs a b f.1 t
