-- A page laid out part by part.
use Rattle.std.proofs.Common.{◌≡◌, ℕ, ◌+◌, ◌-◌, List, [], ◌∷◌, ◌++◌, length, drop, set, replicate, refl, ap, ◌∙◌, ap₂, arith}
use borrow.Rule.Slice.PartMut.{put_mid, post_of}
use Rattle.std.proofs.lemmas.List.{length-append, take_at, drop_at, drop-replicate}

-- a label of four bytes, a mark and a slot, written over 16 zeros
pub head_is : (l : List ℕ) (m s : ℕ) → length l ≡ 4 → set (set (l ++ post_of 0 4 (replicate 16 0)) 4 m) 5 s ≡ l ++ (m ∷ s ∷ replicate 10 0)
head_is [] m s e = absurd (omega arith)
head_is (a ∷ []) m s e = absurd (omega arith)
head_is (a ∷ b ∷ []) m s e = absurd (omega arith)
head_is (a ∷ b ∷ c ∷ []) m s e = absurd (omega arith)
head_is (a ∷ b ∷ c ∷ d ∷ []) m s e = refl
head_is (a ∷ b ∷ c ∷ d ∷ x ∷ xs) m s e = absurd (omega arith)

pub head_long : (l : List ℕ) (m s : ℕ) → length l ≡ 4 → length (l ++ (m ∷ s ∷ replicate 10 0)) ≡ 16
head_long l m s e = simp length-append (omega arith)

-- a head of 16 bytes and then w bytes, written over n zeros
pub body_is : (n w k : ℕ) (head body : List ℕ) → length head ≡ 16 → k ≡ w
    → put_mid 16 k (head ++ post_of 0 16 (replicate n 0)) body ≡ head ++ (body ++ replicate (n - (16 + w)) 0)
body_is n w k head body e q =
    let rest : List ℕ = drop 16 (replicate n 0) in
    ap₂ (λ x y. x ++ (body ++ drop k y)) (take_at head rest 16 e) (drop_at head rest 16 e)
    ∙ ap (λ x. head ++ (body ++ x))
    (ap (drop k) (drop-replicate 16 n 0) ∙ drop-replicate k (n - 16) 0 ∙ ap (λ j. replicate j 0) (omega arith))
