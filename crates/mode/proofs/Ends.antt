-- Tails, and a message put together from what the steps leave.
use Rattle.std.proofs.Common.{◌≡◌, ℕ, zero, suc, ◌+◌, ◌-◌, ◌*◌, ◌/◌, ◌<◌, ◌≤◌, List, [], ◌∷◌, ◌++◌, length, get_or, take, drop, set, replicate, sym, refl, ap, ◌∙◌, ap₂, append_assoc, arith}
use lib.Bits.{bit_xor}
use borrow.Rule.Slice.PartMut.{put_mid, post_of}
use Rattle.std.proofs.lemmas.List.{length-append, length-drop, take_at, drop_at, drop-drop, drop_all, append-nil, set_split, length_push, take-append-drop, length-take-le}
use Rattle.block.specs.declared.diblock.DiBlock.{DiBlock}
use Rattle.block.specs.Blocks.{add, write, reads, writes}
use Rattle.block.specs.Places.{at, put}
use Rattle.block.proofs.OnBytes.{length-writes}
use Rattle.mode.specs.Parts.{split, join, onto}
use Rattle.mode.specs.Running.{wrap}
use Rattle.mode.proofs.Partition.{split_by}
use Rattle.mode.proofs.Passes.{reads-length}

pub onto_more : (i : ℕ) (t a : List ℕ) → i < length t → length t ≤ length a
    → set (onto (take i t) a ++ drop i t) i (bit_xor (get_or (onto (take i t) a ++ drop i t) i 0) (get_or a i 0)) ≡ onto (take (suc i) t) a ++ drop (suc i) t
onto_more zero [] a h l = absurd (omega arith)
onto_more zero (b ∷ bs) [] h l = absurd (omega arith)
onto_more zero (b ∷ bs) (x ∷ xs) h l = refl
onto_more (suc i) [] a h l = absurd (omega arith)
onto_more (suc i) (b ∷ bs) [] h l = absurd (omega arith)
onto_more (suc i) (b ∷ bs) (x ∷ xs) h l = ap (λ r. bit_xor b x ∷ r) (onto_more i bs xs (omega arith) (omega arith))

pub pad_is : (t a f : List ℕ) → length a ≡ 32 → length t < 32 → f ≡ replicate (31 - length t) 0
    → put_mid (length t + 1) (32 - (length t + 1)) (set (t ++ post_of 0 (length t - 0) a) (length t) 128) f ≡ t ++ (128 ∷ replicate (31 - length t) 0)
pad_is t a f e h z =
    let r = length t in
    let l : List ℕ = t ++ post_of 0 (r - 0) a in
    let long : length l ≡ 32 = length-append t (post_of 0 (r - 0) a) ∙ simp length-drop (omega arith) in
    let rest : List ℕ = drop (suc r) l in
    let now : set l r 128 ≡ (t ++ (128 ∷ [])) ++ rest =
    set_split l r 128 (omega arith) ∙ ap (λ x. x ++ (128 ∷ rest)) (take_at t (post_of 0 (r - 0) a) r refl) ∙ sym (append_assoc t (128 ∷ []) rest) in
    ap₂ (λ x y. put_mid (r + 1) (32 - (r + 1)) x y) now z
    ∙ ap₂ (λ x y. x ++ (replicate (31 - r) 0 ++ y)) (take_at (t ++ (128 ∷ [])) rest (r + 1) (length_push t 128))
    (drop_all (32 - (r + 1)) (drop (r + 1) ((t ++ (128 ∷ [])) ++ rest)) (simp (length-drop, length-append) (omega (arith, length-drop (suc r) l))))
    ∙ ap (λ x. (t ++ (128 ∷ [])) ++ x) (append-nil (replicate (31 - r) 0))
    ∙ append_assoc t (128 ∷ []) (replicate (31 - r) 0)

module _ (f : List DiBlock → DiBlock → List DiBlock × DiBlock) (a b : List ℕ → DiBlock) (mid : DiBlock → DiBlock → List ℕ)
    (flen : (ds : List DiBlock) (l : DiBlock) → length (f ds l).0 ≡ length ds)
    (m : List ℕ) (long : 32 ≤ length m) (n : ℕ) (n-is : n ≡ length m / 32 - 1)
    (l : DiBlock) (m₁ : List ℕ) (new : DiBlock) (m₂ m₃ : List ℕ)
    (l-is : l ≡ add (at m n) (a (drop (32 * n + 32) m)))
    (m₁_is : m₁ ≡ writes (f (reads n m) l).0 ++ drop (32 * n) m)
    (New-is : new ≡ (f (reads n m) l).1)
    (m₂-is : m₂ ≡ take (32 * n + 32) m₁ ++ onto (drop (32 * n + 32) m₁) (mid l new))
    (m₃-is : m₃ ≡ put m₂ n (add new (b (drop (32 * n + 32) m₂)))) where
  abbrev t : List ℕ
  t = onto (drop (32 * n + 32) m₁) (mid l new)

  abbrev W : List ℕ
  W = writes (f (reads n m) l).0

  abbrev D : List ℕ
  D = drop (32 * n) m

  W-long : length W ≡ 32 * n
  W-long = length-writes (f (reads n m) l).0 ∙ ap (λ k. 32 * k) (flen (reads n m) l ∙ reads-length n m)

  rest₁ : drop (32 * n + 32) m₁ ≡ drop (32 * n + 32) m
  rest₁ =
      ap (drop (32 * n + 32)) m₁_is ∙ sym (drop-drop 32 (32 * n) (W ++ D))
      ∙ ap (drop 32) (drop_at W D (32 * n) W-long) ∙ drop-drop 32 (32 * n) m

  full_long : length (W ++ take 32 D) ≡ 32 * n + 32
  full_long = length-append W (take 32 D) ∙ ap₂ (λ x y. x + y) W-long (length-take-le 32 D (simp length-drop (omega arith)))

  full_is : take (32 * n + 32) m₁ ≡ W ++ take 32 D
  full_is =
      ap (take (32 * n + 32)) (m₁_is ∙ ap (λ x. W ++ x) (sym (take-append-drop 32 D)) ∙ sym (append_assoc W (take 32 D) (drop 32 D)))
      ∙ take_at (W ++ take 32 D) (drop 32 D) (32 * n + 32) full_long

  m₂_now : m₂ ≡ (W ++ take 32 D) ++ t
  m₂_now = m₂-is ∙ ap (λ x. x ++ t) full_is

  rest₂ : drop (32 * n + 32) m₂ ≡ t
  rest₂ = ap (drop (32 * n + 32)) m₂_now ∙ drop_at (W ++ take 32 D) t (32 * n + 32) full_long

  front₂ : take (32 * n) m₂ ≡ W
  front₂ = ap (take (32 * n)) (m₂_now ∙ append_assoc W (take 32 D) t) ∙ take_at W (take 32 D ++ t) (32 * n) W-long

  abbrev made : DiBlock → List ℕ
  made l =
      let c = f (reads n m) l in
      let t = onto (drop (32 * n + 32) m) (mid l c.1) in
      writes c.0 ++ (write (add c.1 (b t)) ++ t)

  pub whole_is : m₃ ≡ join (wrap f a b mid (split m))
  whole_is =
      m₃-is
      ∙ ap₂ (λ x y. x ++ (write (add new (b y)) ++ y)) front₂ rest₂
      ∙ ap₂ (λ v u. W ++ (write (add v (b u)) ++ u)) New-is (ap₂ onto rest₁ (ap (mid l) New-is))
      ∙ ap made l-is
      ∙ ap (λ k. join (wrap f a b mid (split_by k m))) n-is
