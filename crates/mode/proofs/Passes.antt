-- A loop over the di-blocks of a message, one turn on, and two such loops as steps 2 to 6.
use Rattle.std.proofs.Common.{◌≡◌, ℕ, zero, suc, ◌+◌, ◌*◌, ◌/◌, ◌%◌, ◌^◌, ◌<◌, cond, List, [], ◌∷◌, ◌++◌, length, drop, sym, refl, ap, ◌∙◌, ap₂, ⊎_elim, append_assoc, add-zero, add-suc, suc-add, add-one, arith}
use Prim.Native.String.{String}
use lib.Bits.{bit_xor}
use Rattle.std.proofs.lemmas.Bool.{cases_eq, eq-eqb, ne_eqb}
use Rattle.std.proofs.lemmas.List.{take_at, drop_at, drop-drop, map_push, append-nil}
use Rattle.block.specs.declared.diblock.DiBlock.{DiBlock}
use Rattle.block.specs.Blocks.{di, add, read, write, reads, writes}
use Rattle.block.specs.Places.{at, put}
use Rattle.block.specs.Alpha.{Σα}
use Rattle.block.proofs.Sums.{AllBlocks}
use Rattle.block.proofs.Powers.{Σα_push}
use Rattle.block.proofs.OnBytes.{length-writes, reads-writes}
use Rattle.mode.specs.Parts.{padded}
use Rattle.mode.specs.Mode.{each, xstar, ystar, lefts, rights, both, chain, hash, hash_of_tail}
use Rattle.mode.specs.Running.{passed, xmore, ymore, link, then_on, sandwich}
use Rattle.mode.proofs.Layers.{each-length}

pub reads-length : (n : ℕ) (m : List ℕ) → length (reads n m) ≡ n
reads-length zero m = refl
reads-length (suc n) m = ap suc (reads-length n (drop 32 m))

further : (n : ℕ) → 32 + 32 * n ≡ 32 * suc n
further n = omega arith

pub reads-push : (n : ℕ) (m : List ℕ) → reads (suc n) m ≡ reads n m ++ (at m n ∷ [])
reads-push zero m = refl
reads-push (suc n) m = ap (λ r. read m ∷ r) (reads-push n (drop 32 m) ∙ ap (λ r. reads n (drop 32 m) ++ (read r ∷ [])) (drop-drop (32 * n) 32 m ∙ ap (λ k. drop k m) (further n)))

pub each-push : (f : ℕ → DiBlock → DiBlock) (i : ℕ) (ds : List DiBlock) (d : DiBlock) → each f i (ds ++ (d ∷ [])) ≡ each f i ds ++ (f (i + length ds) d ∷ [])
each-push f i [] d = ap (λ k. f k d ∷ []) (sym (add-zero i))
each-push f i (x ∷ xs) d = ap (λ r. f i x ∷ r) (each-push f (suc i) xs d ∙ ap (λ k. each f (suc i) xs ++ (f k d ∷ [])) (suc-add i (length xs) ∙ sym (add-suc i (length xs))))

pub writes-push : (ds : List DiBlock) (d : DiBlock) → writes (ds ++ (d ∷ [])) ≡ writes ds ++ write d
writes-push [] d = append-nil (write d)
writes-push (x ∷ xs) d = ap (λ r. write x ++ r) (writes-push xs d) ∙ sym (append_assoc (write x) (writes xs) (write d))

pub done_push : (f : ℕ → DiBlock → DiBlock) (i : ℕ) (m : List ℕ) → each f 1 (reads (i + 1) m) ≡ each f 1 (reads i m) ++ (f (suc i) (at m i) ∷ [])
done_push f i m =
    ap (λ k. each f 1 (reads k m)) (add-one i)
    ∙ ap (each f 1) (reads-push i m)
    ∙ each-push f 1 (reads i m) (at m i)
    ∙ ap (λ k. each f 1 (reads i m) ++ (f k (at m i) ∷ [])) (ap (λ n. 1 + n) (reads-length i m) ∙ one i)
  where
    one : (i : ℕ) → 1 + i ≡ suc i
    one i = omega arith

module _ (f : ℕ → DiBlock → DiBlock) (i : ℕ) (m : List ℕ) where
  pub front_length : length (writes (each f 1 (reads i m))) ≡ 32 * i
  front_length = length-writes (each f 1 (reads i m)) ∙ ap (λ n. 32 * n) (each-length f 1 (reads i m) ∙ reads-length i m)

  pub at-passed : at (passed f i m) i ≡ at m i
  at-passed = ap read (drop_at (writes (each f 1 (reads i m))) (drop (32 * i) m) (32 * i) front_length)

  pub passed_more : put (passed f i m) i (f (suc i) (at (passed f i m) i)) ≡ passed f (i + 1) m
  passed_more =
      let W : List ℕ = writes (each f 1 (reads i m)) in
      let rest : List ℕ = drop (32 * i) m in
      let d : DiBlock = f (suc i) (at m i) in
      ap (λ x. put (passed f i m) i (f (suc i) x)) at-passed
      ∙ ap₂ (λ a b. a ++ (write d ++ b)) (take_at W rest (32 * i) front_length)
      (sym (drop-drop 32 (32 * i) (passed f i m)) ∙ ap (drop 32) (drop_at W rest (32 * i) front_length) ∙ drop-drop 32 (32 * i) m ∙ ap (λ k. drop k m) (on i))
      ∙ sym (append_assoc W (write d) (drop (32 * (i + 1)) m))
      ∙ ap (λ r. r ++ drop (32 * (i + 1)) m) (sym (writes-push (each f 1 (reads i m)) d) ∙ ap writes (sym (done_push f i m)))
    where
      on : (i : ℕ) → 32 * i + 32 ≡ 32 * (i + 1)
      on i = omega arith

pub xstar-push : (xs : List DiBlock) (x : DiBlock) → xstar (xs ++ (x ∷ [])) ≡ xmore (xstar xs) x
xstar-push xs x =
    ap₂ di (ap (Σα 1) (map_push (λ (d : DiBlock). d.left) xs x) ∙ Σα_push 1 (lefts xs) x.left)
    (ap (Σα 2) (map_push (λ (d : DiBlock). bit_xor d.left d.right) xs x) ∙ Σα_push 2 (both xs) (bit_xor x.left x.right))

pub ystar-push : (ys : List DiBlock) (y : DiBlock) → ystar (ys ++ (y ∷ [])) ≡ ymore (ystar ys) y
ystar-push ys y =
    ap₂ di (ap (Σα 2) (map_push (λ (d : DiBlock). bit_xor d.left d.right) ys y) ∙ Σα_push 2 (both ys) (bit_xor y.left y.right))
    (ap (Σα 1) (map_push (λ (d : DiBlock). d.right) ys y) ∙ Σα_push 1 (rights ys) y.right)

-- the chain's link for the next place
pub link_is : (E : String → ℕ → ℕ → ℕ → ℕ) (s i : ℕ) → link E i (chain E s ((i + 127) / 128)) ≡ chain E s ((suc i + 127) / 128)
link_is E s i =
    ⊎_elim
    (λ z. let a : (i + 127) / 128 ≡ i / 128 = omega arith in
    let b : (suc i + 127) / 128 ≡ suc (i / 128) = omega arith in
    ap (λ t. cond t (E "s" 0 (suc (i / 128) % 2 ^ 128) (chain E s ((i + 127) / 128))) (chain E s ((i + 127) / 128))) (eq-eqb (i % 128) 0 z)
    ∙ ap (λ j. E "s" 0 (suc (i / 128) % 2 ^ 128) (chain E s j)) a ∙ sym (ap (chain E s) b))
    (λ z. let a : (i + 127) / 128 ≡ (suc i + 127) / 128 = omega arith in
    ap (λ t. cond t (E "s" 0 (suc (i / 128) % 2 ^ 128) (chain E s ((i + 127) / 128))) (chain E s ((i + 127) / 128))) (ne_eqb (i % 128) 0 z)
    ∙ ap (chain E s) a)
    (cases_eq (i % 128) 0)

pub each_then : (f g : ℕ → DiBlock → DiBlock) (i : ℕ) (ds : List DiBlock) → each (then_on f g) i ds ≡ each g i (each f i ds)
each_then f g i [] = refl
each_then f g i (d ∷ ds) = ap (λ r. g i (f i d) ∷ r) (each_then f g (suc i) ds)

pub reads-passed : (f : ℕ → DiBlock → DiBlock) (n : ℕ) (m : List ℕ) → AllBlocks (each f 1 (reads n m)) → reads n (passed f n m) ≡ each f 1 (reads n m)
reads-passed f n m p =
    ap (λ k. reads k (passed f n m)) (sym (each-length f 1 (reads n m) ∙ reads-length n m))
    ∙ reads-writes (each f 1 (reads n m)) (drop (32 * n) m) p

pub drop-passed : (f : ℕ → DiBlock → DiBlock) (n : ℕ) (m : List ℕ) → drop (32 * n) (passed f n m) ≡ drop (32 * n) m
drop-passed f n m = drop_at (writes (each f 1 (reads n m))) (drop (32 * n) m) (32 * n) (front_length f n m)

-- two passes over the message are steps 2 to 6
module _ (A M : ℕ → DiBlock → DiBlock) (K : DiBlock → ℕ → DiBlock → DiBlock) (C B : ℕ → DiBlock → DiBlock) (s t : ℕ → List DiBlock → DiBlock)
    (n : ℕ) (m : List ℕ) (last : DiBlock) (m₁ : List ℕ) (st : DiBlock) (m₂ : List ℕ) (r : DiBlock)
    (fits : AllBlocks (each A 1 (reads n m)))
    (first : m₁ ≡ passed A n m)
    (mid : st ≡ M (suc n) (add last (s (suc n) (each A 1 (reads n m)))))
    (second : m₂ ≡ passed (then_on (K st) B) n m₁)
    (end : r ≡ add (C (suc n) st) (t (suc n) (each (K st) 1 (reads n m₁)))) where
  len : suc n ≡ suc (length (reads n m))
  len = ap suc (sym (reads-length n m))

  again : reads n m₁ ≡ each A 1 (reads n m)
  again = ap (reads n) first ∙ reads-passed A n m fits

  at_mid : st ≡ M (suc (length (reads n m))) (add last (s (suc (length (reads n m))) (each A 1 (reads n m))))
  at_mid = mid ∙ ap (λ k. M k (add last (s k (each A 1 (reads n m))))) len

  pub run_wrote : m₂ ≡ writes (sandwich A M K C B s t (reads n m) last).0 ++ drop (32 * n) m
  run_wrote =
      second
      ∙ ap₂ (λ x y. writes x ++ y)
      (each_then (K st) B 1 (reads n m₁) ∙ ap₂ (λ u x. each B 1 (each (K u) 1 x)) at_mid again)
      (ap (drop (32 * n)) first ∙ drop-passed A n m)

  pub run_last : r ≡ (sandwich A M K C B s t (reads n m) last).1
  run_last =
      end
      ∙ ap (λ x. add (C (suc n) st) (t (suc n) (each (K st) 1 x))) again
      ∙ ap₂ (λ k u. add (C k u) (t k (each (K u) 1 (each A 1 (reads n m))))) len at_mid

pub tail_hash_none : (E : String → ℕ → ℕ → ℕ → ℕ) (i : ℕ) (t : List ℕ) → length t ≡ 0 → hash_of_tail E i t ≡ di 0 0
tail_hash_none E i [] e = refl
tail_hash_none E i (b ∷ bs) e = absurd (omega arith)

pub tail_hash_some : (E : String → ℕ → ℕ → ℕ → ℕ) (i : ℕ) (t : List ℕ) → 0 < length t → hash_of_tail E i t ≡ hash E i (padded t)
tail_hash_some E i [] h = absurd (omega arith)
tail_hash_some E i (b ∷ bs) h = refl

-- one turn of a loop that changes the di-blocks by f and gathers a sum over the same di-blocks changed by h
module _ (f h : ℕ → DiBlock → DiBlock) (star : List DiBlock → DiBlock) (more : DiBlock → DiBlock → DiBlock)
    (push : (ds : List DiBlock) (d : DiBlock) → star (ds ++ (d ∷ [])) ≡ more (star ds) d)
    (i : ℕ) (m : List ℕ) {m₀ m₁ : List ℕ} {s₀ s₁ : DiBlock}
    (done : m₀ ≡ passed f i m) (so_far : s₀ ≡ star (each h 1 (reads i m)))
    (wrote : m₁ ≡ put m₀ i (f (suc i) (at m₀ i))) (sums : s₁ ≡ more s₀ (h (suc i) (at m₀ i))) where
  pub turn_wrote : m₁ ≡ passed f (i + 1) m
  turn_wrote = wrote ∙ ap (λ x. put x i (f (suc i) (at x i))) done ∙ passed_more f i m

  pub turn_sums : s₁ ≡ star (each h 1 (reads (i + 1) m))
  turn_sums =
      sums
      ∙ ap₂ more so_far (ap (λ x. h (suc i) (at x i)) done ∙ ap (h (suc i)) (at-passed f i m))
      ∙ sym (ap star (done_push h i m) ∙ push (each h 1 (reads i m)) (h (suc i) (at m i)))

-- the chain's link for the place after i, from the one so far
pub link_on : (E : String → ℕ → ℕ → ℕ → ℕ) (s i : ℕ) {s₀ s₁ : ℕ} → s₀ ≡ chain E s ((i + 127) / 128) → s₁ ≡ link E i s₀ → s₁ ≡ chain E s ((suc i + 127) / 128)
link_on E s i p q = q ∙ ap (link E i) p ∙ link_is E s i
