-- The key's part of the schedule with the tweak's part, two rounds at a time, is the schedule.
use Rattle.std.proofs.Common.{◌≡◌, ℕ, zero, suc, List, [], ◌∷◌, length, sym, refl, ap, ◌∙◌, ap₂}
use lib.Bits.{bit_xor, xor_comm, xor_assoc}
use Rattle.block.proofs.Sixteen.{spread-all}
use Rattle.skinny.specs.Skinny.{Cells, add, top, constant_at, constant_cells, permuted, step2, step3, lfsr2, lfsr3, keys_of_rounds}
use Rattle.skinny.specs.Linear.{length-add, length-on_top}
use Rattle.skinny.specs.Running.{bottom, twice, twice2, key_part}

-- the key's part with the tweak's part added: p from the head, q from the body
unfoldable pub tweaked_keys : List Cells → Cells → Cells → List Cells
tweaked_keys [] p q = []
tweaked_keys (k ∷ []) p q = []
tweaked_keys (k ∷ l ∷ ks) p q = add k (top (add p q)) ∷ add l (bottom (add (twice p) (twice2 q))) ∷ tweaked_keys ks (twice p) (twice2 q)

swapped : (t c m : ℕ) → bit_xor (bit_xor t c) m ≡ bit_xor (bit_xor m t) c
swapped t c m = xor_comm (bit_xor t c) m ∙ sym (xor_assoc m t c)

add_swapped : (ts cs ms : List ℕ) → add (add ts cs) ms ≡ add (add ms ts) cs
add_swapped [] cs [] = refl
add_swapped [] cs (m ∷ ms) = refl
add_swapped (t ∷ ts) [] [] = refl
add_swapped (t ∷ ts) [] (m ∷ ms) = refl
add_swapped (t ∷ ts) (c ∷ cs) [] = refl
add_swapped (t ∷ ts) (c ∷ cs) (m ∷ ms) = ap₂ (λ (x : ℕ) (xs : List ℕ). x ∷ xs) (swapped t c m) (add_swapped ts cs ms)

top-add : (m t : Cells) → length m ≡ 16 → length t ≡ 16 → add (top m) (top t) ≡ top (add m t)
top-add m t h k = rw (← spread-all 16 m h, ← spread-all 16 t k)

-- a round's sum from its two parts
sum_is : (c p q t : Cells) → length p ≡ 16 → length q ≡ 16 → length t ≡ 16 → add (add (top t) c) (top (add p q)) ≡ add (top (add (add p q) t)) c
sum_is c p q t hp hq ht =
    add_swapped (top t) c (top (add p q)) ∙ ap (λ (x : Cells). add x c) (top-add (add p q) t (length-add p q hp hq) ht)

bottom-top : (p q : Cells) → length p ≡ 16 → length q ≡ 16 → bottom (add (twice p) (twice2 q)) ≡ top (add (permuted p) (step2 q))
bottom-top p q hp hq = rw (← spread-all 16 p hp, ← spread-all 16 q hq)

permuted-twice : (p : Cells) → length p ≡ 16 → permuted (permuted p) ≡ twice p
permuted-twice p h = rw (← spread-all 16 p h)

step2-twice : (q : Cells) → length q ≡ 16 → step2 (step2 q) ≡ twice2 q
step2-twice q h = rw (← spread-all 16 q h)

abbrev double : ℕ → ℕ
double zero = zero
double (suc n) = suc (suc (double n))

tweaked-double : (n i : ℕ) (p q t : Cells) → length p ≡ 16 → length q ≡ 16 → length t ≡ 16
    → tweaked_keys (key_part (double n) i t) p q ≡ keys_of_rounds (double n) i p q t
unfolding tweaked_keys key_part keys_of_rounds
tweaked-double zero i p q t hp hq ht = refl
tweaked-double (suc n) i p q t hp hq ht =
    let t1 = step3 t in
    let h1 = length-on_top lfsr3 (permuted t) refl in
    let h2 = length-on_top lfsr2 (permuted q) refl in
    let e1 = sum_is (constant_cells (constant_at i)) p q t hp hq ht in
    let e2 = ap (add (add (top t1) (constant_cells (constant_at (suc i))))) (bottom-top p q hp hq) ∙ sum_is (constant_cells (constant_at (suc i))) (permuted p) (step2 q) t1 refl h2 h1 in
    let e3 = tweaked-double n (suc (suc i)) (twice p) (twice2 q) (step3 t1) refl refl (length-on_top lfsr3 (permuted t1) refl)
    ∙ ap₂ (λ (a b : Cells). keys_of_rounds (double n) (suc (suc i)) a b (step3 t1)) (sym (permuted-twice p hp)) (sym (step2-twice q hq)) in
    λ j. e1 j ∷ e2 j ∷ e3 j

-- from the key's part as it is stored
pub tweaked_is : (ks : List Cells) (p q t : Cells) → ks ≡ key_part 56 0 t → length p ≡ 16 → length q ≡ 16 → length t ≡ 16 → tweaked_keys ks p q ≡ keys_of_rounds 56 0 p q t
tweaked_is ks p q t e hp hq ht = ap (λ (ls : List Cells). tweaked_keys ls p q) e ∙ tweaked-double 28 0 p q t hp hq ht
