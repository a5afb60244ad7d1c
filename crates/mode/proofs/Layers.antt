-- Layers: a function on each di-block of a list, and a mask on the bytes of a tail.
use Rattle.std.proofs.Common.{◌≡◌, ℕ, suc, List, [], ◌∷◌, map, length, refl, ap, ap₂, arith}
use lib.Bits.{xor_lt}
use Rattle.std.specs.Int.Digits.{AllBelowBase}
use Rattle.block.specs.declared.diblock.DiBlock.{DiBlock}
use Rattle.block.specs.Blocks.{IsBlock}
use Rattle.block.proofs.Sums.{cancel, Blocks, AllBlocks, Fit}
use Rattle.mode.specs.Parts.{onto}
use Rattle.mode.specs.Mode.{each}

pub onto-onto : (t m : List ℕ) → onto (onto t m) m ≡ t
onto-onto [] m = refl
onto-onto (b ∷ bs) [] = refl
onto-onto (b ∷ bs) (m ∷ ms) = ap₂ (λ x xs. x ∷ xs) (cancel b m) (onto-onto bs ms)

pub onto_none : (t m : List ℕ) → length t ≡ 0 → onto t m ≡ t
onto_none [] m e = refl
onto_none (b ∷ bs) m e = absurd (omega arith)

pub length-onto : (t m : List ℕ) → length (onto t m) ≡ length t
length-onto [] m = refl
length-onto (b ∷ bs) [] = refl
length-onto (b ∷ bs) (m ∷ ms) = ap suc (length-onto bs ms)

pub under_onto : (t m : List ℕ) → AllBelowBase 256 t → AllBelowBase 256 m → AllBelowBase 256 (onto t m)
under_onto [] m p q = tt
under_onto (b ∷ bs) [] p q = p
under_onto (b ∷ bs) (m ∷ ms) p q = (xor_lt 8 b m p.0 q.0, under_onto bs ms p.1 q.1)

pub each-length : (f : ℕ → DiBlock → DiBlock) (i : ℕ) (ds : List DiBlock) → length (each f i ds) ≡ length ds
each-length f i [] = refl
each-length f i (d ∷ ds) = ap suc (each-length f (suc i) ds)

pub each_fits : (f : ℕ → DiBlock → DiBlock) → ((i : ℕ) (d : DiBlock) → Blocks d → Blocks (f i d)) → (i : ℕ) (ds : List DiBlock) → AllBlocks ds → AllBlocks (each f i ds)
each_fits f h i [] p = tt
each_fits f h i (d ∷ ds) p = (h i d p.0, each_fits f h (suc i) ds p.1)

pub each_back : (f g : ℕ → DiBlock → DiBlock) → ((i : ℕ) (d : DiBlock) → Blocks d → g i (f i d) ≡ d) → (i : ℕ) (ds : List DiBlock) → AllBlocks ds → each g i (each f i ds) ≡ ds
each_back f g h i [] p = refl
each_back f g h i (d ∷ ds) p = ap₂ (λ x xs. x ∷ xs) (h i d p.0) (each_back f g h (suc i) ds p.1)

pub map_fits : (f : DiBlock → ℕ) → ((d : DiBlock) → Blocks d → IsBlock (f d)) → (ds : List DiBlock) → AllBlocks ds → Fit (map f ds)
map_fits f h [] p = tt
map_fits f h (d ∷ ds) p = (h d p.0, map_fits f h ds p.1)
