-- Maps over cells, lengths, and sums of rows in the order in which the code takes them.
use Rattle.std.specs.Prelude.{◌≡◌, ℕ, ◌<◌, List, [], ◌∷◌, ◌++◌, map, length, take, drop, bit_xor, refl}
use Rattle.std.proofs.Common.{sym, ◌∙◌, ap, ap₂, Fits}
use Rattle.std.proofs.lemmas.Nat.{xor_comm}
use Rattle.std.specs.Simd.Lanes.{Each1}
use Rattle.std.specs.Int.{w8}
use Rattle.std.proofs.lemmas.Simd.{Each1-chunk, length-zip2}
use Rattle.block.proofs.Sixteen.{spread-all}
use Rattle.skinny.specs.Skinny.{Cells, add, mix_rows, unmix_rows, on_top}

-- two functions that agree below 256 have one map over cells
pub map_cells : (f g : ℕ → ℕ) → ((x : ℕ) → x < 256 → f x ≡ g x) → (xs : List ℕ) → Each1 (Fits w8) xs → map f xs ≡ map g xs
map_cells f g e [] h = refl
map_cells f g e (x ∷ xs) h = ap₂ (λ (y : ℕ) (ys : List ℕ). y ∷ ys) (e x h.0.fits) (map_cells f g e xs h.1)

pub on_top_cells : (f g : ℕ → ℕ) → ((x : ℕ) → x < 256 → f x ≡ g x) → (xs : List ℕ) → Each1 (Fits w8) xs → on_top f xs ≡ on_top g xs
on_top_cells f g e xs h = ap (λ (ys : List ℕ). ys ++ drop 8 xs) (map_cells f g e (take 8 xs) (Each1-chunk (Fits w8) 0 8 xs h))

-- ---- sixteen cells stay sixteen
pub length-add : (x y : Cells) → length x ≡ 16 → length y ≡ 16 → length (add x y) ≡ 16
length-add x y h k = length-zip2 bit_xor x y (h ∙ sym k) ∙ h

pub length-on_top : (f : ℕ → ℕ) (x : Cells) → length x ≡ 16 → length (on_top f x) ≡ 16
length-on_top f x h = rw (← spread-all 16 x h)

-- ---- rows
add_comm : (xs ys : List ℕ) → add xs ys ≡ add ys xs
add_comm [] [] = refl
add_comm [] (y ∷ ys) = refl
add_comm (x ∷ xs) [] = refl
add_comm (x ∷ xs) (y ∷ ys) = ap₂ (λ (z : ℕ) (zs : List ℕ). z ∷ zs) (xor_comm x y) (add_comm xs ys)

pub mix-turned : (a b c d : List ℕ) → mix_rows a b c d ≡ add d (add c a) ++ (a ++ (add c b ++ add c a))
mix-turned a b c d =
    ap₂ (λ (x y : List ℕ). x ++ (a ++ y)) (add_comm (add a c) d ∙ ap (add d) (add_comm a c))
    (ap₂ (λ (x y : List ℕ). x ++ y) (add_comm b c) (add_comm a c))

pub unmix_turned : (p q s t : List ℕ) → unmix_rows p q s t ≡ q ++ (add s (add t q) ++ (add t q ++ add t p))
unmix_turned p q s t =
    ap (λ (x : List ℕ). q ++ x)
    (ap₂ (λ (x y : List ℕ). x ++ y) (add_comm (add q t) s ∙ ap (add s) (add_comm q t))
    (ap₂ (λ (x y : List ℕ). x ++ y) (add_comm q t) (add_comm p t)))
