-- Eight cells as a word, moved down by three.
use Rattle.std.proofs.Common.{◌≡◌, ℕ, ◌+◌, ◌*◌, ◌/◌, ◌%◌, ◌^◌, ◌<◌, List, [], ◌∷◌, map, length, get_or, refl, ap, ◌∙◌, subst, ap₂, arith}
use lib.Lanes.{Each1, number_l, digits_l}
use Rattle.std.proofs.lemmas.Simd.{get_or_wider}
use Rattle.block.proofs.Sixteen.{spread-all}
use Rattle.skinny.specs.Skinny.{Cells}
use Rattle.skinny.specs.Running.{down_by_three}

abbrev Bytes : List ℕ → Type 0
Bytes = Each1 (λ x. x < 256)

-- what the code computes: two words of eight cells, each divided
abbrev moved : Cells → Cells
moved x = digits_l 256 16 (number_l (2 ^ 64) (map (λ w. w / 2 ^ 24) (digits_l (2 ^ 64) 2 (number_l 256 x))))

digits_number : (xs : List ℕ) → Bytes xs → digits_l 256 (length xs) (number_l 256 xs) ≡ xs
digits_number [] b = refl
digits_number (x ∷ xs) b =
    let l : x < 256 = b.0 in
    let p : (x + 256 * number_l 256 xs) % 256 ≡ x = omega arith in
    let q : (x + 256 * number_l 256 xs) / 256 ≡ number_l 256 xs = omega arith in
    ap₂ (λ (y : ℕ) (ys : List ℕ). y ∷ ys) p (ap (λ (m : ℕ). digits_l 256 (length xs) m) q ∙ digits_number xs b.1)

word : (a b c d e f g h : ℕ) → Bytes (a ∷ b ∷ c ∷ d ∷ e ∷ f ∷ g ∷ h ∷ []) → number_l 256 (a ∷ b ∷ c ∷ d ∷ e ∷ f ∷ g ∷ h ∷ []) / 2 ^ 24 ≡ number_l 256 (d ∷ e ∷ f ∷ g ∷ h ∷ [])
word a b c d e f g h p = omega arith

joined : (a b c d e f g h i j : ℕ) → number_l (2 ^ 64) (number_l 256 (a ∷ b ∷ c ∷ d ∷ e ∷ []) ∷ number_l 256 (f ∷ g ∷ h ∷ i ∷ j ∷ []) ∷ []) ≡ number_l 256 (a ∷ b ∷ c ∷ d ∷ e ∷ 0 ∷ 0 ∷ 0 ∷ f ∷ g ∷ h ∷ i ∷ j ∷ 0 ∷ 0 ∷ 0 ∷ [])
joined a b c d e f g h i j = omega arith

module _ (x0 x1 x2 x3 x4 x5 x6 x7 x8 x9 x10 x11 x12 x13 x14 x15 : ℕ) where
  abbrev all : List ℕ
  all = x0 ∷ x1 ∷ x2 ∷ x3 ∷ x4 ∷ x5 ∷ x6 ∷ x7 ∷ x8 ∷ x9 ∷ x10 ∷ x11 ∷ x12 ∷ x13 ∷ x14 ∷ x15 ∷ []

  sixteen_moved : Bytes all → moved all ≡ down_by_three all
  sixteen_moved b =
      let h = b.1.1.1.1.1.1.1.1 in
      let z : ◌<◌ 0 256 = omega arith in
      let w0 = get_or_wider 256 8 (2 ^ 64) 2 all 0 refl b (omega arith) in
      let w1 = get_or_wider 256 8 (2 ^ 64) 2 all 1 refl b (omega arith) in
      let m0 = word x0 x1 x2 x3 x4 x5 x6 x7 (b.0, (b.1.0, (b.1.1.0, (b.1.1.1.0, (b.1.1.1.1.0, (b.1.1.1.1.1.0, (b.1.1.1.1.1.1.0, (b.1.1.1.1.1.1.1.0, tt)))))))) in
      let m1 = word x8 x9 x10 x11 x12 x13 x14 x15 h in
      ap (λ (n : ℕ). digits_l 256 16 n)
      (ap₂ (λ (a c : ℕ). number_l (2 ^ 64) (a ∷ c ∷ [])) (ap (λ (w : ℕ). w / 2 ^ 24) w0 ∙ m0) (ap (λ (w : ℕ). w / 2 ^ 24) w1 ∙ m1) ∙ joined x3 x4 x5 x6 x7 x11 x12 x13 x14 x15)
      ∙ digits_number (x3 ∷ x4 ∷ x5 ∷ x6 ∷ x7 ∷ 0 ∷ 0 ∷ 0 ∷ x11 ∷ x12 ∷ x13 ∷ x14 ∷ x15 ∷ 0 ∷ 0 ∷ 0 ∷ [])
      (b.1.1.1.0, (b.1.1.1.1.0, (b.1.1.1.1.1.0, (b.1.1.1.1.1.1.0, (b.1.1.1.1.1.1.1.0, (z, (z, (z, (h.1.1.1.0, (h.1.1.1.1.0, (h.1.1.1.1.1.0, (h.1.1.1.1.1.1.0, (h.1.1.1.1.1.1.1.0, (z, (z, (z, tt))))))))))))))))

pub three_down : (x : Cells) → length x ≡ 16 → Bytes x → moved x ≡ down_by_three x
three_down x h =
    subst (λ (y : Cells). Bytes y → moved y ≡ down_by_three y) (spread-all 16 x h)
    (sixteen_moved (get_or x 0 0) (get_or x 1 0) (get_or x 2 0) (get_or x 3 0) (get_or x 4 0) (get_or x 5 0) (get_or x 6 0) (get_or x 7 0) (get_or x 8 0) (get_or x 9 0) (get_or x 10 0) (get_or x 11 0) (get_or x 12 0) (get_or x 13 0) (get_or x 14 0) (get_or x 15 0))
