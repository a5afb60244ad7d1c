-- Pages within a memory: one written, and memories with equal pages.
use Rattle.std.proofs.Common.{◌≡◌, ℕ, ◌+◌, ◌-◌, ◌*◌, ◌/◌, ◌%◌, ◌<◌, ◌≤◌, List, length, get_or, take, drop, sym, ap, ◌∙◌, subst, ⊎_elim, mod-lt, div-lt_iff_lt-mul, add-mul, div-add-mod', arith, length-append, length-drop, length-take, get_or-drop, get_or-take, ext_get_or}
use borrow.Rule.Slice.PartMut.{put_mid}
use Rattle.std.specs.List.{between}
use Rattle.std.proofs.lemmas.Nat.{mul-le}
use Rattle.std.proofs.lemmas.Slice.{between_is, take-put_mid_below, drop-put_mid, between-put_mid}
use Rattle.std.proofs.lemmas.Bool.{cases_eq, cases_order}
use Rattle.calls.specs.Memory.{page, Only}

-- the page `k` ends where the page `k + 1` begins
pub row_le : (k s w : ℕ) → k < s → k * w + w ≤ s * w
row_le k s w h = omega (arith, mul-le (k + 1) w s w (omega arith) (omega arith), add-mul k 1 w)

pub page-between : (w k : ℕ) (m : List ℕ) → page w k m ≡ between (k * w) (k * w + w) m
unfolding page
page-between w k m = let e : k * w + w - k * w ≡ w = omega arith in ap (λ n. take n (drop (k * w) m)) (sym e)

module _ (w slot : ℕ) (m y : List ℕ) (long : length y ≡ w) (within : slot * w + w ≤ length m) where
  put_here : page w slot (put_mid (slot * w) w m y) ≡ y
  put_here = page-between w slot _ ∙ between-put_mid (slot * w) w m y (slot * w + w) (omega arith) (omega arith)

  put_below : (k : ℕ) → k < slot → page w k (put_mid (slot * w) w m y) ≡ page w k m
  put_below k h =
      let le : k * w + w ≤ slot * w = row_le k slot w h in
      page-between w k _ ∙ between_is _ (k * w) (k * w + w)
      ∙ ap (drop (k * w)) (take-put_mid_below (slot * w) w m y (k * w + w) le (omega arith))
      ∙ sym (between_is m (k * w) (k * w + w)) ∙ sym (page-between w k m)

  put_above : (k : ℕ) → slot < k → page w k (put_mid (slot * w) w m y) ≡ page w k m
  unfolding page
  put_above k h =
      let le : slot * w + w ≤ k * w = row_le slot k w h in
      ap (take w) (drop-put_mid (slot * w) w m y (k * w) le (omega arith) long)

  pub only_put : Only w slot m (put_mid (slot * w) w m y) y
  only_put = record {
    long = simp (length-append, length-take, length-drop) (omega arith);
    here = put_here;
    others = λ k ne. ⊎_elim (λ e. absurd (ne e)) (⊎_elim (put_below k) (put_above k)) (cases_order k slot);
  }

-- memories with equal pages are equal
page-at : (w k j : ℕ) (m : List ℕ) → j < w → get_or (page w k m) j 0 ≡ get_or m (k * w + j) 0
unfolding page
page-at w k j m h = get_or-take w (drop (k * w) m) j 0 h ∙ get_or-drop (k * w) m j 0

pub same_pages : (n w : ℕ) (m₁ m₂ : List ℕ) → 0 < w → length m₁ ≡ n * w → length m₂ ≡ n * w → ((k : ℕ) → k < n → page w k m₁ ≡ page w k m₂) → m₁ ≡ m₂
same_pages n w m₁ m₂ some long₁ long₂ same =
    ext_get_or 0 m₁ m₂ (long₁ ∙ sym long₂) (λ i h.
    let at : i / w * w + i % w ≡ i = div-add-mod' i w in
    let j-lt : i % w < w = mod-lt i some in
    let i_lt : i < n * w = omega (arith, long₁) in
    let k_lt : i / w < n = (div-lt_iff_lt-mul some).1 i_lt in
    ap (λ x. get_or m₁ x 0) (sym at) ∙ sym (page-at w (i / w) (i % w) m₁ j-lt)
    ∙ ap (λ p. get_or p (i % w) 0) (same (i / w) k_lt)
    ∙ page-at w (i / w) (i % w) m₂ j-lt ∙ ap (λ x. get_or m₂ x 0) at)

-- a part of a page's bounds is its page
pub part-page : (w k : ℕ) (m : List ℕ) (s e : ℕ) → s ≡ k * w → e ≡ k * w + w → take (e - s) (drop s m) ≡ page w k m
part-page w k m s e p q = rw (p, q) (sym (page-between w k m))

-- a write to a part of a page's bounds
pub only_part : (w slot : ℕ) (m y : List ℕ) (s e : ℕ) (z : List ℕ) → s ≡ slot * w → e ≡ slot * w + w → length y ≡ w → slot * w + w ≤ length m → y ≡ z → Only w slot m (put_mid s (e - s) m y) z
only_part w slot m y s e z p q long within same =
    let k : e - s ≡ w = omega arith in
    let base = only_put w slot m y long within in
    subst (Only w slot m (put_mid s (e - s) m y)) same (subst (λ a. Only w slot m (put_mid a (e - s) m y) y) (sym p) (subst (λ b. Only w slot m (put_mid (slot * w) b m y) y) (sym k) base))

pub page_long : (w k : ℕ) (m : List ℕ) → k * w + w ≤ length m → length (page w k m) ≡ w
unfolding page
page_long w k m h = simp (length-take, length-drop) (omega arith)

pub part_long : (w k : ℕ) (m : List ℕ) (s e : ℕ) → s ≡ k * w → e ≡ k * w + w → k * w + w ≤ length m → length (take (e - s) (drop s m)) ≡ w
part_long w k m s e p q h = ap length (part-page w k m s e p q) ∙ page_long w k m h

-- written for one slot, memories that differ in that slot alone are the same
pub same_only : (n w slot : ℕ) (m m' x x' y : List ℕ) → 0 < w → length m ≡ n * w → length x ≡ n * w → ((k : ℕ) → (k ≡ slot → ⊥) → page w k x ≡ page w k m) → Only w slot m m' y → Only w slot x x' y → x' ≡ m'
same_only n w slot m m' x x' y some long₁ long₂ alike only₁ only₂ =
    same_pages n w x' m' some (only₂.long ∙ long₂) (only₁.long ∙ long₁) (λ k h. ⊎_elim
    (λ (e : k ≡ slot). ap (λ j. page w j x') e ∙ only₂.here ∙ sym only₁.here ∙ ap (λ j. page w j m') (sym e))
    (λ (ne : k ≡ slot → ⊥). only₂.others k ne ∙ alike k ne ∙ sym (only₁.others k ne))
    (cases_eq k slot))
