-- Numbers with commas between them.
use Rattle.std.proofs.Common.{◌≡◌, ℕ, zero, suc, ◌+◌, ◌*◌, ◌<◌, ◌≤◌, List, [], ◌∷◌, ◌++◌, length, get_or, take, drop, set, decimal, Some, None, Option, sym, refl, ap, ◌∙◌, subst, ⊎_elim, append_assoc, add-one, arith}
use Rattle.std.specs.List.{AllByRecursion}
use Rattle.std.proofs.ByRecursion.{All-push, All-get_or}
use Rattle.std.proofs.lemmas.List.{length-append, take_more_set, length-set}
use Rattle.std.proofs.lemmas.Bool.{cases_lt}
use Rattle.text.specs.Texts.{Small, Free, Cut, listed}
use Rattle.text.proofs.Cuts.{same_cut, no_cut}
use Rattle.text.proofs.Digits.{numeral_free, numeral_short, same_numeral}

-- each number and a comma
unfoldable pub heads : List ℕ → List ℕ
heads [] = []
heads (n ∷ ns) = decimal n ++ (44 ∷ heads ns)

pub heads-push : (xs : List ℕ) (n : ℕ) → heads (xs ++ (n ∷ [])) ≡ heads xs ++ (decimal n ++ (44 ∷ []))
unfolding heads
heads-push [] n = refl
heads-push (x ∷ xs) n = ap (λ t. decimal x ++ (44 ∷ t)) (heads-push xs n) ∙ sym (append_assoc (decimal x) (44 ∷ heads xs) (decimal n ++ (44 ∷ [])))

pub listed-push : (xs : List ℕ) (n : ℕ) → listed (xs ++ (n ∷ [])) ≡ heads xs ++ decimal n
unfolding heads listed
listed-push [] n = refl
listed-push (x ∷ []) n = sym (append_assoc (decimal x) (44 ∷ []) (decimal n))
listed-push (x ∷ (y ∷ xs)) n = ap (λ t. decimal x ++ (44 ∷ t)) (listed-push (y ∷ xs) n) ∙ sym (append_assoc (decimal x) (44 ∷ heads (y ∷ xs)) (decimal n))

heads_listed : (x : ℕ) (xs : List ℕ) → heads (x ∷ xs) ≡ listed (x ∷ xs) ++ (44 ∷ [])
unfolding heads listed
heads_listed x [] = refl
heads_listed x (y ∷ xs) = ap (λ t. decimal x ++ (44 ∷ t)) (heads_listed y xs) ∙ sym (append_assoc (decimal x) (44 ∷ listed (y ∷ xs)) (44 ∷ []))

-- one more number after some
pub listed_push_more : (xs : List ℕ) (n : ℕ) → 0 < length xs → listed (xs ++ (n ∷ [])) ≡ listed xs ++ (44 ∷ decimal n)
listed_push_more [] n h = absurd (omega arith)
listed_push_more (x ∷ xs) n h = listed-push (x ∷ xs) n ∙ ap (λ t. t ++ decimal n) (heads_listed x xs) ∙ append_assoc (listed (x ∷ xs)) (44 ∷ []) (decimal n)

pub listed_more : (ns : List ℕ) (i : ℕ) → i + 1 < length ns → listed (drop i ns) ≡ decimal (get_or ns i 0) ++ (44 ∷ listed (drop (i + 1) ns))
unfolding listed
listed_more [] i h = absurd (omega arith)
listed_more (n ∷ []) i h = absurd (omega arith)
listed_more (n ∷ (m ∷ ns)) zero h = refl
listed_more (n ∷ (m ∷ ns)) (suc i) h = rw add-one (rw add-one at (listed_more (m ∷ ns) i (omega arith)))

pub listed_last : (ns : List ℕ) (i : ℕ) → i + 1 ≡ length ns → listed (drop i ns) ≡ decimal (get_or ns i 0)
unfolding listed
listed_last [] i h = absurd (omega arith)
listed_last (n ∷ []) zero h = refl
listed_last (n ∷ []) (suc i) h = absurd (omega arith)
listed_last (n ∷ (m ∷ ns)) zero h = absurd (omega arith)
listed_last (n ∷ (m ∷ ns)) (suc i) h = listed_last (m ∷ ns) i (omega arith)

-- five digits a number, and the commas
pub length-listed : (ns : List ℕ) → AllByRecursion Small ns → length (listed ns) ≤ 6 * length ns
unfolding listed
length-listed [] h = omega arith
length-listed (n ∷ []) h = omega (arith, numeral_short (decimal n) n h.0 refl)
length-listed (n ∷ (m ∷ ns)) h = omega (arith, numeral_short (decimal n) n h.0 refl, length-listed (m ∷ ns) h.1, length-append (decimal n) (44 ∷ listed (m ∷ ns)))

-- that piece is number i of the numbers ns, and what follows is the text of the numbers after it
abbrev Shows : List ℕ → ℕ → List ℕ → Option (List ℕ) → Type 0
Shows ns i piece None = (piece ≡ decimal (get_or ns i 0)) × (i + 1 ≡ length ns)
Shows ns i piece (Some more) = (piece ≡ decimal (get_or ns i 0)) × (i + 1 < length ns) × (more ≡ listed (drop (i + 1) ns))

shows : (ns piece : List ℕ) (i : ℕ) (more : Option (List ℕ)) → i < length ns → Small (get_or ns i 0) → Free piece → Cut (listed (drop i ns)) piece more → Shows ns i piece more
shows ns piece i None l small free cut =
    ⊎_elim
    (λ (h : i + 1 < length ns). absurd (no_cut piece (decimal (get_or ns i 0)) (listed (drop (i + 1) ns)) free (sym cut ∙ listed_more ns i h)))
    (λ (h : length ns ≤ i + 1). let last : i + 1 ≡ length ns = omega arith in (sym cut ∙ listed_last ns i last, last))
    (cases_lt (i + 1) (length ns))
shows ns piece i (Some more) l small free cut =
    ⊎_elim
    (λ (h : i + 1 < length ns).
    let same = same_cut piece more (decimal (get_or ns i 0)) (listed (drop (i + 1) ns)) free (numeral_free (get_or ns i 0) small) (sym cut ∙ listed_more ns i h) in
    (same.0, h, same.1))
    (λ (h : length ns ≤ i + 1). absurd (no_cut (decimal (get_or ns i 0)) piece more (numeral_free (get_or ns i 0) small) (sym (listed_last ns i (omega arith)) ∙ cut)))
    (cases_lt (i + 1) (length ns))

-- as many small numbers as there is room for, with this text
abbrev Writes : List ℕ → List ℕ → List ℕ → Type 0
Writes bs out ns = (length ns ≡ length out) × AllByRecursion Small ns × (bs ≡ listed ns)

-- the numbers read so far, and what is left of the text, if anything: that of the numbers which are not yet read
abbrev pub Reading : List ℕ → List ℕ → ℕ → Option (List ℕ) → Type 0
Reading bs out i None = AllByRecursion Small (take i out) × (bs ≡ listed (take i out)) × ((ns : List ℕ) → Writes bs out ns → i ≡ length out)
Reading bs out i (Some rest) =
    AllByRecursion Small (take i out) × (bs ≡ heads (take i out) ++ rest) × ((ns : List ℕ) → Writes bs out ns → (i < length out) × (rest ≡ listed (drop i ns)))

pub reading_none : (bs out : List ℕ) → 0 < length out → Reading bs out 0 (Some bs)
unfolding heads
reading_none bs out some = (tt, refl, λ ns w. (some, w.2))

module _ (bs out : List ℕ) (i : ℕ) (l : i < length out) (rest piece : List ℕ) (more : Option (List ℕ)) (h : Reading bs out i (Some rest)) (free : Free piece) (cut : Cut rest piece more) where
  next : (ns : List ℕ) → Writes bs out ns → Shows ns i piece more
  next ns w = shows ns piece i more (omega (arith, w.0)) (All-get_or Small ns i 0 (omega (arith, w.0)) w.1) free (subst (λ t. Cut t piece more) ((h.2 ns w).1) cut)

  is : (ns : List ℕ) → Writes bs out ns → piece ≡ decimal (get_or ns i 0)
  is ns w = elim more as (λ m. Shows ns i piece m → piece ≡ decimal (get_or ns i 0)) [ None ↦ λ s. s.0 | Some m ↦ λ s. s.0 ] (next ns w)

  pub unread : ((n : ℕ) → Small n → piece ≡ decimal n → ⊥) → (ns : List ℕ) → Writes bs out ns → ⊥
  unread none ns w = none (get_or ns i 0) (All-get_or Small ns i 0 (omega (arith, w.0)) w.1) (is ns w)

pub reading_more : (bs out rest piece : List ℕ) (i n : ℕ) (more : Option (List ℕ)) → i < length out → Reading bs out i (Some rest) → Free piece → Cut rest piece more → Small n → piece ≡ decimal n → Reading bs (set out i n) (i + 1) more
reading_more bs out rest piece i n more l h free cut small e =
    let t : take (i + 1) (set out i n) ≡ take i out ++ (n ∷ []) = take_more_set out i n l in
    let all : AllByRecursion Small (take (i + 1) (set out i n)) = rw t (All-push Small (take i out) n h.0 small) in
    let back : (ns : List ℕ) → Writes bs (set out i n) ns → Writes bs out ns = λ ns w. (w.0 ∙ length-set out i n, w.1, w.2) in
    step more all t back cut (λ ns w. next bs out i l rest piece more h free cut ns (back ns w))
  where
    step : (more : Option (List ℕ)) → AllByRecursion Small (take (i + 1) (set out i n)) → take (i + 1) (set out i n) ≡ take i out ++ (n ∷ []) → ((ns : List ℕ) → Writes bs (set out i n) ns → Writes bs out ns) → Cut rest piece more → ((ns : List ℕ) → Writes bs (set out i n) ns → Shows ns i piece more) → Reading bs (set out i n) (i + 1) more
    step None all t back cut shown = (
      all,
      h.1 ∙ ap (λ x. heads (take i out) ++ x) (cut ∙ e) ∙ sym (listed-push (take i out) n) ∙ ap listed (sym t),
      λ ns w. (shown ns w).1 ∙ w.0,
    )
    step (Some m) all t back cut shown = (
      all,
      h.1 ∙ ap (λ x. heads (take i out) ++ x) (cut ∙ ap (λ x. x ++ (44 ∷ m)) e ∙ sym (append_assoc (decimal n) (44 ∷ []) m))
          ∙ sym (append_assoc (heads (take i out)) (decimal n ++ (44 ∷ [])) m)
          ∙ ap (λ x. x ++ m) (sym (heads-push (take i out) n) ∙ ap heads (sym t)),
      λ ns w. (omega (arith, (shown ns w).1, w.0), (shown ns w).2),
    )

-- equally many numbers with one text are the same numbers
pub listed_same : (xs ys : List ℕ) → length xs ≡ length ys → AllByRecursion Small xs → AllByRecursion Small ys → listed xs ≡ listed ys → xs ≡ ys
unfolding listed
listed_same [] [] l p q e = refl
listed_same [] (y ∷ ys) l p q e = absurd (omega arith)
listed_same (x ∷ xs) [] l p q e = absurd (omega arith)
listed_same (x ∷ []) (y ∷ []) l p q e = ap (λ n. n ∷ []) (same_numeral x y p.0 q.0 e)
listed_same (x ∷ []) (y ∷ (y' ∷ ys)) l p q e = absurd (omega arith)
listed_same (x ∷ (x' ∷ xs)) (y ∷ []) l p q e = absurd (omega arith)
listed_same (x ∷ (x' ∷ xs)) (y ∷ (y' ∷ ys)) l p q e =
    let s = same_cut (decimal x) (listed (x' ∷ xs)) (decimal y) (listed (y' ∷ ys)) (numeral_free x p.0) (numeral_free y q.0) e in
    let h = same_numeral x y p.0 q.0 s.0 in
    let t = listed_same (x' ∷ xs) (y' ∷ ys) (omega arith) p.1 q.1 s.1 in cc
