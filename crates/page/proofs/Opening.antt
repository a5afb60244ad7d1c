-- Pages and what they say determine each other.
use Rattle.std.proofs.Common.{◌≡◌, ℕ, zero, suc, ◌+◌, ◌-◌, ◌≤◌, Bool, true, false, cond, ◌&&◌, eqb, List, [], ◌∷◌, ◌++◌, length, take, drop, replicate, Some, None, Ok, Err, Option, Result, sym, refl, ap, ◌∙◌, ap₂, arith}
use Rattle.std.specs.Int.Digits.{AllBelowBase}
use Rattle.std.specs.Str.{bytes_eq}
use Rattle.std.proofs.lemmas.Slice.Eq.{bytes_eq-Decides}
use Rattle.std.proofs.lemmas.List.{length-drop, length-take-le, take_at, drop_at, drop-drop, take-append-drop}
use Rattle.std.proofs.lemmas.Bool.{and_parts, eqb-true, eq-eqb, cond-true, cond-false}
use Rattle.block.proofs.OnBytes.{under_take, under_drop}
use Rattle.record.specs.declared.kind.Record as kind
use Rattle.record.specs.declared.fault.FieldFault.{FieldFault}
use Rattle.page.specs.declared.fault.PageFault.{PageFault}
use Rattle.page.specs.declared.fault.PageFault.TheVariants.{Head, Record}
use Rattle.page.specs.Pages.{head, plain, zeros, taken, opened}
use Rattle.page.specs.Laws.{Told}
use Rattle.page.proofs.Laying.{head_long}

zeros-replicate : (n : ℕ) → zeros (replicate n 0) ≡ true
zeros-replicate zero = refl
zeros-replicate (suc n) = zeros-replicate n

replicate-zeros : (xs : List ℕ) → zeros xs ≡ true → xs ≡ replicate (length xs) 0
replicate-zeros [] e = refl
replicate-zeros (x ∷ xs) e =
    let p = and_parts (eqb x 0) (zeros xs) e in
    ap₂ (λ a b. a ∷ b) (eqb-true x 0 p.0) (replicate-zeros xs p.1)

same_self : (xs : List ℕ) → bytes_eq xs xs ≡ true
same_self xs = (bytes_eq-Decides xs xs).1 refl

-- what two texts begin with alike does not tell them apart
same_after : (l xs ys : List ℕ) → bytes_eq (l ++ xs) (l ++ ys) ≡ bytes_eq xs ys
same_after [] xs ys = refl
same_after (x ∷ l) xs ys = ap (λ t. t && bytes_eq (l ++ xs) (l ++ ys)) (eq-eqb x x refl) ∙ same_after l xs ys

never : {R : Type 0} {P : Type 0} (e : PageFault) (o : Option R) → Err e ≡ Ok o → P
never e o q = let z : ◌≡◌ {A = ℕ} 0 1 = cc in absurd (omega arith)

module _ {R : Type 0} (𝓇 : kind.Ghosts R)
    (four : length 𝓇.LABEL ≡ 4)
    (narrow : (1 ≤ 𝓇.WIDTH) × (𝓇.WIDTH ≤ 48))
    (long : (r : R) → length (𝓇.written r) ≡ 𝓇.WIDTH)
    (readback : (r : R) → 𝓇.reading (𝓇.written r) ≡ Ok r)
    (writeback : (x : List ℕ) (r : R) → length x ≡ 𝓇.WIDTH → AllBelowBase 256 x → 𝓇.reading x ≡ Ok r → 𝓇.written r ≡ x) where
  head16 : (m s : ℕ) → length (head 𝓇 m s) ≡ 16
  head16 m s = head_long 𝓇.LABEL m s four

  opened_empty : (slot : ℕ) (x : List ℕ) → bytes_eq (take 16 x) (head 𝓇 0 slot) ≡ true → zeros (drop 16 x) ≡ true → opened 𝓇 slot x ≡ Ok None
  opened_empty slot x p q = cond-true (bytes_eq (take 16 x) (head 𝓇 0 slot)) _ _ p ∙ cond-true (zeros (drop 16 x)) _ _ q

  opened-held : (slot : ℕ) (x : List ℕ) → bytes_eq (take 16 x) (head 𝓇 0 slot) ≡ false → bytes_eq (take 16 x) (head 𝓇 1 slot) ≡ true
      → zeros (drop (16 + 𝓇.WIDTH) x) ≡ true → opened 𝓇 slot x ≡ taken (𝓇.reading (take 𝓇.WIDTH (drop 16 x)))
  opened-held slot x p q r =
      cond-false (bytes_eq (take 16 x) (head 𝓇 0 slot)) _ _ p
      ∙ cond-true (bytes_eq (take 16 x) (head 𝓇 1 slot)) _ _ q
      ∙ cond-true (zeros (drop (16 + 𝓇.WIDTH) x)) _ _ r

  there : (size slot : ℕ) (o : Option R) → 64 ≤ size → opened 𝓇 slot (plain 𝓇 size slot o) ≡ Ok o
  there size slot None h =
      let n : ℕ = size - 16 in
      let x : List ℕ = head 𝓇 0 slot ++ replicate n 0 in
      opened_empty slot x
      (ap (λ y. bytes_eq y (head 𝓇 0 slot)) (take_at (head 𝓇 0 slot) (replicate n 0) 16 (head16 0 slot)) ∙ same_self (head 𝓇 0 slot))
      (ap zeros (drop_at (head 𝓇 0 slot) (replicate n 0) 16 (head16 0 slot)) ∙ zeros-replicate n)
  there size slot (Some r) h =
      let w : ℕ = 𝓇.WIDTH in
      let n : ℕ = size - (16 + w) in
      let rest : List ℕ = 𝓇.written r ++ replicate n 0 in
      let x : List ℕ = head 𝓇 1 slot ++ rest in
      let front : take 16 x ≡ head 𝓇 1 slot = take_at (head 𝓇 1 slot) rest 16 (head16 1 slot) in
      let after : drop 16 x ≡ rest = drop_at (head 𝓇 1 slot) rest 16 (head16 1 slot) in
      opened-held slot x
      (ap (λ y. bytes_eq y (head 𝓇 0 slot)) front ∙ same_after 𝓇.LABEL _ _)
      (ap (λ y. bytes_eq y (head 𝓇 1 slot)) front ∙ same_self (head 𝓇 1 slot))
      (ap zeros (sym (drop-drop w 16 x) ∙ ap (drop w) after ∙ drop_at (𝓇.written r) (replicate n 0) w (long r)) ∙ zeros-replicate n)
      ∙ ap (λ y. taken (𝓇.reading y)) (ap (take w) after ∙ take_at (𝓇.written r) (replicate n 0) w (long r))
      ∙ ap taken (readback r)

  module _ (x : List ℕ) (slot : ℕ) (o : Option R) (h : 64 ≤ length x) (u : AllBelowBase 256 x) where
    -- what `opened` says, by its tests
    abbrev by : (empty rest held past : Bool) → Result R FieldFault → Result (Option R) PageFault
    by empty rest held past r = cond empty (cond rest (Ok None) (Err Head)) (cond held (cond past (taken r) (Err Head)) (Err Head))

    abbrev w : ℕ
    w = 𝓇.WIDTH

    empty_back : bytes_eq (take 16 x) (head 𝓇 0 slot) ≡ true → zeros (drop 16 x) ≡ true → plain 𝓇 (length x) slot None ≡ x
    empty_back p q =
        ap₂ (λ a b. a ++ b) (sym ((bytes_eq-Decides (take 16 x) (head 𝓇 0 slot)).0 p))
        (sym (replicate-zeros (drop 16 x) q ∙ ap (λ n. replicate n 0) (length-drop 16 x)))
        ∙ take-append-drop 16 x

    held_back : (r : R) → bytes_eq (take 16 x) (head 𝓇 1 slot) ≡ true → zeros (drop (16 + w) x) ≡ true → 𝓇.reading (take w (drop 16 x)) ≡ Ok r → plain 𝓇 (length x) slot (Some r) ≡ x
    held_back r p q e =
        let rest : List ℕ = drop 16 x in
        let wide : length (take w rest) ≡ w = length-take-le w rest (simp length-drop (let n = narrow.1 in omega arith)) in
        ap₂ (λ a b. a ++ b) (sym ((bytes_eq-Decides (take 16 x) (head 𝓇 1 slot)).0 p))
        (ap₂ (λ a b. a ++ b) (writeback (take w rest) r wide (under_take w rest (under_drop 16 x u)) e)
        (sym (replicate-zeros (drop (16 + w) x) q ∙ ap (λ n. replicate n 0) (length-drop (16 + w) x)) ∙ sym (drop-drop w 16 x))
        ∙ take-append-drop w rest)
        ∙ take-append-drop 16 x

    read_back : (t : Result R FieldFault) → bytes_eq (take 16 x) (head 𝓇 1 slot) ≡ true → zeros (drop (16 + w) x) ≡ true
        → 𝓇.reading (take w (drop 16 x)) ≡ t → taken t ≡ Ok o → plain 𝓇 (length x) slot o ≡ x
    read_back (Ok r) p q e f = let z : o ≡ Some r = cc in ap (plain 𝓇 (length x) slot) z ∙ held_back r p q e
    read_back (Err k) p q e f = never (Record k) o f

    go : (a b c d : Bool) → bytes_eq (take 16 x) (head 𝓇 0 slot) ≡ a → zeros (drop 16 x) ≡ b → bytes_eq (take 16 x) (head 𝓇 1 slot) ≡ c
        → zeros (drop (16 + w) x) ≡ d → by a b c d (𝓇.reading (take w (drop 16 x))) ≡ Ok o → plain 𝓇 (length x) slot o ≡ x
    go true true c d p q r s e = let z : o ≡ None = cc in ap (plain 𝓇 (length x) slot) z ∙ empty_back p q
    go true false c d p q r s e = never Head o e
    go false b true true p q r s e = read_back (𝓇.reading (take w (drop 16 x))) r s refl e
    go false b true false p q r s e = never Head o e
    go false b false d p q r s e = never Head o e

    back : opened 𝓇 slot x ≡ Ok o → plain 𝓇 (length x) slot o ≡ x
    back e = go (bytes_eq (take 16 x) (head 𝓇 0 slot)) (zeros (drop 16 x)) (bytes_eq (take 16 x) (head 𝓇 1 slot)) (zeros (drop (16 + w) x)) refl refl refl refl e

  pub told : Told 𝓇
  told = record { there = there; back = back }
