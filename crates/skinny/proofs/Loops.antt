-- The steps of the loops over pairs of rounds.
use Rattle.std.proofs.Common.{◌≡◌, ℕ, suc, ◌+◌, ◌-◌, ◌*◌, ◌<◌, ◌≤◌, List, [], ◌∷◌, ◌++◌, length, get_or, take, drop, set, sym, refl, ap, ◌∙◌, ap₂, append_assoc, append-nil, arith}
use Rattle.std.proofs.lemmas.List.{take_more_set, take_all, drop_more, drop_all, drop-set-lt}
use Rattle.skinny.specs.Skinny.{Cells, add, top, constant_at, constant_cells, step3, round_of, rounds, unround_of, unrounds}
use Rattle.skinny.specs.Running.{bottom, twice, twice2, key_part}
use Rattle.skinny.specs.Pairs.{in_turn}
use Rattle.skinny.specs.declared.schedule.RoundKeys.{RoundKeys}
use Rattle.skinny.proofs.TwoRounds.{tweaked_keys}

in_turn-append : (ks ls : List RoundKeys) → in_turn (ks ++ ls) ≡ in_turn ks ++ in_turn ls
in_turn-append [] ls = refl
in_turn-append (k ∷ ks) ls = ap (λ (xs : List Cells). k.even ∷ k.odd ∷ xs) (in_turn-append ks ls)

-- one more pair stored
in_turn-more : (ks : List RoundKeys) (i : ℕ) (k : RoundKeys) (rest : List Cells) → i < length ks
    → in_turn (take (i + 1) (set ks i k)) ++ rest ≡ in_turn (take i ks) ++ (k.even ∷ k.odd ∷ rest)
in_turn-more ks i k rest h =
    ap (λ (xs : List RoundKeys). in_turn xs ++ rest) (take_more_set ks i k h)
    ∙ ap (λ (xs : List Cells). xs ++ rest) (in_turn-append (take i ks) (k ∷ []))
    ∙ append_assoc (in_turn (take i ks)) (k.even ∷ k.odd ∷ []) rest

-- and all of them
pub stored_all : (ks : List RoundKeys) (i : ℕ) (rest all : List Cells) → length ks ≤ i → rest ≡ [] → in_turn (take i ks) ++ rest ≡ all → in_turn ks ≡ all
stored_all ks i rest all h none e =
    sym (append-nil (in_turn ks))
    ∙ ap₂ (λ (xs : List RoundKeys) (ys : List Cells). in_turn xs ++ ys) (sym (take_all i ks h)) (sym none)
    ∙ e

-- ---- the key's part

pub key_part_more : (t : Cells) (ks : List RoundKeys) (all : List Cells) (i : ℕ) (k : RoundKeys) → i < 28 → length ks ≡ 28
    → k.even ≡ add (top t) (constant_cells (constant_at (2 * i)))
    → k.odd ≡ add (top (step3 t)) (constant_cells (constant_at (2 * i + 1)))
    → in_turn (take i ks) ++ key_part (56 - 2 * i) (2 * i) t ≡ all
    → in_turn (take (i + 1) (set ks i k)) ++ key_part (56 - 2 * (i + 1)) (2 * (i + 1)) (step3 (step3 t)) ≡ all
unfolding key_part
key_part_more t ks all i k lt len even odd so_far =
    let l : i < length ks = omega arith in
    let left : 56 - 2 * i ≡ suc (suc (56 - 2 * (i + 1))) = omega arith in
    let next : 2 * i + 1 ≡ suc (2 * i) = omega arith in
    let after : 2 * (i + 1) ≡ suc (suc (2 * i)) = omega arith in
    let n : ℕ = 56 - 2 * (i + 1) in
    in_turn-more ks i k (key_part n (2 * (i + 1)) (step3 (step3 t))) l
    ∙ ap (λ (xs : List Cells). in_turn (take i ks) ++ xs)
    (λ x. even x ∷ (odd ∙ ap (λ (m : ℕ). add (top (step3 t)) (constant_cells (constant_at m))) next) x ∷ key_part n (after x) (step3 (step3 t)))
    ∙ ap (λ (m : ℕ). in_turn (take i ks) ++ key_part m (2 * i) t) (sym left)
    ∙ so_far

pub key_part_none : (i : ℕ) (t : Cells) → 28 ≤ i → key_part (56 - 2 * i) (2 * i) t ≡ []
unfolding key_part
key_part_none i t h = let z : 56 - 2 * i ≡ 0 = omega arith in ap (λ (n : ℕ). key_part n (2 * i) t) z

-- ---- with the tweak's part

-- what the pair at i adds
pub tweaked_more : (ks : List RoundKeys) (d : RoundKeys) (p q : Cells) (i : ℕ) → i < length ks
    → tweaked_keys (in_turn (drop i ks)) p q
    ≡ add (get_or ks i d).even (top (add p q)) ∷ add (get_or ks i d).odd (bottom (add (twice p) (twice2 q))) ∷ tweaked_keys (in_turn (drop (i + 1) ks)) (twice p) (twice2 q)
unfolding tweaked_keys
tweaked_more ks d p q i h = ap (λ (xs : List RoundKeys). tweaked_keys (in_turn xs) p q) (drop_more ks i d h)

pub tweaked_none : (ks : List RoundKeys) (p q : Cells) (i : ℕ) → length ks ≤ i → tweaked_keys (in_turn (drop i ks)) p q ≡ []
unfolding tweaked_keys
tweaked_none ks p q i h = ap (λ (xs : List RoundKeys). tweaked_keys (in_turn xs) p q) (drop_all i ks h)

-- the pair at i with the tweak's part, stored in its place
pub tweaked_stored : (ks : List RoundKeys) (d k : RoundKeys) (p q : Cells) (i : ℕ) (all : List Cells) → i < length ks
    → k.even ≡ add (get_or ks i d).even (top (add p q))
    → k.odd ≡ add (get_or ks i d).odd (bottom (add (twice p) (twice2 q)))
    → in_turn (take i ks) ++ tweaked_keys (in_turn (drop i ks)) p q ≡ all
    → in_turn (take (i + 1) (set ks i k)) ++ tweaked_keys (in_turn (drop (i + 1) (set ks i k))) (twice p) (twice2 q) ≡ all
tweaked_stored ks d k p q i all h even odd so_far =
    let past : i < i + 1 = omega arith in
    in_turn-more ks i k _ h
    ∙ ap (λ (xs : List Cells). in_turn (take i ks) ++ xs)
    ((λ x. even x ∷ odd x ∷ tweaked_keys (in_turn (drop-set-lt (i + 1) ks i k past x)) (twice p) (twice2 q)) ∙ sym (tweaked_more ks d p q i h))
    ∙ so_far

-- two rounds of those that are left
pub rounds_two : (ks : List RoundKeys) (d : RoundKeys) (p q x : Cells) (i : ℕ) → i < length ks
    → rounds (tweaked_keys (in_turn (drop i ks)) p q) x
    ≡ rounds (tweaked_keys (in_turn (drop (i + 1) ks)) (twice p) (twice2 q))
    (round_of (add (get_or ks i d).odd (bottom (add (twice p) (twice2 q)))) (round_of (add (get_or ks i d).even (top (add p q))) x))
unfolding rounds
rounds_two ks d p q x i h = ap (λ (xs : List Cells). rounds xs x) (tweaked_more ks d p q i h)

pub rounds_none : (ks : List RoundKeys) (p q x : Cells) (i : ℕ) → length ks ≤ i → rounds (tweaked_keys (in_turn (drop i ks)) p q) x ≡ x
unfolding rounds
rounds_none ks p q x i h = ap (λ (xs : List Cells). rounds xs x) (tweaked_none ks p q i h)

-- two rounds back, of those up to the pair k
pub unrounds_two : (ks : List RoundKeys) (k : RoundKeys) (s : Cells) → unrounds (in_turn ks) (unround_of k.even (unround_of k.odd s)) ≡ unrounds (in_turn (ks ++ (k ∷ []))) s
unfolding unrounds
unrounds_two [] k s = refl
unrounds_two (l ∷ ks) k s = ap (λ (x : Cells). unround_of l.even (unround_of l.odd x)) (unrounds_two ks k s)
