-- The mode, step by step. A message has ℓ full di-blocks (L_1, R_1) to (L_ℓ, R_ℓ) and a tail.
use Rattle.std.specs.Prelude.{ℕ, zero, suc, ◌+◌, ◌/◌, ◌%◌, ◌^◌, List, [], ◌∷◌, map, length, bit_xor}
use Prim.Native.String.{String}
use Rattle.block.specs.declared.diblock.DiBlock.{DiBlock}
use Rattle.block.specs.Blocks.{di, add, write}
use Rattle.block.specs.Alpha.{Σα}
use Rattle.mode.specs.Parts.{Parts, parts, split, join, onto, padded}

-- f i d for each di-block d, with i counting up from the number given
abbrev pub each : (ℕ → DiBlock → DiBlock) → ℕ → List DiBlock → List DiBlock
each f i [] = []
each f i (d ∷ ds) = f i d ∷ each f (suc i) ds

abbrev pub lefts : List DiBlock → List ℕ
lefts = map (λ d. d.left)

abbrev pub rights : List DiBlock → List ℕ
rights = map (λ d. d.right)

abbrev pub both : List DiBlock → List ℕ
both = map (λ d. bit_xor d.left d.right)

-- X_L*, the sum of α^(ℓ-1-i) X_i, and X_R*, the sum of α^(2(ℓ-1-i)) (X_i + R_i), from the pairs (X_i, R_i)
abbrev pub xstar : List DiBlock → DiBlock
xstar xs = di (Σα 1 (lefts xs)) (Σα 2 (both xs))

-- Y_L*, the sum of α^(2(ℓ-1-k)) (Y_k + L'_k), and Y_R*, the sum of α^(ℓ-1-k) Y_k, from the pairs (L'_k, Y_k)
abbrev pub ystar : List DiBlock → DiBlock
ystar ys = di (Σα 2 (both ys)) (Σα 1 (rights ys))

-- E encrypts and D decrypts: each takes a domain's name, an index, a body and a block
module _ (E : String → ℕ → ℕ → ℕ → ℕ) where
  -- H(i; u, v)
  abbrev pub hash : ℕ → DiBlock → DiBlock
  hash i d = di (E "p" i d.right d.left) (E "p" (i + 1) d.right d.left)

  -- what a tail adds to the last full di-block in step 1, with i = 0, and in step 7, with i = 4
  abbrev pub hash_of_tail : ℕ → List ℕ → DiBlock
  hash_of_tail i [] = di 0 0
  hash_of_tail i (b ∷ bs) = hash i (padded (b ∷ bs))

  -- step 2: (L_i, R_i) becomes (X_i, R_i)
  abbrev pub top : ℕ → DiBlock → DiBlock
  top i d = di (E "t" i d.right d.left) d.right

  -- a pair of sums, each encrypted with the other for its body, under n = ℓ: steps 2 and 5
  abbrev pub crossed : String → String → ℕ → DiBlock → DiBlock
  crossed left right n s = di (E left n s.right s.left) (E right n s.left s.right)

  -- X_L and X_R; Y_L and Y_R
  abbrev pub xsums : ℕ → List DiBlock → DiBlock
  xsums n xs = crossed "xL" "xR" n (xstar xs)

  abbrev pub ysums : ℕ → List DiBlock → DiBlock
  ysums n ys = crossed "yL" "yR" n (ystar ys)

  -- step 3: (S, T), from the last full di-block with (X_L, X_R) added
  abbrev pub mix : ℕ → DiBlock → DiBlock
  mix n d = let s = E "ts" n d.right d.left in di s (E "ss" n s d.right)

  -- step 4: S_j, from S
  abbrev pub chain : ℕ → ℕ → ℕ
  chain s zero = s
  chain s (suc j) = E "s" 0 (suc j % 2 ^ 128) (chain s j)

  -- step 5 with T and S_j: (X_k, R_k) becomes (L'_k, Y_k)
  abbrev pub masked : ℕ → ℕ → ℕ → DiBlock → DiBlock
  masked t s k d = let z = E "c" k t s in di (bit_xor d.left z) (bit_xor (bit_xor d.right z) s)

  -- the same with (S, T), where j is k / 128 rounded up
  abbrev pub mask : DiBlock → ℕ → DiBlock → DiBlock
  mask st k d = masked st.right (chain st.left ((k + 127) / 128)) k d

  -- step 5: (L'_k, Y_k) becomes (L'_k, R'_k)
  abbrev pub bottom : ℕ → DiBlock → DiBlock
  bottom k d = di d.left (E "b" k d.left d.right)

  -- step 6: (C_L, C_R), from (S, T)
  abbrev pub close : ℕ → DiBlock → DiBlock
  close n st = let c = E "cs" n st.right st.left in di c (E "bs" n c st.right)

  -- steps 2 to 6, on the full di-blocks before the last and on the last
  abbrev pub core : List DiBlock → DiBlock → List DiBlock × DiBlock
  core ds last =
      let n = suc (length ds) in
      let xs = each top 1 ds in
      let st = mix n (add last (xsums n xs)) in
      let ys = each (mask st) 1 xs in
      (each bottom 1 ys, add (close n st) (ysums n ys))

  -- step 1, steps 2 to 6, step 7
  abbrev pub encipher_parts : Parts → Parts
  encipher_parts p =
      let last = add p.last (hash_of_tail 0 p.tail) in
      let c = core p.front last in
      let tail = onto p.tail (write (hash 2 (add last c.1))) in
      parts c.0 (add c.1 (hash_of_tail 4 tail)) tail

  abbrev pub encipher : List ℕ → List ℕ
  encipher m = join (encipher_parts (split m))

  -- the steps taken back
  module _ (D : String → ℕ → ℕ → ℕ → ℕ) where
    abbrev pub untop : ℕ → DiBlock → DiBlock
    untop i d = di (D "t" i d.right d.left) d.right

    abbrev pub unmix : ℕ → DiBlock → DiBlock
    unmix n st = let r = D "ss" n st.left st.right in di (D "ts" n r st.left) r

    abbrev pub unbottom : ℕ → DiBlock → DiBlock
    unbottom k d = di d.left (D "b" k d.left d.right)

    abbrev pub unclose : ℕ → DiBlock → DiBlock
    unclose n c = let t = D "bs" n c.left c.right in di (D "cs" n t c.left) t

    abbrev pub uncore : List DiBlock → DiBlock → List DiBlock × DiBlock
    uncore ds last =
        let n = suc (length ds) in
        let ys = each unbottom 1 ds in
        let st = unclose n (add last (ysums n ys)) in
        let xs = each (mask st) 1 ys in
        (each untop 1 xs, add (unmix n st) (xsums n xs))

    abbrev pub decipher_parts : Parts → Parts
    decipher_parts p =
        let last = add p.last (hash_of_tail 4 p.tail) in
        let c = uncore p.front last in
        let tail = onto p.tail (write (hash 2 (add c.1 last))) in
        parts c.0 (add c.1 (hash_of_tail 0 tail)) tail

    abbrev pub decipher : List ℕ → List ℕ
    decipher m = join (decipher_parts (split m))
