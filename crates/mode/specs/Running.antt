-- The mode as it runs over a message in place: di-blocks changed one after another, and sums gathered on the way.
-- Lemmas tie these to the steps; nothing that a public call promises is said in these words.
use Rattle.std.specs.Prelude.{ℕ, suc, ◌*◌, ◌/◌, ◌%◌, ◌^◌, cond, List, ◌++◌, length, drop, ◌==◌, bit_xor}
use Prim.Native.String.{String}
use Rattle.block.specs.declared.diblock.DiBlock.{DiBlock}
use Rattle.block.specs.Blocks.{di, add, reads, writes}
use Rattle.block.specs.Alpha.{α}
use Rattle.mode.specs.Parts.{Parts, parts, onto}
use Rattle.mode.specs.Mode.{each}

-- the first n di-blocks changed by f, numbered from 1, and the rest as it was
abbrev pub passed : (ℕ → DiBlock → DiBlock) → ℕ → List ℕ → List ℕ
passed f n m = writes (each f 1 (reads n m)) ++ drop (32 * n) m

-- one di-block more in the sums of step 2
abbrev pub xmore : DiBlock → DiBlock → DiBlock
xmore s x = di (bit_xor (α s.left) x.left) (bit_xor (α (α s.right)) (bit_xor x.left x.right))

-- one di-block more in the sums of step 5
abbrev pub ymore : DiBlock → DiBlock → DiBlock
ymore s y = di (bit_xor (α (α s.left)) (bit_xor y.left y.right)) (bit_xor (α s.right) y.right)

-- the link of step 4's chain for place i, from 0, where s is the one for the place before: a new one every 128 places
abbrev pub link : (String → ℕ → ℕ → ℕ → ℕ) → ℕ → ℕ → ℕ
link E i s = cond (i % 128 == 0) (E "s" 0 (suc (i / 128) % 2 ^ 128) s) s

-- a di-block changed by f, and then by g
abbrev pub then_on : (ℕ → DiBlock → DiBlock) → (ℕ → DiBlock → DiBlock) → ℕ → DiBlock → DiBlock
then_on f g i d = g i (f i d)

-- steps 2 to 6 and their reverse run alike: a layer A, M on the last di-block with the sums s of what A made, a mask K, a
-- layer B, and C on the last di-block with the sums t of what the mask made
abbrev pub sandwich : (A M : ℕ → DiBlock → DiBlock) (K : DiBlock → ℕ → DiBlock → DiBlock) (C B : ℕ → DiBlock → DiBlock) (s t : ℕ → List DiBlock → DiBlock) → List DiBlock → DiBlock → List DiBlock × DiBlock
sandwich A M K C B s t ds l =
    let n = suc (length ds) in
    let xs = each A 1 ds in
    let st = M n (add l (s n xs)) in
    let ys = each (K st) 1 xs in
    (each B 1 ys, add (C n st) (t n ys))

-- these with a tail: it adds a to the last di-block before, is masked by mid, and adds b after
abbrev pub wrap : (f : List DiBlock → DiBlock → List DiBlock × DiBlock) (a b : List ℕ → DiBlock) (mid : DiBlock → DiBlock → List ℕ) → Parts → Parts
wrap f a b mid p =
    let l = add p.last (a p.tail) in
    let c = f p.front l in
    let t = onto p.tail (mid l c.1) in
    parts c.0 (add c.1 (b t)) t

-- a pair of blocks, of which each is encrypted with the other for its body, under names of any form
abbrev pub crossed_by : {N : Type 0} → (N → ℕ → ℕ → ℕ → ℕ) → N → N → ℕ → DiBlock → DiBlock
crossed_by E left right n s = di (E left n s.right s.left) (E right n s.left s.right)

-- the left block encrypted with the right for its body, and then the right with the new left
abbrev pub chained : {N : Type 0} → (N → ℕ → ℕ → ℕ → ℕ) → N → N → ℕ → DiBlock → DiBlock
chained E first second n d = let l = E first n d.right d.left in di l (E second n l d.right)

-- and back: the right block with the left for its body, and then the left with the new right
abbrev pub unchained : {N : Type 0} → (N → ℕ → ℕ → ℕ → ℕ) → N → N → ℕ → DiBlock → DiBlock
unchained D first second n d = let r = D second n d.left d.right in di (D first n r d.left) r
