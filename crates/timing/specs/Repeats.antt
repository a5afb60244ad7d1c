-- Calls repeated on their own results.
use Rattle.std.specs.Prelude.{ℕ, zero, suc, Bool, cond, List, length, ◌==◌}
use Rattle.block.specs.Blocks.{block, di}
use Rattle.block.specs.Places.{at, put}

abbrev pub iterated : {A : Type 0} → ℕ → (A → A) → A → A
iterated zero f x = x
iterated (suc n) f x = f (iterated n f x)

-- a key, a head, a body and a block in 64 bytes, with f of head and body applied n times to the block
abbrev pub turned : (ℕ → ℕ → ℕ → ℕ) → ℕ → List ℕ → List ℕ
turned f n w =
    let rest = at w 1 in
    put w 1 (di rest.left (iterated n (f (at w 0).right rest.left) rest.right))

-- the same under the key, which stands first; bytes of another length are left as they are
abbrev pub worked : (ℕ → ℕ → ℕ → ℕ → ℕ) → ℕ → List ℕ → List ℕ
worked f n w = cond (length w == 64) (turned (f (block w)) n w) w

-- a key and a block in 32 bytes, with f of the key applied n times to the block
abbrev pub paired : (ℕ → ℕ → ℕ) → ℕ → List ℕ → List ℕ
paired f n w =
    let pair = at w 0 in
    cond (length w == 32) (put w 0 (di pair.left (iterated n (f pair.left) pair.right))) w

-- 0 where what was handed is admitted, and 1 where it is not
abbrev pub told : Bool → ℕ
told admitted = cond admitted 0 1
