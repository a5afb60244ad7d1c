-- Sums of blocks and di-blocks: what is added twice is gone, and a sum of blocks is a block.
use Rattle.std.proofs.Common.{◌≡◌, ℕ, ◌+◌, ◌*◌, ◌^◌, List, [], ◌∷◌, sym, ap, ◌∙◌, ap₂, arith}
use lib.Bits.{bit_xor, xor_assoc, xor_comm, xor_self, xor_zero_r, xor_lt, xor_block}
use Rattle.block.specs.declared.diblock.DiBlock.{DiBlock}
use Rattle.block.specs.Blocks.{IsBlock, di, add}

pub cancel : (a b : ℕ) → bit_xor (bit_xor a b) b ≡ a
cancel a b = xor_assoc a b b ∙ ap (bit_xor a) (xor_self b) ∙ xor_zero_r a

-- two sums taken twice
pub cancel_two : (a z s : ℕ) → bit_xor (bit_xor (bit_xor (bit_xor a z) s) z) s ≡ a
cancel_two a z s =
    ap (λ x. bit_xor x s) (xor_assoc (bit_xor a z) s z ∙ ap (bit_xor (bit_xor a z)) (xor_comm s z) ∙ sym (xor_assoc (bit_xor a z) z s) ∙ ap (λ x. bit_xor x s) (cancel a z))
    ∙ cancel a s

pub xor-left : (a b c : ℕ) → bit_xor a (bit_xor b c) ≡ bit_xor b (bit_xor a c)
xor-left a b c = sym (xor_assoc a b c) ∙ ap (λ x. bit_xor x c) (xor_comm a b) ∙ xor_assoc b a c

pub xor-twice : (a b : ℕ) → bit_xor a (bit_xor a b) ≡ b
xor-twice a b = sym (xor_assoc a a b) ∙ ap (λ x. bit_xor x b) (xor_self a)

pub xor_four : (a b c d : ℕ) → bit_xor (bit_xor a b) (bit_xor c d) ≡ bit_xor (bit_xor a c) (bit_xor b d)
xor_four a b c d = simp (xor_comm, xor-left, xor_assoc)

-- doubling a number adds up
pub xor_two : (x y : ℕ) → 2 * bit_xor x y ≡ bit_xor (2 * x) (2 * y)
xor_two x y =
    let e : (n : ℕ) → n * 2 ^ 1 + 0 ≡ 2 * n = λ n. omega arith in
    sym (e (bit_xor x y)) ∙ sym (xor_block 1 x y 0 0 (omega arith) (omega arith)) ∙ ap₂ bit_xor (e x) (e y)

pub add-comm : (a b : DiBlock) → add a b ≡ add b a
add-comm a b = ap₂ di (xor_comm a.left b.left) (xor_comm a.right b.right)

pub add-add : (a b : DiBlock) → add (add a b) b ≡ a
add-add a b = ap₂ di (cancel a.left b.left) (cancel a.right b.right)

-- both halves are blocks; and so of each di-block, and of each number, of a list
abbrev pub Blocks : DiBlock → Type 0
Blocks d = IsBlock d.left × IsBlock d.right

abbrev pub AllBlocks : List DiBlock → Type 0
AllBlocks [] = Unit {0}
AllBlocks (d ∷ ds) = Blocks d × AllBlocks ds

abbrev pub Fit : List ℕ → Type 0
Fit [] = Unit {0}
Fit (x ∷ xs) = IsBlock x × Fit xs

pub fits_xor : (a b : ℕ) → IsBlock a → IsBlock b → IsBlock (bit_xor a b)
fits_xor a b p q = xor_lt 128 a b p q

pub fits_add : (a b : DiBlock) → Blocks a → Blocks b → Blocks (add a b)
fits_add a b p q = (fits_xor _ _ p.0 q.0, fits_xor _ _ p.1 q.1)
