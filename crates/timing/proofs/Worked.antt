-- What is left in 64 bytes whose block has gone through n steps.
use Rattle.std.proofs.Common.{◌≡◌, ℕ, eqb, List, length, sym, ◌∙◌}
use Rattle.std.proofs.lemmas.Bool.{eq-eqb, cond-true}
use Rattle.block.specs.declared.diblock.DiBlock.{DiBlock}
use Rattle.block.specs.Blocks.{block, di}
use Rattle.block.specs.Places.{at, put}
use Rattle.timing.specs.Repeats.{iterated, turned, worked}

pub worked_is : (f : ℕ → ℕ → ℕ → ℕ → ℕ) (n : ℕ) (w w' : List ℕ) (key x : ℕ) (upper rest : DiBlock) → length w ≡ 64 → key ≡ block w → upper ≡ at w 0 → rest ≡ at w 1
    → x ≡ iterated n (f key upper.right rest.left) rest.right → w' ≡ put w 1 (di rest.left x) → w' ≡ worked f n w
worked_is f n w w' key x upper rest long k u r p q =
    let wrote : w' ≡ turned (f (block w)) n w = cc in
    wrote ∙ sym (cond-true (eqb (length w) 64) (turned (f (block w)) n w) w (eq-eqb (length w) 64 long))
