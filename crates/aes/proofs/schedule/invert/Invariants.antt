use Rattle.std.proofs.Common.{◌≡◌, ◌++◌, map, take, drop}
use Rattle.aes.specs.Aes.{inv_mixed_columns}
use Rattle.aes.specs.Words.{state}
use Rattle.aes.proofs.schedule.invert.Given as goal

-- what is done, and what is left to do, is the whole
abbrev pub invariant-loop-k : goal.invariant-loop-k
invariant-loop-k l =
    map state (take l.k-index l.k-items) ++ map (λ k. inv_mixed_columns (state k)) (drop l.k-index l.k-items)
    ≡ map (λ k. inv_mixed_columns (state k)) l.initial.k-items
