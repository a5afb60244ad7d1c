-- A message in its parts: full di-blocks of 32 bytes, and a tail of 0 to 31 bytes.
use Rattle.std.specs.Prelude.{ℕ, ◌+◌, ◌-◌, ◌*◌, ◌/◌, List, [], ◌∷◌, ◌++◌, length, drop, replicate, bit_xor}
use Rattle.block.specs.declared.diblock.DiBlock.{DiBlock}
use Rattle.block.specs.Blocks.{read, write, reads, writes}

-- the full di-blocks before the last, the last full di-block, and the tail
pub record Parts : Type 0 where
  pub front : List DiBlock
  pub last : DiBlock
  pub tail : List ℕ

abbrev pub parts : List DiBlock → DiBlock → List ℕ → Parts
parts f l t = record { front = f; last = l; tail = t }

abbrev pub split : List ℕ → Parts
split m =
    let n = length m / 32 - 1 in
    parts (reads n m) (read (drop (32 * n) m)) (drop (32 * n + 32) m)

abbrev pub join : Parts → List ℕ
join p = writes p.front ++ (write p.last ++ p.tail)

-- the first bytes of a mask added to a tail
abbrev pub onto : List ℕ → List ℕ → List ℕ
onto [] mask = []
onto (b ∷ bs) [] = b ∷ bs
onto (b ∷ bs) (m ∷ ms) = bit_xor b m ∷ onto bs ms

-- a tail, one byte 80 hexadecimal, and zeros up to 32 bytes
abbrev pub padded : List ℕ → DiBlock
padded t = read (t ++ (0x80 ∷ replicate (31 - length t) 0))
