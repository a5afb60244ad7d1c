-- Blocks, di-blocks, and the bytes that they stand for.
use Rattle.std.specs.Prelude.{ℕ, zero, suc, ◌/◌, ◌%◌, ◌^◌, ◌<◌, List, [], ◌∷◌, ◌++◌, take, drop, bit_xor}
use Rattle.std.specs.Int.Digits.{number_from_digits}
use Rattle.block.specs.declared.diblock.DiBlock.{DiBlock}

-- a block is a number of 128 bits
abbrev pub IsBlock : ℕ → Type 0
IsBlock x = x < 2 ^ 128

-- the last k bytes of a number, high byte first
abbrev pub bytes : ℕ → ℕ → List ℕ
bytes zero n = []
bytes (suc k) n = n / 256 ^ k % 256 ∷ bytes k n

-- the block that the first 16 bytes write
abbrev pub block : List ℕ → ℕ
block m = number_from_digits 256 (take 16 m)

abbrev pub di : ℕ → ℕ → DiBlock
di l r = record { left = l; right = r }

-- the sum of two di-blocks
abbrev pub add : DiBlock → DiBlock → DiBlock
add a b = di (bit_xor a.left b.left) (bit_xor a.right b.right)

-- the di-block that the first 32 bytes write, and its bytes
abbrev pub read : List ℕ → DiBlock
read m = di (block m) (block (drop 16 m))

abbrev pub write : DiBlock → List ℕ
write d = bytes 16 d.left ++ bytes 16 d.right

-- the first n di-blocks of a message, and the bytes of a list of them
abbrev pub reads : ℕ → List ℕ → List DiBlock
reads zero m = []
reads (suc n) m = read m ∷ reads n (drop 32 m)

abbrev pub writes : List DiBlock → List ℕ
writes [] = []
writes (d ∷ ds) = write d ++ writes ds
