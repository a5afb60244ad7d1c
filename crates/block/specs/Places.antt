-- A di-block in its place in a message.
use Rattle.std.specs.Prelude.{ℕ, ◌+◌, ◌*◌, List, ◌++◌, take, drop}
use Rattle.block.specs.declared.diblock.DiBlock.{DiBlock}
use Rattle.block.specs.Blocks.{read, write}

-- the di-block at place i, from 0
abbrev pub at : List ℕ → ℕ → DiBlock
at m i = read (drop (32 * i) m)

-- the message with d at place i
abbrev pub put : List ℕ → ℕ → DiBlock → List ℕ
put m i d = take (32 * i) m ++ (write d ++ drop (32 * i + 32) m)
