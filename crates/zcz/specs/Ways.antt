-- What a way through the mode is made of: a cipher's two functions, and a step on a di-block under its number.
use Rattle.std.specs.Prelude.{ℕ}
use Rattle.block.specs.declared.diblock.DiBlock.{DiBlock}

-- from a head, a body and a block
abbrev pub Function : Type 0
Function = ℕ → ℕ → ℕ → ℕ

abbrev pub Step : Type 0
Step = ℕ → DiBlock → DiBlock
