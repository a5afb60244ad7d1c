-- What it is to write a text into a buffer.
use Rattle.std.specs.Prelude.{◌≡◌, ℕ, ◌+◌, List, ◌++◌, length, take, drop}

-- the text stands in the buffer from `at` on, up to `end`, and no other byte has changed
pub record Written (old : List ℕ) (at : ℕ) (text new : List ℕ) (end : ℕ) : Type 0 where
  pub after : new ≡ take at old ++ (text ++ drop (at + length text) old)
  pub stops : end ≡ at + length text
