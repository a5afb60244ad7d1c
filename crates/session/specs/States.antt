-- What the bench program holds between two lines.
use Rattle.std.specs.Prelude.{ℕ, ◌*◌, List, take, drop, replicate, None, Option}
use Rattle.calls.specs.declared.geometry.Geometry.{Geometry}
use Rattle.ciphers.specs.declared.any.AnyCipher.{AnyCipher}

-- a formed store: its geometry, and the cipher that it holds
pub record Formed : Type 0 where
  pub geometry : Geometry
  pub cipher : AnyCipher

pub record State : Type 0 where
  pub formed : Option Formed
  pub memory : List ℕ
  pub working : List ℕ

-- at the start nothing is formed, and all bytes are zero
unfoldable pub start : State
start = record { formed = None; memory = replicate 32768 0; working = replicate 4096 0 }

-- the store's part of the memory, its first bytes, and what lies behind it
abbrev pub used : Geometry → List ℕ → List ℕ
used g memory = take (g.slots * g.page) memory

abbrev pub spare : Geometry → List ℕ → List ℕ
spare g memory = drop (g.slots * g.page) memory
