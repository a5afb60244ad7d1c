-- What the bench program holds, in the words of the session.
use Rattle.std.specs.Prelude.{◌≡◌, ℕ, List, length, Option}
use Rattle.std.specs.Option.{option_map}
use Rattle.store.specs.declared.store.Store.{Store}
use Rattle.ciphers.specs.declared.any.AnyCipher.{AnyCipher}
use Rattle.session.specs.States.{Formed, State}
use Rattle.line.specs.declared.bench.Bench.TheInside.{Inside}

abbrev pub formed_of : Store AnyCipher → Formed
formed_of s = record { geometry = s.geometry; cipher = s.cipher }

abbrev pub state : Option (Store AnyCipher) → List ℕ → List ℕ → State
state store memory working = record { formed = option_map formed_of store; memory = memory; working = working }

abbrev pub state_of : Inside → State
state_of b = state b.store b.memory b.working

-- the memory and the working buffer have the program's sizes
abbrev pub Sized : State → Type 0
Sized s = (length s.memory ≡ 32768) × (length s.working ≡ 4096)
