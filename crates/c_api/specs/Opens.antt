-- The cipher and the geometry that a call is made with, or why there are none.
use Rattle.std.specs.Prelude.{◌≡◌, ℕ, ◌<◌, ◌≤◌, false, cond, List, length, Some, None, Option, ◌==◌}
use Rattle.block.specs.Blocks.{block}
use Rattle.ciphers.specs.declared.name.CipherName.{CipherName}
use Rattle.ciphers.specs.declared.name.CipherName.TheVariants.{Skinny, Cascade, Bench}
use Rattle.ciphers.specs.declared.any.AnyCipher.{AnyCipher}
use Rattle.ciphers.specs.Ciphers.{Under}
use Rattle.calls.specs.declared.geometry.Geometry.{Geometry}
use Rattle.calls.specs.Shapes.{admitted}
use Rattle.c_api.specs.declared.answer.Refusal.{Refusal}
use Rattle.c_api.specs.declared.answer.Refusal.TheVariants as why

-- the cipher of a selector
abbrev pub named : ℕ → Option CipherName
named selector = cond (selector == 0) (Some Skinny) (cond (selector == 1) (Some Cascade) (cond (selector == 2) (Some Bench) None))

-- c is the cipher of a selector under a key of 16 bytes
abbrev pub UnderNamed : Option CipherName → ℕ → AnyCipher → Type 0
UnderNamed None key c = ⊥
UnderNamed (Some name) key c = Under name key c

pub record Keyed (selector : ℕ) (key : List ℕ) (c : AnyCipher) : Type 0 where
  pub long : length key ≡ 16
  pub under : UnderNamed (named selector) (block key) c

-- g is the geometry of these numbers
abbrev pub Shaped : ℕ → ℕ → Geometry → Type 0
Shaped slots page g = (g.slots ≡ slots) × (g.page ≡ page)

-- why there is no such cipher, and no such cipher or geometry, where Long says that every key has 16 bytes: the first check
-- that fails
abbrev pub Unkeyed : ℕ → Type 0 → Refusal → Type 0
Unkeyed selector Long why.Cipher = 3 ≤ selector
Unkeyed selector Long why.Key = (selector < 3) × (Long → ⊥)
Unkeyed selector Long (why.Message e) = ⊥
Unkeyed selector Long (why.Geometry e) = ⊥
Unkeyed selector Long (why.Record e) = ⊥
Unkeyed selector Long (why.Store e) = ⊥

abbrev pub Barred : ℕ → Type 0 → ℕ → ℕ → Refusal → Type 0
Barred selector Long slots page why.Cipher = 3 ≤ selector
Barred selector Long slots page why.Key = (selector < 3) × (Long → ⊥)
Barred selector Long slots page (why.Message e) = ⊥
Barred selector Long slots page (why.Geometry e) = (selector < 3) × Long × (admitted slots page ≡ false)
Barred selector Long slots page (why.Record e) = ⊥
Barred selector Long slots page (why.Store e) = ⊥
