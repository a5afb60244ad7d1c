-- A memory and its pages.
use Rattle.std.specs.Prelude.{◌≡◌, ℕ, ◌*◌, List, ◌++◌, length, take, drop, replicate, ◌≢◌}
use Rattle.calls.specs.declared.geometry.Geometry.{Geometry}

-- page k of a memory whose pages have `size` bytes
unfoldable pub page : ℕ → ℕ → List ℕ → List ℕ
page size k m = take size (drop (k * size) m)

-- a memory of the geometry's length
abbrev pub Sized : Geometry → List ℕ → Type 0
Sized g m = length m ≡ g.slots * g.page

-- m' is m with y for its page `slot`
pub record Only (size slot : ℕ) (m m' y : List ℕ) : Type 0 where
  pub long : length m' ≡ length m
  pub here : page size slot m' ≡ y
  pub others : (k : ℕ) → (k ≢ slot) → page size k m' ≡ page size k m

-- a working buffer after its use: the first `size` bytes zero, and the rest as it was
abbrev pub wiped : ℕ → List ℕ → List ℕ
wiped size b = replicate size 0 ++ drop size b
