-- What pages are for: the plain page of a content says that content, and a page that says a content is its plain page.
use Rattle.std.specs.Prelude.{◌≡◌, ℕ, ◌≤◌, List, length, Ok, Option}
use Rattle.std.specs.Int.Digits.{AllBelowBase}
use Rattle.record.specs.declared.kind.Record as kind
use Rattle.page.specs.Pages.{plain, opened}

pub record Told {R : Type 0} (𝓇 : kind.Ghosts R) : Type 0 where
  pub there : (size slot : ℕ) (o : Option R) → 64 ≤ size → opened 𝓇 slot (plain 𝓇 size slot o) ≡ Ok o
  pub back : (x : List ℕ) (slot : ℕ) (o : Option R) → 64 ≤ length x → AllBelowBase 256 x → opened 𝓇 slot x ≡ Ok o → plain 𝓇 (length x) slot o ≡ x
