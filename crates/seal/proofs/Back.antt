-- A page that is sealed and unsealed says what it was laid for.
use Rattle.std.proofs.Common.{◌≡◌, ℕ, ◌≤◌, List, Ok, Option, ap, ◌∙◌}
use Rattle.record.specs.declared.kind.Record as kind
use Rattle.page.specs.Pages.{plain, opened_at, slotted}
use Rattle.page.specs.Laws.{Told}

pub sealed_says : {R : Type 0} (𝓇 : kind.Ghosts R) → Told 𝓇 → (size slot : ℕ) (o : Option R) → 64 ≤ size → (x : List ℕ) → x ≡ plain 𝓇 size slot o → opened_at 𝓇 slot x ≡ Ok o
sealed_says 𝓇 told size slot o h x e = ap (opened_at 𝓇 slot) e ∙ ap (slotted slot) (told.there size slot o h)
