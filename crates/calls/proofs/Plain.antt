-- Plain pages are messages of a page's length.
use Rattle.std.proofs.Common.{◌≡◌, ℕ, ◌+◌, ◌-◌, ◌<◌, ◌≤◌, List, ◌∷◌, ◌++◌, length, replicate, Some, None, Ok, Option, arith}
use lib.ListN.{length-replicate}
use Rattle.std.specs.Int.Digits.{AllBelowBase}
use Rattle.std.proofs.lemmas.List.{length-append}
use Rattle.block.proofs.OnBytes.{under_append, under_zeros}
use Rattle.cipher.specs.declared.tweakable.TweakableCipher as cipher
use Rattle.record.specs.declared.kind.Record as kind
use Rattle.mode.specs.Permutes.{Message}
use Rattle.mode.proofs.Whole.{Lawful}
use Rattle.page.specs.Pages.{head, plain}
use Rattle.page.specs.Laws.{Told}
use Rattle.page.proofs.Laying.{head_long}
use Rattle.page.proofs.Opening.{told}

-- what a cipher and a kind of records owe
pub record Laws {C R : Type 0} (𝒸 : cipher.Ghosts C) (𝓇 : kind.Ghosts R) : Type 0 where
  pub inverse : (c : C) → Lawful (𝒸.encrypted c) (𝒸.decrypted c)
  pub four : (length 𝓇.LABEL ≡ 4) × AllBelowBase 256 𝓇.LABEL
  pub narrow : (1 ≤ 𝓇.WIDTH) × (𝓇.WIDTH ≤ 48)
  pub long : (r : R) → (length (𝓇.written r) ≡ 𝓇.WIDTH) × AllBelowBase 256 (𝓇.written r)
  pub readback : (r : R) → 𝓇.reading (𝓇.written r) ≡ Ok r
  pub writeback : (x : List ℕ) (r : R) → length x ≡ 𝓇.WIDTH → AllBelowBase 256 x → 𝓇.reading x ≡ Ok r → 𝓇.written r ≡ x

module _ {C R : Type 0} {𝒸 : cipher.Ghosts C} {𝓇 : kind.Ghosts R} (laws : Laws 𝒸 𝓇) where
  pub tells : Told 𝓇
  tells = told 𝓇 laws.four.0 laws.narrow (λ r. (laws.long r).0) laws.readback laws.writeback

  head_under : (mark slot : ℕ) → mark < 256 → slot < 256 → AllBelowBase 256 (head 𝓇 mark slot)
  head_under mark slot p q = under_append 𝓇.LABEL (mark ∷ slot ∷ replicate 10 0) laws.four.1 (p, (q, under_zeros 10))

  plain_under : (size slot : ℕ) (o : Option R) → slot < 256 → AllBelowBase 256 (plain 𝓇 size slot o)
  plain_under size slot None q = under_append (head 𝓇 0 slot) (replicate (size - 16) 0) (head_under 0 slot (omega arith) q) (under_zeros (size - 16))
  plain_under size slot (Some r) q =
      let n = size - (16 + 𝓇.WIDTH) in
      under_append (head 𝓇 1 slot) (𝓇.written r ++ replicate n 0) (head_under 1 slot (omega arith) q)
      (under_append (𝓇.written r) (replicate n 0) (laws.long r).1 (under_zeros n))

  pub plain_long : (size slot : ℕ) (o : Option R) → 64 ≤ size → length (plain 𝓇 size slot o) ≡ size
  plain_long size slot None h =
      let a = head_long 𝓇.LABEL 0 slot laws.four.0 in
      let b = length-replicate {A = ℕ} (size - 16) 0 in
      let c = length-append (head 𝓇 0 slot) (replicate (size - 16) 0) in
      omega (arith, a, b, c)
  plain_long size slot (Some r) h =
      let n = size - (16 + 𝓇.WIDTH) in
      let a = head_long 𝓇.LABEL 1 slot laws.four.0 in
      let b = length-replicate {A = ℕ} n 0 in
      let c = length-append (head 𝓇 1 slot) (𝓇.written r ++ replicate n 0) in
      let d = length-append (𝓇.written r) (replicate n 0) in
      omega (arith, a, b, c, d, (laws.long r).0, laws.narrow.1)

  pub plain_message : (size slot : ℕ) (o : Option R) → 64 ≤ size → size ≤ 4096 → slot < 256 → Message (plain 𝓇 size slot o)
  plain_message size slot o h k q =
      let e = plain_long size slot o h in
      record { bytes = plain_under size slot o q; long = omega (arith, e); short = omega (arith, e) }
