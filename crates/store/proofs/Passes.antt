-- What the passes over all pages need.
use Rattle.std.proofs.Common.{◌≡◌, ℕ, ◌+◌, ◌*◌, ◌<◌, List, length, drop, Ok, Err, Option, Result, sym, ap, ◌∙◌, ⊎_elim, arith}
use Rattle.std.proofs.lemmas.Bool.{cases_eq}
use Rattle.cipher.specs.declared.tweakable.TweakableCipher as cipher
use Rattle.record.specs.declared.kind.Record as kind
use Rattle.page.specs.declared.fault.PageFault.{PageFault}
use Rattle.page.specs.declared.fault.SlotFault.{SlotFault}
use Rattle.std.specs.Int.Digits.{AllBelowBase}
use Rattle.block.proofs.OnBytes.{under_take, under_drop}
use Rattle.mode.specs.Permutes.{enciphered, deciphered, Message}
use Rattle.mode.proofs.Whole.{Lawful, permutes}
use Rattle.page.specs.Pages.{slotted, opened, plain}
use Rattle.page.specs.Laws.{Told}
use Rattle.calls.specs.declared.geometry.Geometry.{Geometry}
use Rattle.calls.specs.Memory.{page, Sized}
use Rattle.calls.specs.Calls.{said, Says}
use Rattle.calls.proofs.Placing.{row_le, page_long}
use Rattle.store.specs.Looks.{Looked, Moved, Rewritten}

-- a fault names its slot
slotted_slot : {T : Type 0} (k : ℕ) (r : Result T PageFault) (e : SlotFault) → slotted k r ≡ Err e → e.slot ≡ k
slotted_slot k (Ok x) e q = let z : ◌≡◌ {A = ℕ} 0 1 = cc in absurd (omega arith)
slotted_slot k (Err f) e q = let z : record { slot = k; fault = f } ≡ e = cc in sym (ap (λ s. s.slot) z)

slotted-said : {T : Type 0} (k : ℕ) (r : Result T PageFault) (x : T) → slotted k r ≡ Ok x → r ≡ Ok x
slotted-said k (Ok y) x q = let z : y ≡ x = cc in ap (λ v. Ok v) z
slotted-said k (Err f) x q = let z : ◌≡◌ {A = ℕ} 0 1 = cc in absurd (omega arith)

module _ {C R : Type 0} (𝒸 : cipher.Ghosts C) (𝓇 : kind.Ghosts R) (g : Geometry) (c : C) (m : List ℕ) where
  -- one page more that says something
  pub says_more : (n : ℕ) → ((k : ℕ) → k < n → Says 𝒸 𝓇 g c m k) → (o : Option R) → said 𝒸 𝓇 g c m n ≡ Ok o → (k : ℕ) → k < n + 1 → Says 𝒸 𝓇 g c m k
  says_more n before o here k h = ⊎_elim (λ (e : k ≡ n). (o, ap (said 𝒸 𝓇 g c m) e ∙ here)) (λ (ne : k ≡ n → ⊥). before k (omega (arith, ne))) (cases_eq k n)

  -- the lowest page at fault
  pub lowest : (n : ℕ) → n < g.slots → ((k : ℕ) → k < n → Says 𝒸 𝓇 g c m k) → (e : SlotFault) → said 𝒸 𝓇 g c m n ≡ Err e → Looked 𝒸 𝓇 g c m (Err e)
  lowest n h before e q =
      let at : e.slot ≡ n = slotted_slot n _ e q in
      (omega (arith, at), ap (said 𝒸 𝓇 g c m) at ∙ q, λ k l. before k (omega (arith, at)))

page_message : (g : Geometry) (m : List ℕ) (k : ℕ) → Sized g m → AllBelowBase 256 m → k < g.slots → Message (page g.page k m)
unfolding page
page_message g m k sized bytes h =
    let w = g.page in
    let ok = g.ok in
    let long : length (page w k m) ≡ w = page_long w k m (omega (arith, row_le k g.slots w h, sized)) in
    record { bytes = under_take w (drop (k * w) m) (under_drop (k * w) m bytes); long = omega (arith, long, ok.2); short = omega (arith, long, ok.3) }

module _ {C R : Type 0} (𝒸 : cipher.Ghosts C) {𝓇 : kind.Ghosts R} (told : Told 𝓇) (g : Geometry) (c to : C) (lawful : Lawful (𝒸.encrypted c) (𝒸.decrypted c)) (m : List ℕ) (sized : Sized g m) (bytes : AllBelowBase 256 m) where
  -- a page that says a content is deciphered to its plain page
  unsealed : (k : ℕ) → k < g.slots → (o : Option R) → said 𝒸 𝓇 g c m k ≡ Ok o → deciphered (𝒸.encrypted c) (𝒸.decrypted c) (page g.page k m) ≡ plain 𝓇 g.page k o
  unsealed k h o says =
      let w = g.page in
      let x = deciphered (𝒸.encrypted c) (𝒸.decrypted c) (page w k m) in
      let one = permutes (𝒸.encrypted c) (𝒸.decrypted c) lawful (page w k m) (page_message g m k sized bytes h) in
      let long : length x ≡ w = one.length-kept ∙ page_long w k m (omega (arith, row_le k g.slots w h, sized)) in
      sym (told.back x k o (omega (arith, long, g.ok.2)) one.message.bytes (slotted-said k (opened 𝓇 k x) o says))
      ∙ ap (λ n. plain 𝓇 n k o) long

  pub rewritten : (m' : List ℕ) → ((k : ℕ) → k < g.slots → Says 𝒸 𝓇 g c m k) → Moved 𝒸 g c to m m' → Rewritten 𝒸 𝓇 g c to m m' (Ok tt)
  rewritten m' all moved = (moved.0, λ k h. let s = all k h in (s.0, s.1, moved.1 k h ∙ ap (enciphered (𝒸.encrypted to)) (unsealed k h s.0 s.1)))
