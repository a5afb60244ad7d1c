-- The calls are refused with the numbers of the table.
use Rattle.std.proofs.Common.{◌≡◌, ℕ, zero, suc, ◌*◌, ◌<◌, ◌≤◌, eqb, ltb, leb, List, [], ◌∷◌, length, Ok, Err, Option, Result, sym, refl, ap, ◌∙◌, ⊎_elim, arith}
use Rattle.std.proofs.lemmas.Bool.{cond-true, cond-false, eq-eqb, ne_eqb, cases_eq, lt-ltb, le-ltb, le-leb, lt-leb}
use Rattle.cipher.specs.declared.tweakable.TweakableCipher as cipher
use Rattle.record.specs.declared.kind.Record as kind
use Rattle.page.specs.declared.fault.PageFault.{PageFault}
use Rattle.page.specs.declared.fault.PageFault.TheVariants.{Head, Record}
use Rattle.page.specs.Pages as pages
use Rattle.calls.specs.declared.geometry.Geometry.{Geometry}
use Rattle.calls.specs.declared.refusal.Refusal.{Refusal}
use Rattle.calls.specs.declared.refusal.Refusal.TheVariants.{Memory, Slot, Buffer, Page}
use Rattle.calls.specs.Memory.{Sized}
use Rattle.calls.specs.Calls.{said, Formed, Put, Got, Changed}
use Rattle.calls.specs.Refused.{refused_by, by_memory, by_slot, by_buffer, by_page, or_else, first_of, Numbered}

memory_fits : (g : Geometry) (m after : List ℕ) → Sized g m → by_memory g m after ≡ after
memory_fits g m after h = cond-true (eqb (length m) (g.slots * g.page)) after (3 ∷ []) (eq-eqb (length m) (g.slots * g.page) h)

memory_wrong : (g : Geometry) (m after : List ℕ) → (Sized g m → ⊥) → by_memory g m after ≡ 3 ∷ []
memory_wrong g m after h = cond-false (eqb (length m) (g.slots * g.page)) after (3 ∷ []) (ne_eqb (length m) (g.slots * g.page) h)

slot_fits : (g : Geometry) (slot : ℕ) (after : List ℕ) → slot < g.slots → by_slot g slot after ≡ after
slot_fits g slot after h = cond-true (ltb slot g.slots) after (4 ∷ []) (lt-ltb slot g.slots h)

slot_wrong : (g : Geometry) (slot : ℕ) (after : List ℕ) → g.slots ≤ slot → by_slot g slot after ≡ 4 ∷ []
slot_wrong g slot after h = cond-false (ltb slot g.slots) after (4 ∷ []) (le-ltb slot g.slots h)

buffer_fits : (g : Geometry) (b after : List ℕ) → g.page ≤ length b → by_buffer g b after ≡ after
buffer_fits g b after h = cond-true (leb g.page (length b)) after (5 ∷ []) (le-leb g.page (length b) h)

buffer_wrong : (g : Geometry) (b after : List ℕ) → length b < g.page → by_buffer g b after ≡ 5 ∷ []
buffer_wrong g b after h = cond-false (leb g.page (length b)) after (5 ∷ []) (lt-leb g.page (length b) h)

-- no check fails; and the lowest that does
none_of : (n : ℕ) (f : ℕ → List ℕ) → ((k : ℕ) → k < n → f k ≡ []) → first_of n f ≡ []
none_of zero f all = refl
none_of (suc n) f all = ap (λ x. or_else x (f n)) (none_of n f (λ k h. all k (omega arith))) ∙ all n (omega arith)

lowest_of : (n : ℕ) (f : ℕ → List ℕ) (j x : ℕ) (xs : List ℕ) → j < n → ((k : ℕ) → k < j → f k ≡ []) → f j ≡ x ∷ xs → first_of n f ≡ x ∷ xs
lowest_of zero f j x xs h below here = absurd (omega arith)
lowest_of (suc n) f j x xs h below here =
    ⊎_elim
    (λ (e : j ≡ n). ap (λ y. or_else y (f n)) (none_of n f (λ k l. below k (omega (arith, e)))) ∙ ap f (sym e) ∙ here)
    (λ (ne : j ≡ n → ⊥). ap (λ y. or_else y (f n)) (lowest_of n f j x xs (omega (arith, ne)) below here))
    (cases_eq j n)

some_numbers : (slot : ℕ) (e : PageFault) → (x : ℕ) × (xs : List ℕ) × (pages.fault_numbers slot e ≡ x ∷ xs)
some_numbers slot Head = (6, slot ∷ [], refl)
some_numbers slot (Record f) = (7, slot ∷ f.field ∷ [], refl)

module _ {C R : Type 0} (𝒸 : cipher.Ghosts C) (𝓇 : kind.Ghosts R) (g : Geometry) (c : C) (m : List ℕ) where
  by_form : (m' : List ℕ) (a : Result (Unit {0}) Refusal) → Formed 𝒸 𝓇 g c m m' a → refused_by a ≡ by_memory g m []
  by_form m' (Ok _) f = sym (memory_fits g m [] f.0)
  by_form m' (Err Memory) f = sym (memory_wrong g m [] f.1)
  by_form m' (Err Slot) f = absurd f.1
  by_form m' (Err Buffer) f = absurd f.1
  by_form m' (Err (Page e)) f = absurd f.1

  by_put : (slot : ℕ) (o : Option R) (m' : List ℕ) (a : Result (Unit {0}) Refusal) → Put 𝒸 𝓇 g c m slot o m' a → refused_by a ≡ by_memory g m (by_slot g slot [])
  by_put slot o m' (Ok _) f = sym (memory_fits g m _ f.0 ∙ slot_fits g slot [] f.1)
  by_put slot o m' (Err Memory) f = sym (memory_wrong g m _ f.1)
  by_put slot o m' (Err Slot) f = sym (memory_fits g m _ f.1.0 ∙ slot_wrong g slot [] f.1.1)
  by_put slot o m' (Err Buffer) f = absurd f.1
  by_put slot o m' (Err (Page e)) f = absurd f.1

  by_get : (slot : ℕ) (b b' : List ℕ) (a : Result (Option R) Refusal) → Got 𝒸 𝓇 g c m slot b b' a → refused_by a ≡ by_memory g m (by_slot g slot (by_buffer g b (by_page (said 𝒸 𝓇 g c m slot))))
  by_get slot b b' (Ok o) f = sym (memory_fits g m _ f.0 ∙ slot_fits g slot _ f.1 ∙ buffer_fits g b _ f.2 ∙ ap by_page f.3)
  by_get slot b b' (Err Memory) f = sym (memory_wrong g m _ f.0)
  by_get slot b b' (Err Slot) f = sym (memory_fits g m _ f.0 ∙ slot_wrong g slot _ f.1)
  by_get slot b b' (Err Buffer) f = sym (memory_fits g m _ f.0 ∙ slot_fits g slot _ f.1 ∙ buffer_wrong g b _ f.2)
  by_get slot b b' (Err (Page e)) f = sym (memory_fits g m _ f.0 ∙ slot_fits g slot _ f.1 ∙ buffer_fits g b _ f.2 ∙ ap by_page f.3)

  by_change : (to c' : C) (b m' b' : List ℕ) (a : Result (Unit {0}) Refusal) → Changed 𝒸 𝓇 g c m to b c' m' b' a → refused_by a ≡ by_memory g m (by_buffer g b (first_of g.slots (λ k. by_page (said 𝒸 𝓇 g c m k))))
  by_change to c' b m' b' (Ok _) f = sym (memory_fits g m _ f.1 ∙ buffer_fits g b _ f.3 ∙ none_of g.slots (λ k. by_page (said 𝒸 𝓇 g c m k)) (λ k h. ap by_page (f.4 k h).1))
  by_change to c' b m' b' (Err Memory) f = sym (memory_wrong g m _ f.3)
  by_change to c' b m' b' (Err Slot) f = absurd f
  by_change to c' b m' b' (Err Buffer) f = sym (memory_fits g m _ f.3 ∙ buffer_wrong g b _ f.4)
  by_change to c' b m' b' (Err (Page e)) f =
      let s = some_numbers e.slot e.fault in
      sym (memory_fits g m _ f.3 ∙ buffer_fits g b _ f.4
      ∙ lowest_of g.slots (λ k. by_page (said 𝒸 𝓇 g c m k)) e.slot s.0 s.1 f.5 (λ k h. ap by_page (f.7 k h).1) (ap by_page f.6 ∙ s.2)
      ∙ sym s.2)

  pub numbered : Numbered 𝒸 𝓇 g c m
  numbered = record { form = by_form; put = by_put; get = by_get; change = by_change }
