-- What holds after every list of calls.
use Rattle.std.proofs.Common.{◌≡◌, ℕ, ◌<◌, ◌≤◌, cond, eqb, List, ◌∷◌, length, get_or, Some, None, Ok, Err, Option, Result, sym, refl, ap, ◌∙◌, subst, ⊎_elim, arith}
use Rattle.std.proofs.lemmas.Bool.{cond-true, cond-false, ne_eqb, eq-eqb, cases_eq}
use Rattle.cipher.specs.declared.tweakable.TweakableCipher as cipher
use Rattle.record.specs.declared.kind.Record as kind
use Rattle.mode.specs.Permutes.{deciphered}
use Rattle.mode.proofs.Whole.{enciphered_back}
use Rattle.mode.proofs.Agree.{enciphered_agree}
use Rattle.page.specs.declared.fault.SlotFault.{SlotFault}
use Rattle.page.specs.Pages as pages
use Rattle.calls.specs.declared.geometry.Geometry.{Geometry}
use Rattle.calls.specs.declared.refusal.Refusal.{Refusal}
use Rattle.calls.specs.declared.refusal.Refusal.TheVariants.{Memory, Slot, Buffer, Page}
use Rattle.calls.specs.Memory.{page, Sized, Only}
use Rattle.calls.specs.Calls.{sealed, said, Why, WhyAll, Got}
use Rattle.calls.specs.Runs.{Call, form, put, get, clear, change, handed, left, Does, Ran, begins, goes_on, elsewhere, after, content, refusal, Sound, Holds, Same, Determined, Law}
use Rattle.calls.proofs.Placing.{same_pages}
use Rattle.calls.proofs.Refusing.{numbered}
use Rattle.calls.proofs.Plain.{Laws, tells, plain_message}

-- each page of m is that of its slot's content
abbrev pub Stands : {C R : Type 0} → cipher.Ghosts C → kind.Ghosts R → Geometry → C → List ℕ → (ℕ → Option R) → Type 0
Stands 𝒸 𝓇 g c m o = Sized g m × ((k : ℕ) → k < g.slots → page g.page k m ≡ sealed 𝒸 𝓇 g c k (o k))

never : {T E : Type 0} {P : Type 0} (x : T) (e : E) → Ok x ≡ Err e → P
never x e q = let z : ◌≡◌ {A = ℕ} 0 1 = cc in absurd (omega arith)

module _ {C R : Type 0} {𝒸 : cipher.Ghosts C} {𝓇 : kind.Ghosts R} (laws : Laws 𝒸 𝓇) where
  opens : (g : Geometry) (c : C) (k : ℕ) (o : Option R) → k < g.slots → deciphered (𝒸.encrypted c) (𝒸.decrypted c) (sealed 𝒸 𝓇 g c k o) ≡ pages.plain 𝓇 g.page k o
  opens g c k o h =
      let ok = g.ok in
      enciphered_back (𝒸.encrypted c) (𝒸.decrypted c) (laws.inverse c) (pages.plain 𝓇 g.page k o)
      (plain_message laws g.page k o ok.2 ok.3 (omega (arith, ok.1)))

  -- a page that stands says its content
  pub says : (g : Geometry) (c : C) (m : List ℕ) (k : ℕ) (o : Option R) → k < g.slots → page g.page k m ≡ sealed 𝒸 𝓇 g c k o → said 𝒸 𝓇 g c m k ≡ Ok o
  says g c m k o h e =
      ap (λ x. pages.opened_at 𝓇 k (deciphered (𝒸.encrypted c) (𝒸.decrypted c) x)) e
      ∙ ap (pages.opened_at 𝓇 k) (opens g c k o h)
      ∙ ap (pages.slotted k) ((tells laws).there g.page k o g.ok.2)

  written : (g : Geometry) (slot : ℕ) (c : C) (m m' : List ℕ) (o : ℕ → Option R) (p : Option R) → Only g.page slot m m' (sealed 𝒸 𝓇 g c slot p) → Stands 𝒸 𝓇 g c m o
      → Stands 𝒸 𝓇 g c m' (λ k. cond (eqb k slot) p (o k))
  written g slot c m m' o p only stand = (
    only.long ∙ stand.0,
    λ k h. ⊎_elim
        (λ (e : k ≡ slot).
        ap (λ j. page g.page j m') e ∙ only.here
        ∙ ap (λ j. sealed 𝒸 𝓇 g c j p) (sym e)
        ∙ ap (sealed 𝒸 𝓇 g c k) (sym (cond-true (eqb k slot) p (o k) (eq-eqb k slot e))))
        (λ (ne : k ≡ slot → ⊥).
        only.others k ne ∙ stand.1 k h
        ∙ ap (sealed 𝒸 𝓇 g c k) (sym (cond-false (eqb k slot) p (o k) (ne_eqb k slot ne))))
        (cases_eq k slot),
  )

  moved : (g : Geometry) (c c' : C) (m m' : List ℕ) (o : ℕ → Option R) → c' ≡ c → m' ≡ m → Stands 𝒸 𝓇 g c m o → Stands 𝒸 𝓇 g c' m' o
  moved g c c' m m' o e f stand = rw (e, f) stand

  -- one call on the memory itself
  step : (g : Geometry) (x : Call C R) (c c' : C) (o : ℕ → Option R) → Stands 𝒸 𝓇 g c (handed x) o → Does 𝒸 𝓇 g c x c' → Stands 𝒸 𝓇 g c' (left x) (λ k. after x k (o k))
  step g (form m m' (Ok _)) c c' o stand does = moved g c c' m' m' (λ _. None) does.0 refl (does.1.1, does.1.2)
  step g (form m m' (Err e)) c c' o stand does = moved g c c' m m' o does.0 does.1.0 stand
  step g (put m m' s r (Ok _)) c c' o stand does = moved g c c' m' m' _ does.0 refl (written g s c m m' o (Some r) does.1.2 stand)
  step g (put m m' s r (Err e)) c c' o stand does = moved g c c' m m' o does.0 does.1.0 stand
  step g (get m s b b' a) c c' o stand does = moved g c c' m m o does.0 refl stand
  step g (clear m m' s (Ok _)) c c' o stand does = moved g c c' m' m' _ does.0 refl (written g s c m m' o None does.1.2 stand)
  step g (clear m m' s (Err e)) c c' o stand does = moved g c c' m m' o does.0 does.1.0 stand
  step g (change m m' to b b' (Ok _)) c c' o stand does =
      moved g to c' m' m' o does.0 refl (
        does.2,
        λ k h.
            let page-k = does.4 k h in
            let here = says g c m k (o k) h (stand.1 k h) in
            let same : ◌≡◌ {A = Result (Option R) SlotFault} (Ok page-k.0) (Ok (o k)) = sym page-k.1 ∙ here in
            let e : page-k.0 ≡ o k = cc in
            page-k.2 ∙ ap (sealed 𝒸 𝓇 g to k) e,
      )
  step g (change m m' to b b' (Err Memory)) c c' o stand does = moved g c c' m m' o does.0 does.1 stand
  step g (change m m' to b b' (Err Slot)) c c' o stand does = absurd does
  step g (change m m' to b b' (Err Buffer)) c c' o stand does = moved g c c' m m' o does.0 does.1 stand
  step g (change m m' to b b' (Err (Page e))) c c' o stand does = moved g c c' m m' o does.0 does.1 stand

  -- one call that was handed something else, of a wrong length
  away : (g : Geometry) (x : Call C R) (c c' : C) (m : List ℕ) (o : ℕ → Option R) → (Sized g (handed x) → ⊥) → Stands 𝒸 𝓇 g c m o → Does 𝒸 𝓇 g c x c' → Stands 𝒸 𝓇 g c' m (λ k. after x k (o k))
  away g (form h h' (Ok _)) c c' m o wrong stand does = absurd (wrong does.1.0)
  away g (form h h' (Err e)) c c' m o wrong stand does = moved g c c' m m o does.0 refl stand
  away g (put h h' s r (Ok _)) c c' m o wrong stand does = absurd (wrong does.1.0)
  away g (put h h' s r (Err e)) c c' m o wrong stand does = moved g c c' m m o does.0 refl stand
  away g (get h s b b' a) c c' m o wrong stand does = moved g c c' m m o does.0 refl stand
  away g (clear h h' s (Ok _)) c c' m o wrong stand does = absurd (wrong does.1.0)
  away g (clear h h' s (Err e)) c c' m o wrong stand does = moved g c c' m m o does.0 refl stand
  away g (change h h' to b b' (Ok _)) c c' m o wrong stand does = absurd (wrong does.1)
  away g (change h h' to b b' (Err Memory)) c c' m o wrong stand does = moved g c c' m m o does.0 refl stand
  away g (change h h' to b b' (Err Slot)) c c' m o wrong stand does = absurd does
  away g (change h h' to b b' (Err Buffer)) c c' m o wrong stand does = moved g c c' m m o does.0 refl stand
  away g (change h h' to b b' (Err (Page e))) c c' m o wrong stand does = moved g c c' m m o does.0 refl stand

  pub stands : {g : Geometry} {calls : List (Call C R)} {c : C} {m : List ℕ} → Ran 𝒸 𝓇 g calls c m → Stands 𝒸 𝓇 g c m (content calls)
  stands (begins f) = (f.1, f.2)
  stands {g} {c = c'} (goes_on {calls} {c} run x same does leaves) =
      subst (λ m. Stands 𝒸 𝓇 g c' m (content (x ∷ calls))) leaves
      (step g x c c' (content calls) (subst (λ m. Stands 𝒸 𝓇 g c m (content calls)) (sym same) (stands run)) does)
  stands {g} {c = c'} {m} (elsewhere {calls} {c} run x wrong does) = away g x c c' m (content calls) wrong (stands run) does

  -- what get answers
  answers : (g : Geometry) (k : ℕ) (b b' : List ℕ) (c : C) (m : List ℕ) (o : ℕ → Option R) (a : Result (Option R) Refusal) → k < g.slots → g.page ≤ length b → Stands 𝒸 𝓇 g c m o
      → Got 𝒸 𝓇 g c m k b b' a → a ≡ Ok (o k)
  answers g k b b' c m o (Ok p) h w stand got =
      let same : ◌≡◌ {A = Result (Option R) SlotFault} (Ok p) (Ok (o k)) = sym got.3 ∙ says g c m k (o k) h (stand.1 k h) in
      let e : p ≡ o k = cc in
      ap (λ q. Ok q) e
  answers g k b b' c m o (Err Memory) h w stand got = absurd (got.0 stand.0)
  answers g k b b' c m o (Err Slot) h w stand got = absurd (omega (arith, got.1))
  answers g k b b' c m o (Err Buffer) h w stand got = absurd (omega (arith, got.2))
  answers g k b b' c m o (Err (Page e)) h w stand got = never (o k) e (sym (says g c m k (o k) h (stand.1 k h)) ∙ got.3)

  why_low : (g : Geometry) (m : List ℕ) (slot : ℕ) (e : Refusal) → Why g m slot e → get_or (refusal {C = C} {R = R} (clear m m slot (Err e))) 0 0 < 6
  why_low g m slot Memory w = omega arith
  why_low g m slot Slot w = omega arith
  why_low g m slot Buffer w = absurd w
  why_low g m slot (Page e) w = absurd w

  why_all_low : (g : Geometry) (m : List ℕ) (e : Refusal) → WhyAll g m e → get_or (refusal {C = C} {R = R} (form m m (Err e))) 0 0 < 6
  why_all_low g m Memory w = omega arith
  why_all_low g m Slot w = absurd w
  why_all_low g m Buffer w = absurd w
  why_all_low g m (Page e) w = absurd w

  -- a call on a memory that stands, or on one of a wrong length, finds no page at fault
  low : (g : Geometry) (x : Call C R) (c c' : C) → (Sized g (handed x) → (k : ℕ) → k < g.slots → (o : Option R) × (said 𝒸 𝓇 g c (handed x) k ≡ Ok o)) → Does 𝒸 𝓇 g c x c' → get_or (refusal x) 0 0 < 6
  low g (form m m' (Ok _)) c c' fine does = omega arith
  low g (form m m' (Err e)) c c' fine does = why_all_low g m e does.1.1
  low g (put m m' s r (Ok _)) c c' fine does = omega arith
  low g (put m m' s r (Err e)) c c' fine does = why_low g m s e does.1.1
  low g (get m s b b' (Ok o)) c c' fine does = omega arith
  low g (get m s b b' (Err Memory)) c c' fine does = omega arith
  low g (get m s b b' (Err Slot)) c c' fine does = omega arith
  low g (get m s b b' (Err Buffer)) c c' fine does = omega arith
  low g (get m s b b' (Err (Page e))) c c' fine does = let p = fine does.1.0 s does.1.1 in never p.0 e (sym p.1 ∙ does.1.3)
  low g (clear m m' s (Ok _)) c c' fine does = omega arith
  low g (clear m m' s (Err e)) c c' fine does = why_low g m s e does.1.1
  low g (change m m' to b b' (Ok _)) c c' fine does = omega arith
  low g (change m m' to b b' (Err Memory)) c c' fine does = omega arith
  low g (change m m' to b b' (Err Slot)) c c' fine does = absurd does
  low g (change m m' to b b' (Err Buffer)) c c' fine does = omega arith
  low g (change m m' to b b' (Err (Page e))) c c' fine does = let p = fine does.3 e.slot does.5 in never p.0 e (sym p.1 ∙ does.6)

  sound : {g : Geometry} {calls : List (Call C R)} {c : C} {m : List ℕ} → Ran 𝒸 𝓇 g calls c m → Sound calls
  sound (begins f) = (omega arith, tt)
  sound {g} {c = c'} (goes_on {calls} {c} run x same does leaves) =
      let stand : Stands 𝒸 𝓇 g c (handed x) (content calls) = subst (λ m. Stands 𝒸 𝓇 g c m (content calls)) (sym same) (stands run) in
      (low g x c c' (λ _ k h. (content calls k, says g c (handed x) k (content calls k) h (stand.1 k h))) does, sound run)
  sound {g} {c = c'} (elsewhere {calls} {c} run x wrong does) = (low g x c c' (λ sized. absurd (wrong sized)) does, sound run)

  holds : Holds 𝒸 𝓇
  holds g calls c m run =
      record {
        sized = (stands run).0;
        pages = (stands run).1;
        got = λ k b b' a h w got. answers g k b b' c m (content calls) a h w (stands run) got;
        sound = sound run;
      }

  -- ciphers that are the same seal alike
  alike : (g : Geometry) (c₁ c₂ : C) (k : ℕ) (o : Option R) → k < g.slots → Same 𝒸 c₁ c₂ → sealed 𝒸 𝓇 g c₁ k o ≡ sealed 𝒸 𝓇 g c₂ k o
  alike g c₁ c₂ k o h same =
      let ok = g.ok in
      enciphered_agree (𝒸.encrypted c₁) (𝒸.decrypted c₁) (𝒸.encrypted c₂) (laws.inverse c₁) same.encrypted (pages.plain 𝓇 g.page k o)
      (plain_message laws g.page k o ok.2 ok.3 (omega (arith, ok.1)))

  determined : Determined 𝒸 𝓇
  determined g calls₁ calls₂ c₁ c₂ m₁ m₂ run₁ run₂ same =
      let p = stands run₁ in
      let q = stands run₂ in (
        λ e k h.
            let a = says g c₁ m₁ k (content calls₁ k) h (p.1 k h) in
            let b = says g c₁ m₁ k (content calls₂ k) h (ap (page g.page k) e ∙ q.1 k h ∙ sym (alike g c₁ c₂ k (content calls₂ k) h same)) in
            let both : ◌≡◌ {A = Result (Option R) SlotFault} (Ok (content calls₁ k)) (Ok (content calls₂ k)) = sym a ∙ b in
            cc,
        λ e. same_pages g.slots g.page m₁ m₂ (omega (arith, g.ok.2)) p.0 q.0 (λ k h.
            p.1 k h ∙ alike g c₁ c₂ k (content calls₁ k) h same ∙ ap (sealed 𝒸 𝓇 g c₂ k) (e k h) ∙ sym (q.1 k h)),
      )

  pub law : Law 𝒸 𝓇
  law = record { numbered = numbered 𝒸 𝓇; holds = holds; determined = determined }
