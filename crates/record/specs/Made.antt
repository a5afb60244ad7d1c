-- What is made of fields by their rules, and what is answered.
use Rattle.std.specs.Prelude.{◌≡◌, ℕ, suc, ◌≤◌, Bool, true, false, cond, T, List, [], ◌∷◌, Ok, Err, Result, refl}
use Rattle.std.proofs.Common.{sym, ap, subst, ◌∙◌, arith, eqb→eq}
use Rattle.std.proofs.Math.Dec.{T_prop}
use Rattle.std.specs.List.{AllByRecursion}
use Rattle.std.proofs.lemmas.Bool.{eqb-true}
use Rattle.block.specs.Answers.{answered_as, accepted, refused}
use Rattle.record.specs.declared.fault.FieldFault.{FieldFault}
use Rattle.record.specs.Rules.{broken, lowest, kept}
use Rattle.record.specs.Makings.{by_test, making, numbers, answer}

none_broken : (k : ℕ) (bs : List Bool) → broken (suc k) bs ≡ 0 → AllByRecursion (λ b. b ≡ true) bs
none_broken k [] e = tt
none_broken k (true ∷ bs) e = (refl, none_broken (suc k) bs e)
none_broken k (false ∷ bs) e = absurd (omega arith)

pub all-kept : (bs : List Bool) → T (kept bs) → AllByRecursion (λ b. b ≡ true) bs
all-kept bs p = none_broken 0 bs (eqb→eq (lowest bs) 0 p)

module _ {F R : Type 0} (rules : F → List Bool) (made : (f : F) → T (kept (rules f)) → R) where
  by_kept : (f : F) (b : Bool) (e : b ≡ kept (rules f)) (p : T (kept (rules f))) → by_test rules made f b e ≡ Ok (made f p)
  by_kept f true e p = ap (λ q. Ok (made f q)) (T_prop (kept (rules f)) (subst T e tt) p)
  by_kept f false e p = absurd (subst T (sym e) p)

  pub making-sound : (f : F) (p : T (kept (rules f))) → making rules made f ≡ Ok (made f p)
  making-sound f p = by_kept f (kept (rules f)) refl p

  by_broken : (f : F) (b : Bool) (e : b ≡ kept (rules f)) (k : ℕ) → 1 ≤ k → lowest (rules f) ≡ k → by_test rules made f b e ≡ Err (record { field = k })
  by_broken f true e k h q = let z = eqb-true (lowest (rules f)) 0 (sym e) in absurd (omega (arith, z, q))
  by_broken f false e k h q = ap (λ n. Err (record { field = n })) q

  pub making_wrong : (f : F) (k : ℕ) → 1 ≤ k → lowest (rules f) ≡ k → making rules made f ≡ Err (record { field = k })
  making_wrong f k h q = by_broken f (kept (rules f)) refl k h q

  module _ (part : R → F) (whole : (f : F) (p : T (kept (rules f))) → part (made f p) ≡ f) where
    told : (f : F) (b : Bool) (e : b ≡ kept (rules f)) → answered_as part numbers (by_test rules made f b e) ≡ cond b (accepted f) (refused (8 ∷ lowest (rules f) ∷ []))
    told f true e = ap accepted (whole f (subst T e tt))
    told f false e = refl

    pub making-answer : (f : F) (r : Result R FieldFault) → r ≡ making rules made f → answered_as part numbers r ≡ answer rules f
    making-answer f r e = ap (answered_as part numbers) e ∙ told f (kept (rules f)) refl

    by_made : (f : F) (b : Bool) (e : b ≡ kept (rules f)) (r : R) → by_test rules made f b e ≡ Ok r → f ≡ part r
    by_made f true e r h =
        let same : made f (subst T e tt) ≡ r = cc in
        sym (whole f (subst T e tt)) ∙ ap part same
    by_made f false e r h = let never : ◌≡◌ {A = ℕ} 0 1 = cc in absurd (omega arith)

    pub made-part : (f : F) (r : R) → making rules made f ≡ Ok r → f ≡ part r
    made-part f r e = by_made f (kept (rules f)) refl r e
