-- Where a sort has no fewer elements in any world, different numbers name different elements.
use Rattle.std.proofs.Common.{◌≡◌, ℕ, cond, eqb, ◌⊎◌, inl, inr, ◌-◌, ◌<◌, ◌≤◌, List, [], ◌∷◌, ◌++◌, length, take, sym, ap, subst, ◌∙◌, arith}
use Rattle.std.specs.Prelude.{slice_index}
use Rattle.std.proofs.lemmas.Bool.{cases_lt, cases_eq}
use Rattle.std.proofs.lemmas.Bool.Decides.{nat_tests}
use Rattle.std.proofs.lemmas.List.{get_or-take, length-take, length-take-le}
use Rattle.fo_core.specs.declared.query.Query.{Query}
use Rattle.fo_core.specs.declared.signature.Sig.{Sig}
use Rattle.fo_core.specs.declared.world.World.{World}
use Rattle.fo_core.specs.Queries.{IsQuery}
use Rattle.fo_core.specs.Sorted.{IsSig}
use Rattle.fo_core.specs.Asked.{AreNextSizes}
use Rattle.fo_core.proofs.ElementLemmas.{sort_known}
use Rattle.fo_least.proofs.Isomorphic.{IsApart}
use Rattle.fo_least.proofs.Naming.{IsNaming, MeetsTrial}
use Rattle.fo_least.proofs.NextLemmas.{joined, joined-naming, can_try_size}
use Rattle.fo_least.proofs.TrialMeaning.{trial_means}

-- a naming of the first sorts
pub naming-take : (w : World) (sizes : List ℕ) (name : ℕ → ℕ → ℕ) (k : ℕ) → IsNaming w sizes name → IsNaming w (take k sizes) name
naming-take w sizes name k naming = record {
  within = λ s x in_ lt. naming.within s x (both s in_).0 (subst (λ n. x < n) (get_or-take k sizes s 0 (both s in_).1) lt);
  covers = λ s y in_ lt. let c = naming.covers s y (both s in_).0 lt in (c.0, subst (λ n. c.0 < n) (sym (get_or-take k sizes s 0 (both s in_).1)) c.1, c.2);
}
  where
    both : (s : ℕ) → s < length (take k sizes) → (s < length sizes) × (s < k)
    both s lt = (omega (arith, length-take k sizes), omega (arith, length-take k sizes))

-- Where numbers x and y name one element, one fewer will do: y names what the last number did.
module _ (w : World) (sizes : List ℕ) (name : ℕ → ℕ → ℕ) (naming : IsNaming w sizes name) (s x y : ℕ) (known : s < length sizes) (before : x < y) (below : y < slice_index sizes s) (same : name s x ≡ name s y) where
  abbrev fewer : ℕ
  fewer = slice_index sizes s - 1

  abbrev next : ℕ → ℕ
  next z = cond (eqb z y) (name s fewer) (name s z)

  next-at : next y ≡ name s fewer
  next-at = grind (arith, nat_tests)

  next-other : (z : ℕ) → ¬ (z ≡ y) → next z ≡ name s z
  next-other z other = grind (arith, nat_tests)

  sort-is : length (take s sizes) ≡ s
  sort-is = length-take-le s sizes (omega arith)

  next-within : (z : ℕ) → z < fewer → next z < slice_index w.sizes (length (take s sizes))
  next-within z lt = subst (λ r. next z < slice_index w.sizes r) (sym sort-is) (by_case (cases_eq z y))
    where
      by_case : (z ≡ y) ⊎ (z ≡ y → ⊥) → next z < slice_index w.sizes s
      by_case (inl e) = subst (λ v. v < slice_index w.sizes s) (sym (ap next e ∙ next-at)) (naming.within s fewer known (omega arith))
      by_case (inr other) = subst (λ v. v < slice_index w.sizes s) (sym (next-other z other)) (naming.within s z known (omega arith))

  next-covers : (v : ℕ) → v < slice_index w.sizes (length (take s sizes)) → (z : ℕ) × (z < fewer) × (next z ≡ v)
  next-covers v lt = by_case (naming.covers s v known (subst (λ r. v < slice_index w.sizes r) sort-is lt))
    where
      by_case : ((z : ℕ) × (z < slice_index sizes s) × (name s z ≡ v)) → (z : ℕ) × (z < fewer) × (next z ≡ v)
      by_case (z, in_, is) = by_two (cases_eq z y) (cases_lt z fewer)
        where
          by_two : (z ≡ y) ⊎ (z ≡ y → ⊥) → (z < fewer) ⊎ (fewer ≤ z) → (z : ℕ) × (z < fewer) × (next z ≡ v)
          by_two (inl e) _ =
              let other : x ≡ y → ⊥ = λ e. omega arith in
              (x, omega arith, next-other x other ∙ same ∙ ap (name s) (sym e) ∙ is)
          by_two (inr other) (inl less) = (z, less, next-other z other ∙ is)
          by_two (inr other) (inr last) =
              let e : z ≡ fewer = omega arith in
              let differs : y ≡ z → ⊥ = λ d. other (sym d) in
              (y, omega arith, next-at ∙ ap (name s) (sym e) ∙ is)

  pub fewer-named : IsNaming w (take s sizes ++ (slice_index sizes s - 1) ∷ []) (joined w (take s sizes) name (naming-take w sizes name s naming) (slice_index sizes s - 1) next)
  fewer-named = joined-naming w (take s sizes) name (naming-take w sizes name s naming) (slice_index sizes s - 1) next next-within next-covers

module _ (sig : Sig) (q : Query) (is : IsSig sig) (sorted : IsQuery sig q) (sizes values : List ℕ) (w : World) (some : length sizes ≤ sig.sorts) (settled : AreNextSizes sig q sizes) (t : MeetsTrial sig q sizes values w) where
  never-fewer : (s x y : ℕ) → x < y → y < slice_index sizes s → ¬ (t.name s x ≡ t.name s y)
  never-fewer s x y before below same =
      let known = sort_known sizes s y below in
      let next = settled s known in
      let can = can_try_size sig q.copies (take s sizes) (slice_index sizes s - 1) (omega (arith, length-take s sizes)) in
      next.fewer (slice_index sizes s - 1) (omega arith) (omega arith) w
      ((trial_means sig q (take s sizes ++ (slice_index sizes s - 1) ∷ []) [] is sorted can w).1 (record {
        meets = t.meets;
        name = joined w (take s sizes) t.name (naming-take w sizes t.name s t.naming) (slice_index sizes s - 1) (λ z. cond (eqb z y) (t.name s (slice_index sizes s - 1)) (t.name s z));
        naming = fewer-named w sizes t.name t.naming s x y known before below same;
        entries = λ k lt. absurd (omega arith);
      }))

  pub next-apart : IsApart sizes t.name
  next-apart s x y x_lt y_lt same = by_order (cases_lt x y) (cases_lt y x)
    where
      by_order : (x < y) ⊎ (y ≤ x) → (y < x) ⊎ (x ≤ y) → x ≡ y
      by_order (inl less) _ = absurd (never-fewer s x y less y_lt same)
      by_order (inr _) (inl less) = absurd (never-fewer s y x less x_lt (sym same))
      by_order (inr le) (inr ge) = omega arith
