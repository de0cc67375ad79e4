-- The edges that a formula has below universals of some sorts, constructor by constructor.
use Rattle.std.proofs.Common.{◌≡◌, ℕ, ◌⊎◌, inl, inr, ◌↔◌, ◌<◌, length, get_or, Bool, true, false, true≢false, not, List, [], ◌∷◌, ◌++◌, sym, ◌∙◌, arith}
use Rattle.std.specs.List.{Any, Contains}
use Rattle.fo_core.specs.declared.formula.Formula.{Formula}
use Rattle.fo_core.specs.declared.formula.Formula.TheVariants as F
use Rattle.fo_core.specs.SortGraph.{HasExistential, FormulaEdge}
use Rattle.fo_core.proofs.EdgeRows.{existential-Not, existential-All, existential-Ex, existential-And, existential-Or, edge-Not, edge-All, edge-Ex, edge-And, edge-Or}
use Rattle.pyv_strat.proofs.EdgeLemmas.{contains-push}

-- an edge of the formula, or from one of the sorts above it to an existential of its own
abbrev pub EdgeUnder : List ℕ → Bool → Formula → ℕ → ℕ → Type 0
EdgeUnder above sign f a b = FormulaEdge a b f sign ⊎ (Contains above a × HasExistential b f sign)

module _ (above : List ℕ) (a b : ℕ) where
  pub under-Not : (sign : Bool) (f : Formula) → EdgeUnder above (not sign) f a b ↔ EdgeUnder above sign (F.Not f) a b
  under-Not sign f = rw (edge-Not a b f sign, existential-Not b f sign) (λ h. h, λ h. h)

  -- a member's edge is an edge of the whole, where edges and existentials are
  of_members : (fs : List Formula) (sign : Bool) (E H : Type 0) → E ↔ Any (λ f. FormulaEdge a b f sign) fs → H ↔ Any (λ f. HasExistential b f sign) fs → Any (λ f. EdgeUnder above sign f a b) fs ↔ (E ⊎ (Contains above a × H))
  of_members fs sign E H edges existentials = (λ h. there h.0 h.1 h.2 h.3 h.4, back)
    where
      there : (k : ℕ) (f : Formula) → k < length fs → get_or fs k f ≡ f → EdgeUnder above sign f a b → E ⊎ (Contains above a × H)
      there k f lt is (inl e) = inl (edges.1 (k, f, lt, is, e))
      there k f lt is (inr h) = inr (h.0, existentials.1 (k, f, lt, is, h.1))

      edge_in : Any (λ f. FormulaEdge a b f sign) fs → Any (λ f. EdgeUnder above sign f a b) fs
      edge_in h = (h.0, h.1, h.2, h.3, inl h.4)

      below_in : Contains above a → Any (λ f. HasExistential b f sign) fs → Any (λ f. EdgeUnder above sign f a b) fs
      below_in has h = (h.0, h.1, h.2, h.3, inr (has, h.4))

      back : E ⊎ (Contains above a × H) → Any (λ f. EdgeUnder above sign f a b) fs
      back (inl e) = edge_in (edges.0 e)
      back (inr h) = below_in h.0 (existentials.0 h.1)

  pub under-And : (fs : List Formula) (sign : Bool) → Any (λ f. EdgeUnder above sign f a b) fs ↔ EdgeUnder above sign (F.And fs) a b
  under-And fs sign = of_members fs sign _ _ (edge-And a b fs sign) (existential-And b fs sign)

  pub under-Or : (fs : List Formula) (sign : Bool) → Any (λ f. EdgeUnder above sign f a b) fs ↔ EdgeUnder above sign (F.Or fs) a b
  under-Or fs sign = of_members fs sign _ _ (edge-Or a b fs sign) (existential-Or b fs sign)

  -- a universal of sort s: what stands below it has one more sort above
  universal : (U V E H : Type 0) (s : ℕ) → U → ¬ V → (E ⊎ (Contains (above ++ s ∷ []) a × H)) ↔ (((U × (s ≡ a) × H) ⊎ E) ⊎ (Contains above a × ((V × (s ≡ b)) ⊎ H)))
  universal U V E H s u v = (there, back)
    where
      split : H → Contains above a ⊎ (s ≡ a) → ((U × (s ≡ a) × H) ⊎ E) ⊎ (Contains above a × ((V × (s ≡ b)) ⊎ H))
      split h (inl has) = inr (has, inr h)
      split h (inr is) = inl (inl (u, is, h))

      there : E ⊎ (Contains (above ++ s ∷ []) a × H) → ((U × (s ≡ a) × H) ⊎ E) ⊎ (Contains above a × ((V × (s ≡ b)) ⊎ H))
      there (inl e) = inl (inr e)
      there (inr h) = split h.1 ((contains-push above s a).0 h.0)

      lower : Contains above a → (V × (s ≡ b)) ⊎ H → E ⊎ (Contains (above ++ s ∷ []) a × H)
      lower has (inl h) = absurd (v h.0)
      lower has (inr h) = inr ((contains-push above s a).1 (inl has), h)

      back : ((U × (s ≡ a) × H) ⊎ E) ⊎ (Contains above a × ((V × (s ≡ b)) ⊎ H)) → E ⊎ (Contains (above ++ s ∷ []) a × H)
      back (inl (inl h)) = inr ((contains-push above s a).1 (inr h.1), h.2)
      back (inl (inr e)) = inl e
      back (inr h) = lower h.0 h.1

  -- an existential of sort s has an edge from each sort above it
  existential : (U V E H : Type 0) (s : ℕ) → ¬ U → V → ((Contains above a × (s ≡ b)) ⊎ (E ⊎ (Contains above a × H))) ↔ (((U × (s ≡ a) × H) ⊎ E) ⊎ (Contains above a × ((V × (s ≡ b)) ⊎ H)))
  existential U V E H s u v = (there, back)
    where
      there : (Contains above a × (s ≡ b)) ⊎ (E ⊎ (Contains above a × H)) → ((U × (s ≡ a) × H) ⊎ E) ⊎ (Contains above a × ((V × (s ≡ b)) ⊎ H))
      there (inl h) = inr (h.0, inl (v, h.1))
      there (inr (inl e)) = inl (inr e)
      there (inr (inr h)) = inr (h.0, inr h.1)

      lower : Contains above a → (V × (s ≡ b)) ⊎ H → (Contains above a × (s ≡ b)) ⊎ (E ⊎ (Contains above a × H))
      lower has (inl is) = inl (has, is.1)
      lower has (inr h) = inr (inr (has, h))

      back : ((U × (s ≡ a) × H) ⊎ E) ⊎ (Contains above a × ((V × (s ≡ b)) ⊎ H)) → (Contains above a × (s ≡ b)) ⊎ (E ⊎ (Contains above a × H))
      back (inl (inl h)) = absurd (u h.0)
      back (inl (inr e)) = inr (inl e)
      back (inr h) = lower h.0 h.1

  pub under-All-true : (s : ℕ) (f : Formula) (sign : Bool) → sign ≡ true → EdgeUnder (above ++ s ∷ []) sign f a b ↔ EdgeUnder above sign (F.All s f) a b
  under-All-true s f sign is = rw (edge-All a b s f sign, existential-All b s f sign) (universal (sign ≡ true) (sign ≡ false) (FormulaEdge a b f sign) (HasExistential b f sign) s is (λ w. true≢false (sym is ∙ w)))

  pub under-All-false : (s : ℕ) (f : Formula) (sign : Bool) → sign ≡ false → ((Contains above a × (s ≡ b)) ⊎ EdgeUnder above sign f a b) ↔ EdgeUnder above sign (F.All s f) a b
  under-All-false s f sign is = rw (edge-All a b s f sign, existential-All b s f sign) (existential (sign ≡ true) (sign ≡ false) (FormulaEdge a b f sign) (HasExistential b f sign) s (λ w. true≢false (sym w ∙ is)) is)

  pub under-Ex-false : (s : ℕ) (f : Formula) (sign : Bool) → sign ≡ false → EdgeUnder (above ++ s ∷ []) sign f a b ↔ EdgeUnder above sign (F.Ex s f) a b
  under-Ex-false s f sign is = rw (edge-Ex a b s f sign, existential-Ex b s f sign) (universal (sign ≡ false) (sign ≡ true) (FormulaEdge a b f sign) (HasExistential b f sign) s is (λ w. true≢false (sym w ∙ is)))

  pub under-Ex-true : (s : ℕ) (f : Formula) (sign : Bool) → sign ≡ true → ((Contains above a × (s ≡ b)) ⊎ EdgeUnder above sign f a b) ↔ EdgeUnder above sign (F.Ex s f) a b
  under-Ex-true s f sign is = rw (edge-Ex a b s f sign, existential-Ex b s f sign) (existential (sign ≡ false) (sign ≡ true) (FormulaEdge a b f sign) (HasExistential b f sign) s (λ w. true≢false (sym is ∙ w)) is)

-- below no sort a formula has its own edges alone
pub under-none : (a b : ℕ) (sign : Bool) (f : Formula) → EdgeUnder [] sign f a b ↔ FormulaEdge a b f sign
under-none a b sign f = (there, λ e. inl e)
  where
    there : EdgeUnder [] sign f a b → FormulaEdge a b f sign
    there (inl e) = e
    there (inr h) = let lt = h.0.1 in absurd (omega (arith, lt))
