-- Instances of each constructor, with lists in place of rows.
use Rattle.std.proofs.Common.{◌≡◌, ◌↔◌, ℕ, zero, suc, Bool, ◌<◌, List, [], ◌∷◌, ◌++◌, length, get_or, refl, sym, subst, arith, inl, inr}
use Rattle.std.specs.List.{All, Any}
use Rattle.std.proofs.lemmas.List.Elements.{All-nil, All-cons, All-head, All-tail}
use denote.Hole.Carrier.{hidden}
use Rattle.fo_core.specs.declared.formula.Formula.{Formula, Row_of-Formula, end_of-Formula, more_of-Formula, items-the_row-Formula, items_hidden-the_row-Formula-1}
use Rattle.fo_core.specs.declared.formula.Formula.TheBlock.{shape-the_row-Formula-0, hidden-the_row-Formula-0}
use Rattle.fo_core.specs.declared.formula.Formula.TheVariants as F
use Rattle.fo_core.proofs.Rows.{row_of}
use Rattle.fo_terms.specs.declared.terms.Ground.{Ground}
use Rattle.fo_terms.specs.Universe.{IsOf}
use Rattle.fo_norm.specs.Forms.{IsAtom, IsNormal, AreNormal}
use Rattle.fo_ground.specs.Instances.{IsMet, EachMet, SomeMet}

module _ (ts : List Ground) (at : ℕ → ℕ → List ℕ → ℕ) (same : ℕ → ℕ → Bool) (fact : ℕ → ℕ → List ℕ → Bool) where
  abbrev Met : Formula → List ℕ → Type 0
  Met = IsMet ts at same fact

  pub met-Not : (f : Formula) (env : List ℕ) → IsMet ts at same fact (F.Not f) env ≡ (¬ IsMet ts at same fact f env)
  unfolding shape-the_row-Formula-0 hidden-the_row-Formula-0 hidden
  met-Not f env = refl

  pub met-All : (s : ℕ) (f : Formula) (env : List ℕ) → IsMet ts at same fact (F.All s f) env ≡ ((p : ℕ) → IsOf ts s p → IsMet ts at same fact f (env ++ p ∷ []))
  unfolding shape-the_row-Formula-0 hidden-the_row-Formula-0 hidden
  met-All s f env = refl

  each_from : (n : _) (row : Row_of-Formula n) (env : List ℕ) → EachMet ts at same fact row env → All (λ f. IsMet ts at same fact f env) (items-the_row-Formula n row)
  each_from n end_of-Formula env h = All-nil (λ f. IsMet ts at same fact f env)
  each_from n (more_of-Formula f rest) env h = All-cons (λ f. IsMet ts at same fact f env) f _ h.0 (each_from _ rest env h.1)

  each_to : (n : _) (row : Row_of-Formula n) (env : List ℕ) → All (λ f. IsMet ts at same fact f env) (items-the_row-Formula n row) → EachMet ts at same fact row env
  each_to n end_of-Formula env h = tt
  each_to n (more_of-Formula f rest) env h = (All-head (λ f. IsMet ts at same fact f env) f _ h, each_to _ rest env (All-tail (λ f. IsMet ts at same fact f env) f _ h))

  pub met-And : (fs : List Formula) (env : List ℕ) → IsMet ts at same fact (F.And fs) env ↔ All (λ f. IsMet ts at same fact f env) fs
  met-And fs env =
      let row = row_of (F.And fs) in
      let same_items = items_hidden-the_row-Formula-1 fs in
      (λ h. subst (All (λ f. IsMet ts at same fact f env)) same_items (each_from row.0 row.1 env h), λ h. each_to row.0 row.1 env (subst (All (λ f. IsMet ts at same fact f env)) (sym same_items) h))

  any_from : (n : _) (row : Row_of-Formula n) (env : List ℕ) → SomeMet ts at same fact row env → Any (λ f. IsMet ts at same fact f env) (items-the_row-Formula n row)
  any_from n end_of-Formula env h = absurd h
  any_from n (more_of-Formula f rest) env (inl h) = (0, f, omega arith, refl, h)
  any_from n (more_of-Formula f rest) env (inr h) = let a = any_from _ rest env h in (suc a.0, a.1, omega (arith, a.2), a.3, a.4)

  any_to : (n : _) (row : Row_of-Formula n) (env : List ℕ) (k : ℕ) (d : Formula) → k < length (items-the_row-Formula n row) → IsMet ts at same fact (get_or (items-the_row-Formula n row) k d) env → SomeMet ts at same fact row env
  any_to n end_of-Formula env k d lt h = absurd (omega arith)
  any_to n (more_of-Formula f rest) env zero d lt h = inl h
  any_to n (more_of-Formula f rest) env (suc k) d lt h = inr (any_to _ rest env k d (omega arith) h)

  pub met-Or : (fs : List Formula) (env : List ℕ) → IsMet ts at same fact (F.Or fs) env ↔ Any (λ f. IsMet ts at same fact f env) fs
  met-Or fs env =
      let row = row_of (F.Or fs) in
      let same_items = items_hidden-the_row-Formula-1 fs in (
        λ h. subst (Any (λ f. IsMet ts at same fact f env)) same_items (any_from row.0 row.1 env h),
        λ h. let b = subst (Any (λ f. IsMet ts at same fact f env)) (sym same_items) h in any_to row.0 row.1 env b.0 b.1 b.2 (subst (λ f. IsMet ts at same fact f env) (sym b.3) b.4),
      )

pub normal-Not : (f : Formula) → IsNormal (F.Not f) ≡ IsAtom f
unfolding shape-the_row-Formula-0 hidden-the_row-Formula-0 hidden
normal-Not f = refl

pub normal-All : (s : ℕ) (f : Formula) → IsNormal (F.All s f) ≡ IsNormal f
unfolding shape-the_row-Formula-0 hidden-the_row-Formula-0 hidden
normal-All s f = refl

pub normal-Ex : (s : ℕ) (f : Formula) → IsNormal (F.Ex s f) → ⊥
unfolding shape-the_row-Formula-0 hidden-the_row-Formula-0 hidden
normal-Ex s f h = h

normal_from : (n : _) (row : Row_of-Formula n) → AreNormal row → All IsNormal (items-the_row-Formula n row)
normal_from n end_of-Formula h = All-nil IsNormal
normal_from n (more_of-Formula f rest) h = All-cons IsNormal f _ h.0 (normal_from _ rest h.1)

pub normal-And : (fs : List Formula) → IsNormal (F.And fs) → All IsNormal fs
normal-And fs h = let row = row_of (F.And fs) in subst (All IsNormal) (items_hidden-the_row-Formula-1 fs) (normal_from row.0 row.1 h)

pub normal-Or : (fs : List Formula) → IsNormal (F.Or fs) → All IsNormal fs
normal-Or fs h = let row = row_of (F.Or fs) in subst (All IsNormal) (items_hidden-the_row-Formula-1 fs) (normal_from row.0 row.1 h)
