-- What the definitions of the sort graph say at each constructor, over lists.
use Rattle.std.proofs.Common.{◌≡◌, ℕ, zero, suc, true, false, Bool, ◌<◌, ◌↔◌, ◌⊎◌, inl, inr, List, length, get_or, refl, sym, subst, arith}
use Rattle.std.specs.Prelude.{not}
use Rattle.std.specs.List.{Any}
use denote.Hole.Carrier.{hidden}
use Rattle.fo_core.specs.declared.formula.Formula.{Formula, Row_of-Formula, end_of-Formula, more_of-Formula, items-the_row-Formula, items_hidden-the_row-Formula-1}
use Rattle.fo_core.specs.declared.formula.Formula.TheBlock.{shape-the_row-Formula-0, hidden-the_row-Formula-0}
use Rattle.fo_core.specs.declared.formula.Formula.TheVariants as F
use Rattle.fo_core.specs.SortGraph.{HasExistential, OneHasExistential, FormulaEdge, OneFormulaEdge}
use Rattle.fo_core.proofs.Rows.{row_of}

module _ (b : ℕ) where
  pub existential-Not : (f : Formula) (sign : Bool) → HasExistential b (F.Not f) sign ≡ HasExistential b f (not sign)
  unfolding shape-the_row-Formula-0 hidden-the_row-Formula-0 hidden
  existential-Not f sign = refl

  pub existential-All : (s : ℕ) (f : Formula) (sign : Bool) → HasExistential b (F.All s f) sign ≡ (((sign ≡ false) × (s ≡ b)) ⊎ HasExistential b f sign)
  unfolding shape-the_row-Formula-0 hidden-the_row-Formula-0 hidden
  existential-All s f sign = refl

  pub existential-Ex : (s : ℕ) (f : Formula) (sign : Bool) → HasExistential b (F.Ex s f) sign ≡ (((sign ≡ true) × (s ≡ b)) ⊎ HasExistential b f sign)
  unfolding shape-the_row-Formula-0 hidden-the_row-Formula-0 hidden
  existential-Ex s f sign = refl

  existential_from : (n : _) (row : Row_of-Formula n) (sign : Bool) → OneHasExistential b row sign → Any (λ f. HasExistential b f sign) (items-the_row-Formula n row)
  existential_from n end_of-Formula sign h = absurd h
  existential_from n (more_of-Formula f rest) sign (inl h) = (0, f, omega arith, refl, h)
  existential_from n (more_of-Formula f rest) sign (inr h) = let a = existential_from _ rest sign h in (suc a.0, a.1, omega (arith, a.2), a.3, a.4)

  existential_to : (n : _) (row : Row_of-Formula n) (sign : Bool) (k : ℕ) (d : Formula) → k < length (items-the_row-Formula n row) → HasExistential b (get_or (items-the_row-Formula n row) k d) sign → OneHasExistential b row sign
  existential_to n end_of-Formula sign k d lt h = absurd (omega arith)
  existential_to n (more_of-Formula f rest) sign zero d lt h = inl h
  existential_to n (more_of-Formula f rest) sign (suc k) d lt h = inr (existential_to _ rest sign k d (omega arith) h)

  pub existential-And : (fs : List Formula) (sign : Bool) → HasExistential b (F.And fs) sign ↔ Any (λ f. HasExistential b f sign) fs
  existential-And fs sign =
      let row = row_of (F.And fs) in
      let same = items_hidden-the_row-Formula-1 fs in (
        λ h. subst (Any (λ f. HasExistential b f sign)) same (existential_from row.0 row.1 sign h),
        λ h. let e = subst (Any (λ f. HasExistential b f sign)) (sym same) h in existential_to row.0 row.1 sign e.0 e.1 e.2 (subst (λ f. HasExistential b f sign) (sym e.3) e.4),
      )

  pub existential-Or : (fs : List Formula) (sign : Bool) → HasExistential b (F.Or fs) sign ↔ Any (λ f. HasExistential b f sign) fs
  existential-Or fs sign =
      let row = row_of (F.Or fs) in
      let same = items_hidden-the_row-Formula-1 fs in (
        λ h. subst (Any (λ f. HasExistential b f sign)) same (existential_from row.0 row.1 sign h),
        λ h. let e = subst (Any (λ f. HasExistential b f sign)) (sym same) h in existential_to row.0 row.1 sign e.0 e.1 e.2 (subst (λ f. HasExistential b f sign) (sym e.3) e.4),
      )

module _ (a b : ℕ) where
  pub edge-Not : (f : Formula) (sign : Bool) → FormulaEdge a b (F.Not f) sign ≡ FormulaEdge a b f (not sign)
  unfolding shape-the_row-Formula-0 hidden-the_row-Formula-0 hidden
  edge-Not f sign = refl

  pub edge-All : (s : ℕ) (f : Formula) (sign : Bool) → FormulaEdge a b (F.All s f) sign ≡ (((sign ≡ true) × (s ≡ a) × HasExistential b f sign) ⊎ FormulaEdge a b f sign)
  unfolding shape-the_row-Formula-0 hidden-the_row-Formula-0 hidden
  edge-All s f sign = refl

  pub edge-Ex : (s : ℕ) (f : Formula) (sign : Bool) → FormulaEdge a b (F.Ex s f) sign ≡ (((sign ≡ false) × (s ≡ a) × HasExistential b f sign) ⊎ FormulaEdge a b f sign)
  unfolding shape-the_row-Formula-0 hidden-the_row-Formula-0 hidden
  edge-Ex s f sign = refl

  edge_from : (n : _) (row : Row_of-Formula n) (sign : Bool) → OneFormulaEdge a b row sign → Any (λ f. FormulaEdge a b f sign) (items-the_row-Formula n row)
  edge_from n end_of-Formula sign h = absurd h
  edge_from n (more_of-Formula f rest) sign (inl h) = (0, f, omega arith, refl, h)
  edge_from n (more_of-Formula f rest) sign (inr h) = let e = edge_from _ rest sign h in (suc e.0, e.1, omega (arith, e.2), e.3, e.4)

  edge_to : (n : _) (row : Row_of-Formula n) (sign : Bool) (k : ℕ) (d : Formula) → k < length (items-the_row-Formula n row) → FormulaEdge a b (get_or (items-the_row-Formula n row) k d) sign → OneFormulaEdge a b row sign
  edge_to n end_of-Formula sign k d lt h = absurd (omega arith)
  edge_to n (more_of-Formula f rest) sign zero d lt h = inl h
  edge_to n (more_of-Formula f rest) sign (suc k) d lt h = inr (edge_to _ rest sign k d (omega arith) h)

  pub edge-And : (fs : List Formula) (sign : Bool) → FormulaEdge a b (F.And fs) sign ↔ Any (λ f. FormulaEdge a b f sign) fs
  edge-And fs sign =
      let row = row_of (F.And fs) in
      let same = items_hidden-the_row-Formula-1 fs in (
        λ h. subst (Any (λ f. FormulaEdge a b f sign)) same (edge_from row.0 row.1 sign h),
        λ h. let e = subst (Any (λ f. FormulaEdge a b f sign)) (sym same) h in edge_to row.0 row.1 sign e.0 e.1 e.2 (subst (λ f. FormulaEdge a b f sign) (sym e.3) e.4),
      )

  pub edge-Or : (fs : List Formula) (sign : Bool) → FormulaEdge a b (F.Or fs) sign ↔ Any (λ f. FormulaEdge a b f sign) fs
  edge-Or fs sign =
      let row = row_of (F.Or fs) in
      let same = items_hidden-the_row-Formula-1 fs in (
        λ h. subst (Any (λ f. FormulaEdge a b f sign)) same (edge_from row.0 row.1 sign h),
        λ h. let e = subst (Any (λ f. FormulaEdge a b f sign)) (sym same) h in edge_to row.0 row.1 sign e.0 e.1 e.2 (subst (λ f. FormulaEdge a b f sign) (sym e.3) e.4),
      )
