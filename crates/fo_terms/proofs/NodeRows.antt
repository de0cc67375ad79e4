-- The nodes of a formula, constructor by constructor, over lists.
use Rattle.std.proofs.Common.{◌≡◌, ℕ, Bool, true, false, not, ◌+◌, List, [], ◌∷◌, ◌++◌, refl, ap, ◌∙◌}
use denote.Hole.Carrier.{hidden}
use Rattle.fo_core.specs.declared.formula.Formula.{Formula, Row_of-Formula, end_of-Formula, more_of-Formula, items-the_row-Formula, items_hidden-the_row-Formula-1}
use Rattle.fo_core.specs.declared.formula.Formula.TheBlock.{shape-the_row-Formula-0, hidden-the_row-Formula-0}
use Rattle.fo_core.specs.declared.formula.Formula.TheVariants as F
use Rattle.fo_core.proofs.Rows.{row_of}
use Rattle.fo_core.specs.Weights.{added, power, nodes, nodes_row}

module _ (U us : List ℕ) where
  pub nodes-Not : (b : Bool) (g : Formula) → nodes U b (F.Not g) us ≡ nodes U (not b) g us
  unfolding shape-the_row-Formula-0 hidden-the_row-Formula-0 hidden
  nodes-Not b g = refl

  pub nodes-All : (s : ℕ) (g : Formula) → nodes U true (F.All s g) us ≡ power U us + nodes U true g (us ++ s ∷ [])
  unfolding shape-the_row-Formula-0 hidden-the_row-Formula-0 hidden
  nodes-All s g = refl

  pub nodes-not_All : (s : ℕ) (g : Formula) → nodes U false (F.All s g) us ≡ power U us + nodes U false g us
  unfolding shape-the_row-Formula-0 hidden-the_row-Formula-0 hidden
  nodes-not_All s g = refl

  pub nodes-Ex : (s : ℕ) (g : Formula) → nodes U true (F.Ex s g) us ≡ power U us + nodes U true g us
  unfolding shape-the_row-Formula-0 hidden-the_row-Formula-0 hidden
  nodes-Ex s g = refl

  pub nodes-not_Ex : (s : ℕ) (g : Formula) → nodes U false (F.Ex s g) us ≡ power U us + nodes U false g (us ++ s ∷ [])
  unfolding shape-the_row-Formula-0 hidden-the_row-Formula-0 hidden
  nodes-not_Ex s g = refl

  row-added : (b : Bool) (n : _) (row : Row_of-Formula n) → nodes_row U b row us ≡ added (λ g. nodes U b g us) (items-the_row-Formula n row)
  row-added b n end_of-Formula = refl
  row-added b n (more_of-Formula f rest) = ap (λ m. nodes U b f us + m) (row-added b _ rest)

  pub nodes-And : (b : Bool) (fs : List Formula) → nodes U b (F.And fs) us ≡ power U us + added (λ g. nodes U b g us) fs
  nodes-And b fs = let row = row_of (F.And fs) in ap (λ m. power U us + m) (row-added b row.0 row.1 ∙ ap (added (λ g. nodes U b g us)) (items_hidden-the_row-Formula-1 fs))

  pub nodes-Or : (b : Bool) (fs : List Formula) → nodes U b (F.Or fs) us ≡ power U us + added (λ g. nodes U b g us) fs
  nodes-Or b fs = let row = row_of (F.Or fs) in ap (λ m. power U us + m) (row-added b row.0 row.1 ∙ ap (added (λ g. nodes U b g us)) (items_hidden-the_row-Formula-1 fs))
