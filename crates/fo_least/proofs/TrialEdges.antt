-- A trial's claim adds no edge to the sort graph.
use Rattle.std.proofs.Common.{◌≡◌, ℕ, Bool, true, false, cond, ◌⊎◌, inl, inr, List, [], ◌∷◌, ◌++◌, length, map, sum}
use Rattle.std.specs.Prelude.{slice_index, ◌==◌}
use Rattle.std.specs.List.{Any, range_with_len}
use Rattle.fo_core.specs.declared.signature.Sig.{Sig}
use Rattle.fo_core.specs.declared.signature.Symbol.{Symbol}
use Rattle.fo_core.specs.declared.term.Term.{Term, Var}
use Rattle.fo_core.specs.declared.term.Term.TheVariants as T
use Rattle.fo_core.specs.declared.formula.Formula.{Formula, Rel, Eq}
use Rattle.fo_core.specs.declared.formula.Formula.TheVariants as F
use Rattle.fo_core.specs.SortGraph.{HasExistential, FormulaEdge}
use Rattle.fo_core.specs.Tables.{symbol_at}
use Rattle.fo_core.proofs.EdgeRows.{existential-Or, edge-Not, edge-All, edge-And, edge-Or}
use Rattle.fo_core.specs.declared.cell.Cell.{Cell}
use Rattle.fo_core.specs.Cells.{cells}
use Rattle.fo_core.specs.Trials.{element_sorts, element, cover, covers, elements, has_value, have_values, claim_of}
use Rattle.fo_core.proofs.Binders.{some_over-edge}
use Rattle.fo_core.proofs.ListFacts.{cast, any_cases, any_none, any_append, any_map}

-- where no element has a property, none of some does
none_of : {X : Type 0} (P : X → Type 0) → ((x : X) → ¬ P x) → (xs : List X) → ¬ Any P xs
none_of P none xs h = none h.1 h.4

module _ (a b : ℕ) where
  cover-none : (sizes : List ℕ) (s : ℕ) → ¬ FormulaEdge a b (cover sizes s) true
  cover-none sizes s h = by_case (cast (edge-All a b s (F.Or (map equal named)) true) h)
    where
      equal : ℕ → Formula
      equal x = Eq (Var (sum sizes)) (element sizes s x)

      named : List ℕ
      named = range_with_len 0 (slice_index sizes s)

      by_case : ((true ≡ true) × (s ≡ a) × HasExistential b (F.Or (map equal named)) true) ⊎ FormulaEdge a b (F.Or (map equal named)) true → ⊥
      by_case (inl e) = none_of (λ x. HasExistential b (equal x) true) (λ x h. h) named (any_map (λ f. HasExistential b f true) equal named ((existential-Or b (map equal named) true).0 e.2))
      by_case (inr e) = none_of (λ x. FormulaEdge a b (equal x) true) (λ x h. h) named (any_map (λ f. FormulaEdge a b f true) equal named ((edge-Or a b (map equal named) true).0 e))

  has_value-none : (sizes : List ℕ) (sig : Sig) (c : Cell) (v : ℕ) → ¬ FormulaEdge a b (has_value sizes sig c v) true
  has_value-none sizes sig c v = by_kind (symbol_at sig c.symbol) (symbol_at sig c.symbol).relation
    where
      by_truth : (ts : List Term) (t : Bool) → ¬ FormulaEdge a b (cond t (F.Not (Rel c.symbol c.copy ts)) (Rel c.symbol c.copy ts)) true
      by_truth ts true h = cast (edge-Not a b (Rel c.symbol c.copy ts) true) h
      by_truth ts false h = h

      by_kind : (s : Symbol) (k : Bool) → ¬ FormulaEdge a b (cond k (cond (v == 0) (F.Not (Rel c.symbol c.copy (elements sizes s.args c.args))) (Rel c.symbol c.copy (elements sizes s.args c.args))) (Eq (T.App c.symbol c.copy (elements sizes s.args c.args)) (element sizes s.result v))) true
      by_kind s true h = by_truth (elements sizes s.args c.args) (v == 0) h
      by_kind s false h = h

  have_values-none : (sizes : List ℕ) (sig : Sig) (cs : List Cell) (us : List ℕ) → ¬ Any (λ f. FormulaEdge a b f true) (have_values sizes sig cs us)
  have_values-none sizes sig [] us h = any_none (λ f. FormulaEdge a b f true) h
  have_values-none sizes sig (c ∷ cs) [] h = any_none (λ f. FormulaEdge a b f true) h
  have_values-none sizes sig (c ∷ cs) (u ∷ us) h = by_case (have_values-none sizes sig cs us) (any_cases (λ f. FormulaEdge a b f true) (has_value sizes sig c u) (have_values sizes sig cs us) h)
    where
      by_case : ¬ Any (λ f. FormulaEdge a b f true) (have_values sizes sig cs us) → FormulaEdge a b (has_value sizes sig c u) true ⊎ Any (λ f. FormulaEdge a b f true) (have_values sizes sig cs us) → ⊥
      by_case rest (inl e) = has_value-none sizes sig c u e
      by_case rest (inr e) = rest e

  pub claim-none : (sig : Sig) (copies : ℕ) (sizes us : List ℕ) → ¬ FormulaEdge a b (claim_of sig copies sizes us) true
  claim-none sig copies sizes us h = by_case (any_append (λ f. FormulaEdge a b f true) (covers sizes) values ((edge-And a b (covers sizes ++ values) true).0 (some_over-edge a b (element_sorts sizes) (F.And (covers sizes ++ values)) h)))
    where
      values : List Formula
      values = have_values sizes sig (cells sig sizes copies) us

      by_case : Any (λ f. FormulaEdge a b f true) (covers sizes) ⊎ Any (λ f. FormulaEdge a b f true) values → ⊥
      by_case (inl e) = none_of (λ s. FormulaEdge a b (cover sizes s) true) (cover-none sizes) (range_with_len 0 (length sizes)) (any_map (λ f. FormulaEdge a b f true) (cover sizes) (range_with_len 0 (length sizes)) e)
      by_case (inr e) = have_values-none sizes sig (cells sig sizes copies) us e
