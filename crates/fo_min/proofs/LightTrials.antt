-- No trial of values is heavier than one that settles as many.
use Rattle.std.proofs.Common.{◌≡◌, ℕ, Bool, true, false, cond, ◌==◌, ◌+◌, ◌≤◌, List, [], ◌∷◌, ◌++◌, length, sym, ap, ◌∙◌, arith}
use Rattle.std.specs.List.{All}
use Rattle.std.proofs.lemmas.List.Elements.{All-nil, All-cons}
use denote.Hole.Carrier.{hidden}
use Rattle.fo_core.specs.declared.cell.Cell.{Cell}
use Rattle.fo_core.specs.declared.query.Query.{Query}
use Rattle.fo_core.specs.declared.signature.Sig.{Sig}
use Rattle.fo_core.specs.declared.formula.Formula.{Formula, Rel, Eq}
use Rattle.fo_core.specs.declared.formula.Formula.TheBlock.{shape-the_row-Formula-0, hidden-the_row-Formula-0}
use Rattle.fo_core.specs.declared.formula.Formula.TheVariants as F
use Rattle.fo_core.specs.declared.term.Term.{Term}
use Rattle.fo_core.specs.declared.term.Term.TheVariants as T
use Rattle.fo_core.specs.Cells.{cells}
use Rattle.fo_core.specs.Literals.{IsLiteral}
use Rattle.fo_core.specs.QueryWeight.{query_weight}
use Rattle.fo_core.specs.Skolems.{skolem_symbols_list}
use Rattle.fo_core.specs.Tables.{symbol_at}
use Rattle.fo_core.specs.Trials.{element_sorts, element, elements, covers, has_value, have_values, trial}
use Rattle.fo_core.specs.Weights.{nodes, claim_nodes}
use Rattle.fo_core.proofs.CubeClaims.{skolems-append, literals-nodes, literals-skolems}
use Rattle.fo_core.proofs.FewerLiterals.{cube-le}
use Rattle.fo_core.proofs.GrowingCounts.{added-append}
use Rattle.fo_least.proofs.TrialTruth.{have_values-length}

not-literal : (r d : ℕ) (args : List Term) → IsLiteral (F.Not (Rel r d args))
unfolding shape-the_row-Formula-0 hidden-the_row-Formula-0 hidden
not-literal r d args = tt

literal-of : (relation zero : Bool) (r d : ℕ) (args : List Term) (e : Formula) → IsLiteral e →
    IsLiteral (cond relation (cond zero (F.Not (Rel r d args)) (Rel r d args)) e)
literal-of true true r d args e is = not-literal r d args
literal-of true false r d args e is = tt
literal-of false zero r d args e is = is

-- each entry's value is said by a literal
pub values-literals : (sizes : List ℕ) (sig : Sig) (cs : List Cell) (vs : List ℕ) → All IsLiteral (have_values sizes sig cs vs)
values-literals sizes sig [] vs = All-nil IsLiteral
values-literals sizes sig (c ∷ cs) [] = All-nil IsLiteral
values-literals sizes sig (c ∷ cs) (v ∷ vs) =
    All-cons IsLiteral (has_value sizes sig c v) (have_values sizes sig cs vs)
    (literal-of (symbol_at sig c.symbol).relation (v == 0) c.symbol c.copy (elements sizes (symbol_at sig c.symbol).args c.args)
    (Eq (T.App c.symbol c.copy (elements sizes (symbol_at sig c.symbol).args c.args)) (element sizes (symbol_at sig c.symbol).result v)) tt)
    (values-literals sizes sig cs vs)

module _ (sig : Sig) (q : Query) (sizes few many : List ℕ) (less : length few ≤ length many) (enough : length many ≤ length (cells sig sizes q.copies)) where
  abbrev said : List ℕ → List Formula
  said vs = have_values sizes sig (cells sig sizes q.copies) vs

  skolems : (vs : List ℕ) → skolem_symbols_list true (covers sizes ++ said vs) [] ≡ skolem_symbols_list true (covers sizes) [] ++ []
  skolems vs =
      skolems-append (covers sizes) (said vs)
      ∙ ap (λ xs. skolem_symbols_list true (covers sizes) [] ++ xs) (literals-skolems (said vs) (values-literals sizes sig (cells sig sizes q.copies) vs))

  weigh : (U vs : List ℕ) → length vs ≤ length (cells sig sizes q.copies) →
      claim_nodes U (covers sizes ++ said vs) ≡ claim_nodes U (covers sizes) + length vs
  weigh U vs le = omega (
    arith,
    added-append (λ f. nodes U true f []) (covers sizes) (said vs),
    literals-nodes U (said vs) (values-literals sizes sig (cells sig sizes q.copies) vs),
    have_values-length sizes sig (cells sig sizes q.copies) vs le,
  )

  pub trial-le : query_weight sig (trial sig q sizes few) ≤ query_weight sig (trial sig q sizes many)
  trial-le =
      cube-le (element_sorts sizes) (element_sorts sizes) (covers sizes ++ said many) (covers sizes ++ said few) (λ n. omega arith)
      (skolems few ∙ sym (skolems many))
      (λ U. omega (arith, weigh U few (omega arith), weigh U many enough))
      sig q.copies q.claims []
