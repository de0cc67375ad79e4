-- The sentences of a cube add no edge to the sort graph.
use Rattle.std.proofs.Common.{ℕ, Bool, true, false, map}
use Rattle.fo_core.specs.declared.signature.Sig.{Sig}
use Rattle.fo_core.specs.declared.term.Term.TheVariants as T
use Rattle.fo_core.specs.declared.formula.Formula.{Formula}
use Rattle.fo_core.specs.declared.formula.Formula.TheVariants as F
use Rattle.fo_core.specs.SortGraph.{HasExistential, FormulaEdge}
use Rattle.fo_core.proofs.Binders.{all_over-edge, some_over-edge}
use Rattle.fo_core.proofs.EdgeRows.{existential-Not, existential-Or, edge-Not, edge-And, edge-Or}
use Rattle.fo_core.proofs.ListFacts.{cast, any_map}
use Rattle.up_diagram.specs.declared.cube.Cube.{Cube}
use Rattle.up_diagram.specs.declared.cube.Flat.{Flat}
use Rattle.up_diagram.specs.declared.cube.Flat.TheVariants.{Differ, Fact, Value}
use Rattle.up_diagram.specs.Claims.{copy_for, flat_formula, claim, clause}
use Rattle.up_claims.proofs.EdgesOf.{EdgeOf}

module _ (sig : Sig) (d : ℕ) where
  -- no quantifier stands in a literal
  flat-existential : (b : ℕ) (sign : Bool) (lit : Flat) → ¬ HasExistential b (flat_formula sig d lit) sign
  flat-existential b sign (Differ i j) h = cast (existential-Not b (F.Eq (T.Var i) (T.Var j)) sign) h
  flat-existential b sign (Fact true r variables) h = h
  flat-existential b sign (Fact false r variables) h = cast (existential-Not b (F.Rel r (copy_for sig d r) (map T.Var variables)) sign) h
  flat-existential b sign (Value f variables v) h = h

  flat-edge : (a b : ℕ) (sign : Bool) (lit : Flat) → ¬ FormulaEdge a b (flat_formula sig d lit) sign
  flat-edge a b sign (Differ i j) h = cast (edge-Not a b (F.Eq (T.Var i) (T.Var j)) sign) h
  flat-edge a b sign (Fact true r variables) h = h
  flat-edge a b sign (Fact false r variables) h = cast (edge-Not a b (F.Rel r (copy_for sig d r) (map T.Var variables)) sign) h
  flat-edge a b sign (Value f variables v) h = h

  abbrev denied_lit : Flat → Formula
  denied_lit lit = F.Not (flat_formula sig d lit)

  -- so the claim of a cube has no edge, and its clause none
  pub cube-edge : (a b : ℕ) (cube : Cube) → ¬ FormulaEdge a b (claim sig cube d) true
  cube-edge a b cube h =
      let lits = map (flat_formula sig d) cube.lits in
      let some = any_map (EdgeOf a b) (flat_formula sig d) cube.lits ((edge-And a b lits true).0 (some_over-edge a b cube.sorts (F.And lits) h)) in
      flat-edge a b true some.1 some.4

  denied-existential : (b : ℕ) (cube : Cube) → ¬ HasExistential b (F.Or (map denied_lit cube.lits)) true
  denied-existential b cube h =
      let some = any_map (λ f. HasExistential b f true) denied_lit cube.lits ((existential-Or b (map denied_lit cube.lits) true).0 h) in
      flat-existential b false some.1 (cast (existential-Not b (flat_formula sig d some.1) true) some.4)

  pub clause-edge : (a b : ℕ) (cube : Cube) → ¬ FormulaEdge a b (clause sig cube d) true
  clause-edge a b cube h =
      let lits = map denied_lit cube.lits in
      let some = any_map (EdgeOf a b) denied_lit cube.lits ((edge-Or a b lits true).0 (all_over-edge a b cube.sorts (F.Or lits) (denied-existential b cube) h)) in
      flat-edge a b false some.1 (cast (edge-Not a b (flat_formula sig d some.1) true) some.4)
