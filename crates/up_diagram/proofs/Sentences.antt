-- The sentences of a cube are well-sorted, and its clause is universal.
use Rattle.std.proofs.Common.{ℕ, true, false, Bool, cond, ◌+◌, ◌<◌, List, [], ◌∷◌, get_or, map, refl, arith}
use Rattle.std.specs.Prelude.{slice_index}
use Rattle.std.specs.List.{All, AllZip}
use Rattle.fo_core.specs.declared.signature.Sig.{Sig}
use Rattle.fo_core.specs.declared.term.Term.TheVariants as T
use Rattle.fo_core.specs.declared.formula.Formula.{Formula}
use Rattle.fo_core.specs.declared.formula.Formula.TheVariants as F
use Rattle.fo_core.specs.Tables.{symbol_at}
use Rattle.fo_core.specs.Sorted.{IsSymbol, IsTerm, IsFormula}
use Rattle.fo_core.specs.Universal.{IsUniversal, IsUniversalSentence}
use Rattle.fo_core.proofs.Rows.{sorted-Not, And-sorted, Or-sorted, App-sorted}
use Rattle.fo_core.proofs.Binders.{all_over-sorted, some_over-sorted}
use Rattle.fo_core.proofs.ListFacts.{back, all_mapped, all_as}
use Rattle.up_diagram.specs.declared.cube.Flat.{Flat}
use Rattle.up_diagram.specs.declared.cube.Flat.TheVariants.{Differ, Fact, Value}
use Rattle.up_diagram.specs.declared.cube.Cube.{Cube}
use Rattle.up_diagram.specs.Cubes.{HasSort, IsApplied, IsFlat, IsCube}
use Rattle.up_diagram.proofs.UniversalRows.{universal-Not, Or-universal, all-universal}
use Rattle.up_diagram.specs.Claims.{copy_for, signed, flat_formula, claim, clause}

module _ (sig : Sig) (d : ℕ) (ss : List ℕ) where
  symbol-is : (relation : Bool) (k : ℕ) (variables : List ℕ) → IsApplied sig ss relation k variables → IsSymbol sig (d + 1) relation k (copy_for sig d k)
  symbol-is relation k variables a = record { within = a.symbol; kind = a.kind; copy = by_kind (symbol_at sig k).mutable }
    where
      by_kind : (b : Bool) → cond b d 0 < cond b (d + 1) 1
      by_kind true = omega arith
      by_kind false = omega arith

  terms-are : (variables wanted : List ℕ) → AllZip (HasSort ss) variables wanted → AllZip (λ t s. IsTerm sig (d + 1) t ss s) (map T.Var variables) wanted
  terms-are [] [] h = tt
  terms-are [] (s ∷ wanted) h = absurd h
  terms-are (v ∷ variables) [] h = absurd h
  terms-are (v ∷ variables) (s ∷ wanted) h = ((h.0.within, h.0.sort), terms-are variables wanted h.1)

  signed-sorted : (sign : Bool) (f : Formula) → IsFormula sig (d + 1) f ss → IsFormula sig (d + 1) (signed sign f) ss
  signed-sorted true f h = h
  signed-sorted false f h = back (sorted-Not sig (d + 1) f ss) h

  flat-sorted : (lit : Flat) → IsFlat sig ss lit → IsFormula sig (d + 1) (flat_formula sig d lit) ss
  flat-sorted (Differ i j) h = back (sorted-Not sig (d + 1) (F.Eq (T.Var i) (T.Var j)) ss) (slice_index ss j, (h.0.within, h.0.sort), (h.1, refl))
  flat-sorted (Fact sign r variables) h =
      signed-sorted sign (F.Rel r (copy_for sig d r) (map T.Var variables)) (symbol-is true r variables h, terms-are variables (symbol_at sig r).args h.arguments)
  flat-sorted (Value f variables v) h = (
    (symbol_at sig f).result,
    App-sorted sig (d + 1) f (copy_for sig d f) (map T.Var variables) ss (symbol_at sig f).result (symbol-is false f variables h.0) refl (terms-are variables (symbol_at sig f).args h.0.arguments),
    (h.1.within, h.1.sort),
  )

module _ (sig : Sig) (cube : Cube) (d : ℕ) (h : IsCube sig cube) where
  lits-sorted : All (λ lit. IsFormula sig (d + 1) (flat_formula sig d lit) cube.sorts) cube.lits
  lits-sorted = all_as (IsFlat sig cube.sorts) (λ lit. IsFormula sig (d + 1) (flat_formula sig d lit) cube.sorts) cube.lits (flat-sorted sig d cube.sorts) h.lits

  pub claim-sorted : IsFormula sig (d + 1) (claim sig cube d) []
  claim-sorted =
      some_over-sorted sig (d + 1) cube.sorts (F.And (map (flat_formula sig d) cube.lits)) [] h.sorts
      (And-sorted sig (d + 1) (map (flat_formula sig d) cube.lits) cube.sorts (all_mapped (λ f. IsFormula sig (d + 1) f cube.sorts) (flat_formula sig d) cube.lits lits-sorted))

  pub clause-sorted : IsFormula sig (d + 1) (clause sig cube d) []
  clause-sorted =
      all_over-sorted sig (d + 1) cube.sorts (F.Or (map (λ lit. F.Not (flat_formula sig d lit)) cube.lits)) [] h.sorts
      (Or-sorted sig (d + 1) (map (λ lit. F.Not (flat_formula sig d lit)) cube.lits) cube.sorts
      (all_mapped (λ f. IsFormula sig (d + 1) f cube.sorts) (λ lit. F.Not (flat_formula sig d lit)) cube.lits
      (all_as (λ lit. IsFormula sig (d + 1) (flat_formula sig d lit) cube.sorts) (λ lit. IsFormula sig (d + 1) (F.Not (flat_formula sig d lit)) cube.sorts) cube.lits (λ lit s. back (sorted-Not sig (d + 1) (flat_formula sig d lit) cube.sorts) s) lits-sorted)))

-- no quantifier stands in a literal
flat-universal : (sig : Sig) (d : ℕ) (b : Bool) (lit : Flat) → IsUniversal b (flat_formula sig d lit)
flat-universal sig d b (Differ i j) = back (universal-Not b (F.Eq (T.Var i) (T.Var j))) tt
flat-universal sig d b (Fact true r variables) = tt
flat-universal sig d b (Fact false r variables) = back (universal-Not b (F.Rel r (copy_for sig d r) (map T.Var variables))) tt
flat-universal sig d b (Value f variables v) = tt

pub clause-universal : (sig : Sig) (cube : Cube) → IsCube sig cube → IsUniversalSentence sig (clause sig cube 0)
clause-universal sig cube h = record {
  sorted = clause-sorted sig cube 0 h;
  universal =
      all-universal cube.sorts (F.Or (map (λ lit. F.Not (flat_formula sig 0 lit)) cube.lits))
      (Or-universal true (map (λ lit. F.Not (flat_formula sig 0 lit)) cube.lits)
      (all_mapped (IsUniversal true) (λ lit. F.Not (flat_formula sig 0 lit)) cube.lits
      (λ k lit lt. back (universal-Not true (flat_formula sig 0 (get_or cube.lits k lit))) (flat-universal sig 0 false (get_or cube.lits k lit)))));
}
