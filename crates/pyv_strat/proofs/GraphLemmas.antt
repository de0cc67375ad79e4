-- The sort graph of a well-sorted system is over the sorts of its signature.
use Rattle.std.proofs.Common.{◌≡◌, ℕ, suc, ◌+◌, ◌<◌, ◌≤◌, ◌⊎◌, inl, inr, ◌↔◌, Bool, true, false, not, List, [], ◌∷◌, ◌++◌, length, get_or, refl, sym, subst, ◌∙◌, arith}
use Rattle.std.proofs.lemmas.List.{get_or_default}
use Rattle.std.specs.List.{All, Any}
use Rattle.fo_core.specs.declared.signature.Sig.{Sig}
use Rattle.fo_core.specs.declared.signature.Symbol.{Symbol}
use Rattle.fo_core.specs.declared.system.Step.{Step}
use Rattle.fo_core.specs.declared.system.System.{System}
use Rattle.fo_core.specs.declared.formula.Formula.{Formula, True, False, Rel, Eq, Not', And', Or', All', Ex', Row_of-Formula, end_of-Formula, more_of-Formula}
use Rattle.fo_core.specs.declared.order.Purpose.{Purpose}
use Rattle.fo_core.specs.declared.order.Purpose.TheVariants.{Infer, Verify}
use Rattle.fo_core.specs.Sorted.{IsFormula, AreFormulas, AreClosed, HasSorts, IsSig, IsStepOf, IsSystem}
use Rattle.fo_core.specs.SortGraph.{HasExistential, OneHasExistential, FormulaEdge, OneFormulaEdge, Leads, FunctionEdge, FormulasEdge, StepsEdge, InferEdge, VerifyEdge, SortEdge, IsCycle, BeginsLeast, ComesFirst, IsFirstCycle, IsStratified, Rises, IsWalk}
use Rattle.pyv_strat.specs.declared.edges.Edge.{Edge}
use Rattle.pyv_strat.specs.Edges.{Among, AreWithin}
use Rattle.pyv_strat.proofs.WalkLemmas.{walk-as, rises-along}

module _ (sig : Sig) (copies b : ℕ) where
  mutual
    existential-within : (f : Formula) (ss : List ℕ) (sign : Bool) → IsFormula sig copies f ss → HasExistential b f sign → b < sig.sorts
    existential-within True ss sign is h = absurd h
    existential-within False ss sign is h = absurd h
    existential-within (Rel r d args) ss sign is h = absurd h
    existential-within (Eq x y) ss sign is h = absurd h
    existential-within (Not' _ (more_of-Formula f _)) ss sign is h = existential-within f ss (not sign) is h
    existential-within (And' _ fs) ss sign is h = existentials-within fs ss sign is h
    existential-within (Or' _ fs) ss sign is h = existentials-within fs ss sign is h
    existential-within (All' s _ (more_of-Formula f _)) ss sign is (inl h) = subst (λ n. n < sig.sorts) h.1 is.0
    existential-within (All' s _ (more_of-Formula f _)) ss sign is (inr h) = existential-within f (ss ++ s ∷ []) sign is.1 h
    existential-within (Ex' s _ (more_of-Formula f _)) ss sign is (inl h) = subst (λ n. n < sig.sorts) h.1 is.0
    existential-within (Ex' s _ (more_of-Formula f _)) ss sign is (inr h) = existential-within f (ss ++ s ∷ []) sign is.1 h

    existentials-within : {n : _} (row : Row_of-Formula n) (ss : List ℕ) (sign : Bool) → AreFormulas sig copies row ss → OneHasExistential b row sign → b < sig.sorts
    existentials-within end_of-Formula ss sign is h = absurd h
    existentials-within (more_of-Formula f rest) ss sign is (inl h) = existential-within f ss sign is.0 h
    existentials-within (more_of-Formula f rest) ss sign is (inr h) = existentials-within rest ss sign is.1 h

module _ (sig : Sig) (copies a b : ℕ) where
  mutual
    edge-within : (f : Formula) (ss : List ℕ) (sign : Bool) → IsFormula sig copies f ss → FormulaEdge a b f sign → (a < sig.sorts) × (b < sig.sorts)
    edge-within True ss sign is h = absurd h
    edge-within False ss sign is h = absurd h
    edge-within (Rel r d args) ss sign is h = absurd h
    edge-within (Eq x y) ss sign is h = absurd h
    edge-within (Not' _ (more_of-Formula f _)) ss sign is h = edge-within f ss (not sign) is h
    edge-within (And' _ fs) ss sign is h = edges-within fs ss sign is h
    edge-within (Or' _ fs) ss sign is h = edges-within fs ss sign is h
    edge-within (All' s _ (more_of-Formula f _)) ss sign is (inl h) = (subst (λ n. n < sig.sorts) h.1 is.0, existential-within sig copies b f (ss ++ s ∷ []) sign is.1 h.2)
    edge-within (All' s _ (more_of-Formula f _)) ss sign is (inr h) = edge-within f (ss ++ s ∷ []) sign is.1 h
    edge-within (Ex' s _ (more_of-Formula f _)) ss sign is (inl h) = (subst (λ n. n < sig.sorts) h.1 is.0, existential-within sig copies b f (ss ++ s ∷ []) sign is.1 h.2)
    edge-within (Ex' s _ (more_of-Formula f _)) ss sign is (inr h) = edge-within f (ss ++ s ∷ []) sign is.1 h

    edges-within : {n : _} (row : Row_of-Formula n) (ss : List ℕ) (sign : Bool) → AreFormulas sig copies row ss → OneFormulaEdge a b row sign → (a < sig.sorts) × (b < sig.sorts)
    edges-within end_of-Formula ss sign is h = absurd h
    edges-within (more_of-Formula f rest) ss sign is (inl h) = edge-within f ss sign is.0 h
    edges-within (more_of-Formula f rest) ss sign is (inr h) = edges-within rest ss sign is.1 h

module _ (sys : System) (is : IsSystem sys) (a b : ℕ) where
  abbrev Within : Type 0
  Within = (a < sys.sig.sorts) × (b < sys.sig.sorts)

  closed-within : (fs : List Formula) (sign : Bool) → AreClosed sys.sig fs → FormulasEdge fs sign a b → Within
  closed-within fs sign closed h = edge-within sys.sig 1 a b h.1 [] sign (subst (λ f. IsFormula sys.sig 1 f []) h.3 (closed h.0 h.1 h.2)) h.4

  steps-within : StepsEdge sys.steps a b → Within
  steps-within h =
      let step : IsStepOf sys.sig h.1 = subst (IsStepOf sys.sig) h.3 (is.steps h.0 h.1 h.2) in
      edge-within sys.sig 2 a b h.1.body h.1.params true step.body h.4

  function-within : FunctionEdge sys.sig a b → Within
  function-within h =
      let sorts : HasSorts sys.sig.sorts h.1 = subst (HasSorts sys.sig.sorts) h.3 (is.signature.sorts h.0 h.1 h.2) in
      let found = h.4.argument in
      (subst (λ n. n < sys.sig.sorts) found.2 (sorts.args found.0 a found.1), subst (λ n. n < sys.sig.sorts) h.4.result (sorts.result h.4.function))

  infer-within : InferEdge sys a b → Within
  infer-within (inl h) = function-within h
  infer-within (inr (inl h)) = closed-within sys.axioms true is.axioms h
  infer-within (inr (inr (inl h))) = closed-within sys.inits true is.inits h
  infer-within (inr (inr (inr (inl h)))) = steps-within h
  infer-within (inr (inr (inr (inr h)))) = closed-within sys.safeties false is.safeties h

  verify-within : VerifyEdge sys a b → Within
  verify-within (inl h) = infer-within h
  verify-within (inr (inl h)) = closed-within sys.safeties true is.safeties h
  verify-within (inr (inr (inl h))) = closed-within sys.invariants true is.invariants h
  verify-within (inr (inr (inr h))) = closed-within sys.invariants false is.invariants h

  graph-within : (purpose : Purpose) → SortEdge sys purpose a b → Within
  graph-within Infer h = infer-within h
  graph-within Verify h = verify-within h

pub are-within : (sys : System) (purpose : Purpose) (edges : List Edge) → IsSystem sys → ((a b : ℕ) → Among edges a b ↔ SortEdge sys purpose a b) → AreWithin sys.sig.sorts edges
are-within sys purpose edges is same k d lt = graph-within sys is e.from e.to purpose ((same e.from e.to).0 (k, e, lt, get_or_default edges k e d lt, (refl, refl)))
  where
    e : Edge
    e = get_or edges k d

-- numbers and cycles, along the same edges said in another way
pub rises-as : (E F : ℕ → ℕ → Type 0) → ((a b : ℕ) → E a b ↔ F a b) → (sorts : ℕ) (numbers : List ℕ) → Rises E sorts numbers → Rises F sorts numbers
rises-as E F same sorts numbers rises = record { one_each = rises.one_each; rising = λ a b e. rises.rising a b ((same a b).1 e) }

cycle-as : (E F : ℕ → ℕ → Type 0) → ((a b : ℕ) → E a b → F a b) → (cs : List ℕ) → IsCycle E cs → IsCycle F cs
cycle-as E F same [] h = absurd h
cycle-as E F same (a ∷ rest) h = (h.0, walk-as E F same rest a a h.1)

pub first-as : (E F : ℕ → ℕ → Type 0) → ((a b : ℕ) → E a b ↔ F a b) → (cs : List ℕ) → IsFirstCycle E cs → IsFirstCycle F cs
first-as E F same cs first = record {
  closed = cycle-as E F (λ a b. (same a b).0) cs first.closed;
  fewest = λ other h. first.fewest other (cycle-as F E (λ a b. (same a b).1) other h);
  begun = first.begun;
  first = λ other h begins long. first.first other (cycle-as F E (λ a b. (same a b).1) other h) begins long;
}

-- numbers don't rise along a cycle
pub no-numbers : (E : ℕ → ℕ → Type 0) (cs : List ℕ) → IsCycle E cs → (sorts : ℕ) (numbers : List ℕ) → ¬ Rises E sorts numbers
no-numbers E [] h sorts numbers rises = absurd h
no-numbers E (a ∷ rest) h sorts numbers rises = absurd (omega (arith, h.0, rises-along E sorts numbers rises rest a a h.1))
