-- A transition leads from one copy to the next exactly where its claim is true.
use Rattle.std.proofs.Common.{◌≡◌, ℕ, zero, suc, Bool, true, false, cond, not, ◌&&◌, ◌+◌, ◌<◌, ◌≤◌, ◌⊎◌, inl, inr, List, [], ◌∷◌, length, get_or, map, refl, sym, ap, subst, ◌∙◌, arith, true≢false}
use Rattle.std.proofs.lemmas.Bool.{cases_lt}
use Rattle.std.proofs.lemmas.Bool.Decides.{Decides-eqb}
use Rattle.std.specs.List.{All, Any, Contains, list_any}
use Rattle.std.specs.Prelude.{slice_index, ◌==◌, ◌||◌}
use Rattle.std.proofs.lemmas.List.Elements.{All-nil, All-cons, All-head, All-tail, All-append}
use Rattle.fo_core.specs.declared.signature.Sig.{Sig}
use Rattle.fo_core.specs.declared.system.Step.{Step}
use Rattle.fo_core.specs.declared.signature.Symbol.{Symbol}
use Rattle.fo_core.specs.declared.system.System.{System}
use Rattle.fo_core.specs.declared.formula.Formula.{Formula}
use Rattle.fo_core.specs.declared.formula.Formula.TheVariants as F
use Rattle.fo_core.specs.declared.world.World.{World}
use Rattle.fo_core.specs.Tables.{no_symbol, symbol_at, Fits}
use Rattle.fo_core.specs.Truth.{Truth}
use Rattle.fo_core.specs.Runs.{AreElements, KeepsOthers, LeadsOn}
use Rattle.fo_core.specs.Sorted.{IsFormula, IsSig, IsStepOf, IsSystem}
use Rattle.fo_core.specs.SortGraph.{FormulaEdge, StepsEdge}
use Rattle.fo_core.proofs.Rows.{truth-And, truth-Or, And-sorted, Or-sorted}
use Rattle.fo_core.proofs.EdgeRows.{edge-And, edge-Or}
use Rattle.fo_core.proofs.Zips.{AllZip-length}
use Rattle.up_claims.specs.Transitions.{keeps, is_kept, kept_below, transition_claim, any_transition}
use Rattle.fo_core.proofs.Binders.{some_over-from, some_over-to, some_over-sorted, some_over-edge}
use Rattle.up_claims.proofs.KeptSymbols.{keeps-from, keeps-to, keeps-sorted, keeps-edge}
use Rattle.fo_core.proofs.ListFacts.{any_cases, any_map, any_mapped, any_as, all_left, all_right, all_mapped}

-- whether a number is listed
listed-from : (xs : List ℕ) (k : ℕ) → list_any (λ m. m == k) xs ≡ true → Contains xs k
listed-from [] k h = absurd (true≢false (sym h))
listed-from (x ∷ xs) k h = by_case (x == k) refl (λ more. listed-from xs k more) h
  where
    by_case : (b : Bool) → (x == k) ≡ b → (list_any (λ m. m == k) xs ≡ true → Contains xs k) → (b || list_any (λ m. m == k) xs) ≡ true → Contains (x ∷ xs) k
    by_case true is later h = (0, omega arith, (Decides-eqb x k).0 is)
    by_case false is later h = let e = later h in (suc e.0, omega (arith, e.1), e.2)

listed-to : (xs : List ℕ) (k : ℕ) → Contains xs k → list_any (λ m. m == k) xs ≡ true
listed-to [] k h = absurd (omega (arith, h.1))
listed-to (x ∷ xs) k h = at h.0 h.1 h.2 (λ e. listed-to xs k e)
  where
    or_true : (b : Bool) → (b || true) ≡ true
    or_true true = refl
    or_true false = refl

    at : (i : ℕ) → i < length (x ∷ xs) → get_or (x ∷ xs) i k ≡ k → (Contains xs k → list_any (λ m. m == k) xs ≡ true) → ((x == k) || list_any (λ m. m == k) xs) ≡ true
    at zero lt e later = ap (λ b. b || list_any (λ m. m == k) xs) ((Decides-eqb x k).1 e)
    at (suc i) lt e later = ap (λ b. (x == k) || b) (later (i, omega arith, e)) ∙ or_true (x == k)

-- a symbol keeps its table where it is mutable and not listed
kept-from : (modifies : List ℕ) (k : ℕ) (s : Symbol) → is_kept modifies k s ≡ true → (s.mutable ≡ true) × (¬ Contains modifies k)
kept-from modifies k s h = by_case s.mutable (list_any (λ m. m == k) modifies) refl h
  where
    by_case : (m b : Bool) → list_any (λ m. m == k) modifies ≡ b → (m && not b) ≡ true → (m ≡ true) × (¬ Contains modifies k)
    by_case true false is h = (refl, λ c. absurd (true≢false (sym (listed-to modifies k c) ∙ is)))
    by_case true true is h = absurd (true≢false (sym h))
    by_case false b is h = absurd (true≢false (sym h))

kept-to : (modifies : List ℕ) (k : ℕ) (s : Symbol) → s.mutable ≡ true → ¬ Contains modifies k → is_kept modifies k s ≡ true
kept-to modifies k s mutable none = by_case (list_any (λ m. m == k) modifies) refl
  where
    by_case : (b : Bool) → list_any (λ m. m == k) modifies ≡ b → is_kept modifies k s ≡ true
    by_case true is = absurd (none (listed-from modifies k is))
    by_case false is = ap (λ m. m && not (list_any (λ m. m == k) modifies)) mutable ∙ ap not is

module _ (sig : Sig) (n : ℕ) (modifies : List ℕ) (P : Formula → Type 0) where
  abbrev claim : ℕ → Formula
  claim k = keeps n k (symbol_at sig k)

  abbrev kept : ℕ → Bool
  kept k = is_kept modifies k (symbol_at sig k)

  below-from : (m : ℕ) → All P (kept_below sig n modifies m) → (k : ℕ) → k < m → kept k ≡ true → P (claim k)
  below-from zero h k lt is = absurd (omega arith)
  below-from (suc m) h k lt is = by_case (λ below. below-from m (all_left P (kept_below sig n modifies m) (cond (kept m) (claim m ∷ []) []) h) k below is) (cases_lt k m)
    where
      last : (b : Bool) → b ≡ true → All P (cond b (claim m ∷ []) []) → P (claim m)
      last true e all = All-head P (claim m) [] all
      last false e all = absurd (true≢false (sym e))

      by_case : (k < m → P (claim k)) → (k < m) ⊎ (m ≤ k) → P (claim k)
      by_case before (inl below) = before below
      by_case before (inr le) =
          let same : m ≡ k = omega arith in
          subst (λ j. P (claim j)) same (last (kept m) (subst (λ j. kept j ≡ true) (sym same) is) (all_right P (kept_below sig n modifies m) (cond (kept m) (claim m ∷ []) []) h))

  below-to : (m : ℕ) → ((k : ℕ) → k < m → kept k ≡ true → P (claim k)) → All P (kept_below sig n modifies m)
  below-to zero h = All-nil P
  below-to (suc m) h = All-append P (kept_below sig n modifies m) (cond (kept m) (claim m ∷ []) []) (below-to m (λ k lt is. h k (omega arith) is)) (last (kept m) refl)
    where
      last : (b : Bool) → kept m ≡ b → All P (cond b (claim m ∷ []) [])
      last true is = All-cons P (claim m) [] (h m (omega arith) is) (All-nil P)
      last false is = All-nil P

module _ (sys : System) (w : World) (c : ℕ) (fits : Fits sys.sig w) (more : c + 1 < length w.copies) (step : Step) where
  abbrev parts : List Formula
  parts = step.body ∷ kept_below sys.sig (length step.params) step.modifies (length sys.sig.symbols)

  module _ (xs : List ℕ) (elements : AreElements w.sizes xs step.params) where
    count : length xs ≡ length step.params
    count = AllZip-length (λ x s. x < slice_index w.sizes s) xs step.params elements

    others-from : All (λ f. Truth sys.sig w c f xs) (kept_below sys.sig (length step.params) step.modifies (length sys.sig.symbols)) → KeepsOthers sys w c step.modifies
    others-from all k lt mutable none =
        keeps-from sys.sig w c fits more k lt xs
        (subst (λ n. Truth sys.sig w c (keeps n k (symbol_at sys.sig k)) xs) (sym count)
        (below-from sys.sig (length step.params) step.modifies (λ f. Truth sys.sig w c f xs) (length sys.sig.symbols) all k lt (kept-to step.modifies k (symbol_at sys.sig k) mutable none)))

    others-to : KeepsOthers sys w c step.modifies → All (λ f. Truth sys.sig w c f xs) (kept_below sys.sig (length step.params) step.modifies (length sys.sig.symbols))
    others-to keeping = below-to sys.sig (length step.params) step.modifies (λ f. Truth sys.sig w c f xs) (length sys.sig.symbols) each
      where
        each : (k : ℕ) → k < length sys.sig.symbols → is_kept step.modifies k (symbol_at sys.sig k) ≡ true → Truth sys.sig w c (keeps (length step.params) k (symbol_at sys.sig k)) xs
        each k lt is =
            let r = kept-from step.modifies k (symbol_at sys.sig k) is in
            subst (λ n. Truth sys.sig w c (keeps n k (symbol_at sys.sig k)) xs) count (keeps-to sys.sig w c fits more k lt xs (keeping k lt r.0 r.1))

  pub leads-from : Truth sys.sig w c (transition_claim sys.sig step) [] → LeadsOn sys w c step
  leads-from h =
      let some = some_over-from sys.sig w c step.params (F.And parts) [] h in
      let all = (truth-And sys.sig w c parts some.0).0 some.2 in
      record {
        filled = (some.0, some.1, All-head (λ f. Truth sys.sig w c f some.0) step.body _ all);
        keeps = others-from some.0 some.1 (All-tail (λ f. Truth sys.sig w c f some.0) step.body _ all);
      }

  pub leads-to : LeadsOn sys w c step → Truth sys.sig w c (transition_claim sys.sig step) []
  leads-to h =
      some_over-to sys.sig w c step.params (F.And parts) [] h.filled.0 h.filled.1
      ((truth-And sys.sig w c parts h.filled.0).1 (All-cons (λ f. Truth sys.sig w c f h.filled.0) step.body _ h.filled.2 (others-to h.filled.0 h.filled.1 h.keeps)))

module _ (sys : System) (w : World) (c : ℕ) (fits : Fits sys.sig w) (more : c + 1 < length w.copies) where
  pub any-from : Truth sys.sig w c (any_transition sys) [] → Any (LeadsOn sys w c) sys.steps
  any-from h =
      any_as (λ (step : Step). Truth sys.sig w c (transition_claim sys.sig step) []) (LeadsOn sys w c) sys.steps (λ step t. leads-from sys w c fits more step t)
      (any_map (λ f. Truth sys.sig w c f []) (transition_claim sys.sig) sys.steps ((truth-Or sys.sig w c (map (transition_claim sys.sig) sys.steps) []).0 h))

  pub any-to : Any (LeadsOn sys w c) sys.steps → Truth sys.sig w c (any_transition sys) []
  any-to h =
      (truth-Or sys.sig w c (map (transition_claim sys.sig) sys.steps) []).1
      (any_mapped (λ f. Truth sys.sig w c f []) (transition_claim sys.sig) sys.steps
      (any_as (LeadsOn sys w c) (λ (step : Step). Truth sys.sig w c (transition_claim sys.sig step) []) sys.steps (λ step t. leads-to sys w c fits more step t) h))

module _ (sig : Sig) (step : Step) where
  abbrev kept_parts : List Formula
  kept_parts = kept_below sig (length step.params) step.modifies (length sig.symbols)

  pub claim-sorted : IsSig sig → IsStepOf sig step → IsFormula sig 2 (transition_claim sig step) []
  claim-sorted is known = some_over-sorted sig 2 step.params (F.And (step.body ∷ kept_parts)) [] known.params (And-sorted sig 2 (step.body ∷ kept_parts) step.params all)
    where
      each : (k : ℕ) → k < length sig.symbols → is_kept step.modifies k (symbol_at sig k) ≡ true → IsFormula sig 2 (keeps (length step.params) k (symbol_at sig k)) step.params
      each k lt kept = keeps-sorted sig k lt (kept-from step.modifies k (symbol_at sig k) kept).0 step.params (is.sorts k no_symbol lt).args

      all : All (λ f. IsFormula sig 2 f step.params) (step.body ∷ kept_parts)
      all = All-cons (λ f. IsFormula sig 2 f step.params) step.body kept_parts known.body (below-to sig (length step.params) step.modifies (λ f. IsFormula sig 2 f step.params) (length sig.symbols) each)

  -- each edge of the claim is one of the transition's body
  pub claim-edge : (a b : ℕ) → FormulaEdge a b (transition_claim sig step) true → FormulaEdge a b step.body true
  claim-edge a b h = by_case (any_cases (λ f. FormulaEdge a b f true) step.body kept_parts ((edge-And a b (step.body ∷ kept_parts) true).0 (some_over-edge a b step.params (F.And (step.body ∷ kept_parts)) h)))
    where
      none : All (λ f. ¬ FormulaEdge a b f true) kept_parts
      none = below-to sig (length step.params) step.modifies (λ f. ¬ FormulaEdge a b f true) (length sig.symbols) (λ k lt is. keeps-edge a b (length step.params) k (symbol_at sig k))

      by_case : FormulaEdge a b step.body true ⊎ Any (λ f. FormulaEdge a b f true) kept_parts → FormulaEdge a b step.body true
      by_case (inl h) = h
      by_case (inr e) = absurd (none e.0 e.1 e.2 (subst (λ f. FormulaEdge a b f true) (sym e.3) e.4))

pub any-sorted : (sys : System) → IsSystem sys → IsFormula sys.sig 2 (any_transition sys) []
any-sorted sys is =
    Or-sorted sys.sig 2 (map (transition_claim sys.sig) sys.steps) []
    (all_mapped (λ f. IsFormula sys.sig 2 f []) (transition_claim sys.sig) sys.steps (λ k d lt. claim-sorted sys.sig (get_or sys.steps k d) is.signature (is.steps k d lt)))

pub any-edge : (sys : System) (a b : ℕ) → FormulaEdge a b (any_transition sys) true → StepsEdge sys.steps a b
any-edge sys a b h =
    any_as (λ (step : Step). FormulaEdge a b (transition_claim sys.sig step) true) (λ (step : Step). FormulaEdge a b step.body true) sys.steps (λ step e. claim-edge sys.sig step a b e)
    (any_map (λ f. FormulaEdge a b f true) (transition_claim sys.sig) sys.steps ((edge-Or a b (map (transition_claim sys.sig) sys.steps) true).0 h))
