-- The queries that verify a property: which worlds meet them, and their edges.
use Rattle.std.proofs.Common.{◌≡◌, ℕ, true, false, ◌+◌, ◌<◌, ◌↔◌, ◌⊎◌, inl, inr, List, [], ◌∷◌, ◌++◌, length, sym, subst, ◌∙◌, arith, length-append}
use Rattle.std.proofs.lemmas.List.{get_or_default}
use Rattle.std.specs.List.{All, Any}
use Rattle.std.proofs.lemmas.List.Elements.{All-nil, All-cons, All-head, All-tail, All-append}
use Rattle.fo_core.specs.declared.order.Purpose.TheVariants.{Verify}
use Rattle.fo_core.specs.declared.query.Query.{Query}
use Rattle.fo_core.specs.declared.system.System.{System}
use Rattle.fo_core.specs.declared.formula.Formula.{Formula}
use Rattle.fo_core.specs.declared.formula.Formula.TheVariants as F
use Rattle.fo_core.specs.declared.world.World.{World}
use Rattle.fo_core.specs.Queries.{IsQuery, MeetsQuery}
use Rattle.fo_core.specs.SortGraph.{FormulaEdge, FormulasEdge, FunctionEdge, VerifyEdge, SortEdge, ClaimsEdge, Rises}
use Rattle.fo_core.specs.Sorted.{IsFormula, IsSystem}
use Rattle.fo_core.specs.Tables.{Fits}
use Rattle.fo_core.specs.Truth.{Truth}
use Rattle.up_claims.specs.Breaking.{BreaksAtInit, BreaksByStep}
use Rattle.up_claims.specs.Claims.{no_step, step_at, properties, property_at, at_copy, denied, init_claims, step_claims}
use Rattle.up_claims.specs.Transitions.{transition_claim}
use Rattle.up_claims.proofs.CopyLemmas.{rises-fewer, at-from, at-to, at-sorted, at-edge, denied-from, denied-to, denied-sorted, denied-edge}
use Rattle.up_claims.proofs.EdgesOf.{EdgeOf}
use Rattle.fo_core.proofs.ListFacts.{any_cases, any_one, any_append, all_left, all_right}
use Rattle.up_claims.proofs.TransitionLemmas.{leads-from, leads-to, claim-sorted, claim-edge}

module _ (sys : System) (is : IsSystem sys) (p : ℕ) (has : p < length sys.safeties + length sys.invariants) where
  listed : p < length (properties sys)
  listed = omega (arith, has, length-append sys.safeties sys.invariants)

  pub property-sorted : IsFormula sys.sig 1 (property_at sys p) []
  property-sorted = All-append (λ f. IsFormula sys.sig 1 f []) sys.safeties sys.invariants is.safeties is.invariants p F.True listed

  -- an edge of a property's negation is one that verification looks at
  pub property-edge : (a b : ℕ) → FormulaEdge a b (property_at sys p) false → VerifyEdge sys a b
  property-edge a b e = by_case (any_append (λ f. FormulaEdge a b f false) sys.safeties sys.invariants (p, property_at sys p, listed, get_or_default (properties sys) p (property_at sys p) F.True listed, e))
    where
      by_case : FormulasEdge sys.safeties false a b ⊎ FormulasEdge sys.invariants false a b → VerifyEdge sys a b
      by_case (inl h) = inl (inr (inr (inr (inr h))))
      by_case (inr h) = inr (inr (inr h))

-- at the start
module _ (sys : System) (p : ℕ) where
  abbrev last : List Formula
  last = denied sys.sig 0 (property_at sys p) ∷ []

  abbrev states : List Formula
  states = at_copy sys.sig 0 sys.axioms

  abbrev inits : List Formula
  inits = at_copy sys.sig 0 sys.inits

  module _ (w : World) where
    abbrev T : Formula → Type 0
    T f = Truth sys.sig w 0 f []

    init-from : Fits sys.sig w → length w.copies ≡ 1 → All T (init_claims sys p) → BreaksAtInit sys p w
    init-from fits copies h =
        let before = all_left T (states ++ inits) last h in
        record {
          fits = fits;
          copies = copies;
          initial = record {
            state = at-from sys.sig 0 w sys.axioms (all_left T states inits before);
            inits = at-from sys.sig 0 w sys.inits (all_right T states inits before);
          };
          broken = denied-from sys.sig 0 (property_at sys p) w (All-head T (denied sys.sig 0 (property_at sys p)) [] (all_right T (states ++ inits) last h));
        }

    init-to : BreaksAtInit sys p w → All T (init_claims sys p)
    init-to h =
        All-append T (states ++ inits) last
        (All-append T states inits (at-to sys.sig 0 w sys.axioms h.initial.state) (at-to sys.sig 0 w sys.inits h.initial.inits))
        (All-cons T (denied sys.sig 0 (property_at sys p)) [] (denied-to sys.sig 0 (property_at sys p) w h.broken) (All-nil T))

  module _ (is : IsSystem sys) (has : p < length sys.safeties + length sys.invariants) where
    init-sorted : All (λ f. IsFormula sys.sig 1 f []) (init_claims sys p)
    init-sorted =
        All-append (λ f. IsFormula sys.sig 1 f []) (states ++ inits) last
        (All-append (λ f. IsFormula sys.sig 1 f []) states inits (at-sorted sys.sig 0 1 sys.axioms is.axioms (omega arith)) (at-sorted sys.sig 0 1 sys.inits is.inits (omega arith)))
        (All-cons (λ f. IsFormula sys.sig 1 f []) (denied sys.sig 0 (property_at sys p)) [] (denied-sorted sys.sig 0 (property_at sys p) 1 1 (property-sorted sys is p has) (omega arith)) (All-nil (λ f. IsFormula sys.sig 1 f [])))

    init-edge : (a b : ℕ) → FormulasEdge (init_claims sys p) true a b → VerifyEdge sys a b
    init-edge a b h = first (any_append (EdgeOf a b) (states ++ inits) last h)
      where
        second : Any (EdgeOf a b) states ⊎ Any (EdgeOf a b) inits → VerifyEdge sys a b
        second (inl e) = inl (inr (inl (at-edge sys.sig 0 sys.axioms a b e)))
        second (inr e) = inl (inr (inr (inl (at-edge sys.sig 0 sys.inits a b e))))

        first : Any (EdgeOf a b) (states ++ inits) ⊎ Any (EdgeOf a b) last → VerifyEdge sys a b
        first (inl e) = second (any_append (EdgeOf a b) states inits e)
        first (inr e) = property-edge sys is p has a b (denied-edge sys.sig 0 (property_at sys p) a b (any_one (EdgeOf a b) (denied sys.sig 0 (property_at sys p)) e))

-- by a transition
module _ (sys : System) (t p : ℕ) where
  abbrev states0 : List Formula
  states0 = at_copy sys.sig 0 sys.axioms

  abbrev states1 : List Formula
  states1 = at_copy sys.sig 1 sys.axioms

  abbrev safe : List Formula
  safe = at_copy sys.sig 0 sys.safeties

  abbrev invariant : List Formula
  invariant = at_copy sys.sig 0 sys.invariants

  abbrev bad : Formula
  bad = denied sys.sig 1 (property_at sys p)

  abbrev ending : List Formula
  ending = transition_claim sys.sig (step_at sys t) ∷ bad ∷ []

  module _ (w : World) where
    abbrev S : Formula → Type 0
    S f = Truth sys.sig w 0 f []

    step-from : Fits sys.sig w → length w.copies ≡ 2 → All S (step_claims sys t p) → BreaksByStep sys t p w
    step-from fits copies h =
        let h4 = all_left S (states0 ++ states1 ++ safe ++ invariant) ending h in
        let h3 = all_left S (states0 ++ states1 ++ safe) invariant h4 in
        let h2 = all_left S (states0 ++ states1) safe h3 in
        let end = all_right S (states0 ++ states1 ++ safe ++ invariant) ending h in
        record {
          fits = fits;
          copies = copies;
          state = at-from sys.sig 0 w sys.axioms (all_left S states0 states1 h2);
          next_state = at-from sys.sig 1 w sys.axioms (all_right S states0 states1 h2);
          holding = All-append S sys.safeties sys.invariants (at-from sys.sig 0 w sys.safeties (all_right S (states0 ++ states1) safe h3)) (at-from sys.sig 0 w sys.invariants (all_right S (states0 ++ states1 ++ safe) invariant h4));
          leads = leads-from sys w 0 fits (omega (arith, copies)) (step_at sys t) (All-head S (transition_claim sys.sig (step_at sys t)) (bad ∷ []) end);
          broken = denied-from sys.sig 1 (property_at sys p) w (All-head S bad [] (All-tail S (transition_claim sys.sig (step_at sys t)) (bad ∷ []) end));
        }

    step-to : BreaksByStep sys t p w → All S (step_claims sys t p)
    step-to h =
        All-append S (states0 ++ states1 ++ safe ++ invariant) ending
        (All-append S (states0 ++ states1 ++ safe) invariant
        (All-append S (states0 ++ states1) safe
        (All-append S states0 states1 (at-to sys.sig 0 w sys.axioms h.state) (at-to sys.sig 1 w sys.axioms h.next_state))
        (at-to sys.sig 0 w sys.safeties (all_left S sys.safeties sys.invariants h.holding)))
        (at-to sys.sig 0 w sys.invariants (all_right S sys.safeties sys.invariants h.holding)))
        (All-cons S (transition_claim sys.sig (step_at sys t)) (bad ∷ []) (leads-to sys w 0 h.fits (omega (arith, h.copies)) (step_at sys t) h.leads)
        (All-cons S bad [] (denied-to sys.sig 1 (property_at sys p) w h.broken) (All-nil S)))

  module _ (is : IsSystem sys) (known : t < length sys.steps) (has : p < length sys.safeties + length sys.invariants) where
    abbrev W : Formula → Type 0
    W f = IsFormula sys.sig 2 f []

    step-sorted : All W (step_claims sys t p)
    step-sorted =
        All-append W (states0 ++ states1 ++ safe ++ invariant) ending
        (All-append W (states0 ++ states1 ++ safe) invariant
        (All-append W (states0 ++ states1) safe
        (All-append W states0 states1 (at-sorted sys.sig 0 2 sys.axioms is.axioms (omega arith)) (at-sorted sys.sig 1 2 sys.axioms is.axioms (omega arith)))
        (at-sorted sys.sig 0 2 sys.safeties is.safeties (omega arith)))
        (at-sorted sys.sig 0 2 sys.invariants is.invariants (omega arith)))
        (All-cons W (transition_claim sys.sig (step_at sys t)) (bad ∷ []) (claim-sorted sys.sig (step_at sys t) is.signature (is.steps t no_step known))
        (All-cons W bad [] (denied-sorted sys.sig 1 (property_at sys p) 1 2 (property-sorted sys is p has) (omega arith)) (All-nil W)))

    step-edge : (a b : ℕ) → FormulasEdge (step_claims sys t p) true a b → VerifyEdge sys a b
    step-edge a b h = first (any_append (EdgeOf a b) (states0 ++ states1 ++ safe ++ invariant) ending h)
      where
        at_end : EdgeOf a b (transition_claim sys.sig (step_at sys t)) ⊎ Any (EdgeOf a b) (bad ∷ []) → VerifyEdge sys a b
        at_end (inl e) = inl (inr (inr (inr (inl (t, step_at sys t, known, get_or_default sys.steps t (step_at sys t) no_step known, claim-edge sys.sig (step_at sys t) a b e)))))
        at_end (inr e) = property-edge sys is p has a b (denied-edge sys.sig 1 (property_at sys p) a b (any_one (EdgeOf a b) bad e))

        fourth : Any (EdgeOf a b) states0 ⊎ Any (EdgeOf a b) states1 → VerifyEdge sys a b
        fourth (inl e) = inl (inr (inl (at-edge sys.sig 0 sys.axioms a b e)))
        fourth (inr e) = inl (inr (inl (at-edge sys.sig 1 sys.axioms a b e)))

        third : Any (EdgeOf a b) (states0 ++ states1) ⊎ Any (EdgeOf a b) safe → VerifyEdge sys a b
        third (inl e) = fourth (any_append (EdgeOf a b) states0 states1 e)
        third (inr e) = inr (inl (at-edge sys.sig 0 sys.safeties a b e))

        second : Any (EdgeOf a b) (states0 ++ states1 ++ safe) ⊎ Any (EdgeOf a b) invariant → VerifyEdge sys a b
        second (inl e) = third (any_append (EdgeOf a b) (states0 ++ states1) safe e)
        second (inr e) = inr (inr (inl (at-edge sys.sig 0 sys.invariants a b e)))

        first : Any (EdgeOf a b) (states0 ++ states1 ++ safe ++ invariant) ⊎ Any (EdgeOf a b) ending → VerifyEdge sys a b
        first (inl e) = second (any_append (EdgeOf a b) (states0 ++ states1 ++ safe) invariant e)
        first (inr e) = at_end (any_cases (EdgeOf a b) (transition_claim sys.sig (step_at sys t)) (bad ∷ []) e)

-- the queries
module _ (sys : System) (p : ℕ) (q : Query) where
  pub meaning-init : q.copies ≡ 1 → q.claims ≡ init_claims sys p → (w : World) → MeetsQuery sys.sig q w ↔ BreaksAtInit sys p w
  meaning-init copies claims w = (
    λ m. init-from sys p w m.fits (m.copies ∙ copies) (subst (All (λ f. Truth sys.sig w 0 f [])) claims m.claims),
    λ b. record { fits = b.fits; copies = b.copies ∙ sym copies; claims = subst (All (λ f. Truth sys.sig w 0 f [])) (sym claims) (init-to sys p w b) },
  )

  pub query-init : IsSystem sys → p < length sys.safeties + length sys.invariants → q.copies ≡ 1 → q.claims ≡ init_claims sys p → IsQuery sys.sig q
  query-init is has copies claims = record {
    copies = omega (arith, copies);
    claims = subst (All (λ f. IsFormula sys.sig q.copies f [])) (sym claims) (subst (λ n. All (λ f. IsFormula sys.sig n f []) (init_claims sys p)) (sym copies) (init-sorted sys p is has));
  }

  pub rises-init : IsSystem sys → p < length sys.safeties + length sys.invariants → q.claims ≡ init_claims sys p → (numbers : List ℕ) → Rises (SortEdge sys Verify) sys.sig.sorts numbers → Rises (ClaimsEdge sys.sig q.claims) sys.sig.sorts numbers
  rises-init is has claims numbers = rises-fewer (VerifyEdge sys) (ClaimsEdge sys.sig q.claims) sys.sig.sorts numbers each
    where
      by_case : (a b : ℕ) → FunctionEdge sys.sig a b ⊎ FormulasEdge (init_claims sys p) true a b → VerifyEdge sys a b
      by_case a b (inl e) = inl (inl e)
      by_case a b (inr e) = init-edge sys p is has a b e

      each : (a b : ℕ) → ClaimsEdge sys.sig q.claims a b → VerifyEdge sys a b
      each a b e = by_case a b (subst (λ fs. ClaimsEdge sys.sig fs a b) claims e)

module _ (sys : System) (t p : ℕ) (q : Query) where
  pub meaning-step : q.copies ≡ 2 → q.claims ≡ step_claims sys t p → (w : World) → MeetsQuery sys.sig q w ↔ BreaksByStep sys t p w
  meaning-step copies claims w = (
    λ m. step-from sys t p w m.fits (m.copies ∙ copies) (subst (All (λ f. Truth sys.sig w 0 f [])) claims m.claims),
    λ b. record { fits = b.fits; copies = b.copies ∙ sym copies; claims = subst (All (λ f. Truth sys.sig w 0 f [])) (sym claims) (step-to sys t p w b) },
  )

  pub query-step : IsSystem sys → t < length sys.steps → p < length sys.safeties + length sys.invariants → q.copies ≡ 2 → q.claims ≡ step_claims sys t p → IsQuery sys.sig q
  query-step is known has copies claims = record {
    copies = omega (arith, copies);
    claims = subst (All (λ f. IsFormula sys.sig q.copies f [])) (sym claims) (subst (λ n. All (λ f. IsFormula sys.sig n f []) (step_claims sys t p)) (sym copies) (step-sorted sys t p is known has));
  }

  pub rises-step : IsSystem sys → t < length sys.steps → p < length sys.safeties + length sys.invariants → q.claims ≡ step_claims sys t p → (numbers : List ℕ) → Rises (SortEdge sys Verify) sys.sig.sorts numbers → Rises (ClaimsEdge sys.sig q.claims) sys.sig.sorts numbers
  rises-step is known has claims numbers = rises-fewer (VerifyEdge sys) (ClaimsEdge sys.sig q.claims) sys.sig.sorts numbers each
    where
      by_case : (a b : ℕ) → FunctionEdge sys.sig a b ⊎ FormulasEdge (step_claims sys t p) true a b → VerifyEdge sys a b
      by_case a b (inl e) = inl (inl e)
      by_case a b (inr e) = step-edge sys t p is known has a b e

      each : (a b : ℕ) → ClaimsEdge sys.sig q.claims a b → VerifyEdge sys a b
      each a b e = by_case a b (subst (λ fs. ClaimsEdge sys.sig fs a b) claims e)
