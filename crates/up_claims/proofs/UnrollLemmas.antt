-- The query of a violating run: which worlds meet it, and its edges.
use Rattle.std.proofs.Common.{◌≡◌, ℕ, zero, suc, true, false, ◌+◌, ◌-◌, ◌<◌, ◌≤◌, ◌^◌, ◌↔◌, ◌⊎◌, inl, inr, List, [], ◌∷◌, ◌++◌, length, sym, ap, subst, ◌∙◌, arith}
use Rattle.std.proofs.lemmas.Bool.{cases_lt}
use Rattle.std.specs.List.{All, Any}
use Rattle.std.proofs.lemmas.List.Elements.{All-nil, All-cons, All-head, All-append}
use Rattle.fo_core.specs.declared.order.Purpose.TheVariants.{Infer}
use Rattle.fo_core.specs.declared.query.Query.{Query}
use Rattle.fo_core.specs.declared.signature.Sig.{Sig}
use Rattle.fo_core.specs.declared.system.System.{System}
use Rattle.fo_core.specs.declared.formula.Formula.{Formula}
use Rattle.fo_core.specs.declared.formula.Formula.TheVariants as F
use Rattle.fo_core.specs.declared.world.World.{World}
use Rattle.fo_core.specs.Queries.{IsQuery, MeetsQuery}
use Rattle.fo_core.specs.Runs.{IsState, IsInitial, IsStep, Violates}
use Rattle.fo_core.specs.Shift.{shift, CanShift}
use Rattle.fo_core.specs.SortGraph.{FormulaEdge, FormulasEdge, FunctionEdge, StepsEdge, InferEdge, SortEdge, ClaimsEdge, Rises}
use Rattle.fo_core.specs.Sorted.{IsFormula, IsSystem}
use Rattle.fo_core.specs.Tables.{Fits}
use Rattle.fo_core.specs.Truth.{Truth}
use Rattle.fo_core.proofs.Decided.{tell}
use Rattle.fo_core.proofs.EdgeRows.{edge-And}
use Rattle.fo_core.proofs.Rows.{truth-And, And-sorted}
use Rattle.fo_core.proofs.ShiftEdges.{edge-moved}
use Rattle.fo_core.proofs.ShiftRows.{shift-And}
use Rattle.up_claims.specs.Breaking.{IsViolatingRunOf}
use Rattle.up_claims.specs.Claims.{at_copy, denied, states_below, steps_below, unroll_claims}
use Rattle.up_claims.specs.Transitions.{any_transition}
use Rattle.up_claims.proofs.CopyLemmas.{rises-fewer, at-from, at-to, at-sorted, at-edge, moved-from, moved-to, moved-sorted, denied-from, denied-to, denied-sorted, denied-edge, can-shift}
use Rattle.up_claims.proofs.EdgesOf.{EdgeOf}
use Rattle.fo_core.proofs.ListFacts.{any_one, any_append, any_none, all_left, all_right, some_fails, not_all}
use Rattle.up_claims.proofs.TransitionLemmas.{any-from, any-to, any-sorted, any-edge}

module _ (sys : System) where
  -- what is claimed of each copy below n
  module _ (P : Formula → Type 0) where
    states-each : (n : ℕ) → All P (states_below sys n) → (c : ℕ) → c < n → All P (at_copy sys.sig c sys.axioms)
    states-each zero h c lt = absurd (omega arith)
    states-each (suc n) h c lt = by_case (λ below. states-each n (all_left P (states_below sys n) (at_copy sys.sig n sys.axioms) h) c below) (cases_lt c n)
      where
        by_case : (c < n → All P (at_copy sys.sig c sys.axioms)) → (c < n) ⊎ (n ≤ c) → All P (at_copy sys.sig c sys.axioms)
        by_case before (inl below) = before below
        by_case before (inr le) = let same : n ≡ c = omega arith in subst (λ k. All P (at_copy sys.sig k sys.axioms)) same (all_right P (states_below sys n) (at_copy sys.sig n sys.axioms) h)

    states-all : (n : ℕ) → ((c : ℕ) → c < n → All P (at_copy sys.sig c sys.axioms)) → All P (states_below sys n)
    states-all zero h = All-nil P
    states-all (suc n) h = All-append P (states_below sys n) (at_copy sys.sig n sys.axioms) (states-all n (λ c lt. h c (omega arith))) (h n (omega arith))

    steps-each : (n : ℕ) → All P (steps_below sys n) → (c : ℕ) → c < n → P (shift sys.sig c (any_transition sys))
    steps-each zero h c lt = absurd (omega arith)
    steps-each (suc n) h c lt = by_case (λ below. steps-each n (all_left P (steps_below sys n) (shift sys.sig n (any_transition sys) ∷ []) h) c below) (cases_lt c n)
      where
        by_case : (c < n → P (shift sys.sig c (any_transition sys))) → (c < n) ⊎ (n ≤ c) → P (shift sys.sig c (any_transition sys))
        by_case before (inl below) = before below
        by_case before (inr le) =
            let same : n ≡ c = omega arith in
            subst (λ k. P (shift sys.sig k (any_transition sys))) same (All-head P (shift sys.sig n (any_transition sys)) [] (all_right P (steps_below sys n) (shift sys.sig n (any_transition sys) ∷ []) h))

    steps-all : (n : ℕ) → ((c : ℕ) → c < n → P (shift sys.sig c (any_transition sys))) → All P (steps_below sys n)
    steps-all zero h = All-nil P
    steps-all (suc n) h =
        All-append P (steps_below sys n) (shift sys.sig n (any_transition sys) ∷ []) (steps-all n (λ c lt. h c (omega arith)))
        (All-cons P (shift sys.sig n (any_transition sys)) [] (h n (omega arith)) (All-nil P))

  states-edge : (a b n : ℕ) → FormulasEdge (states_below sys n) true a b → FormulasEdge sys.axioms true a b
  states-edge a b zero h = absurd (any_none (λ f. FormulaEdge a b f true) h)
  states-edge a b (suc n) h = by_case (λ e. states-edge a b n e) (any_append (λ f. FormulaEdge a b f true) (states_below sys n) (at_copy sys.sig n sys.axioms) h)
    where
      by_case : (FormulasEdge (states_below sys n) true a b → FormulasEdge sys.axioms true a b) → FormulasEdge (states_below sys n) true a b ⊎ FormulasEdge (at_copy sys.sig n sys.axioms) true a b → FormulasEdge sys.axioms true a b
      by_case before (inl e) = before e
      by_case before (inr e) = at-edge sys.sig n sys.axioms a b e

  steps-edge : (a b n : ℕ) → FormulasEdge (steps_below sys n) true a b → StepsEdge sys.steps a b
  steps-edge a b zero h = absurd (any_none (λ f. FormulaEdge a b f true) h)
  steps-edge a b (suc n) h = by_case (λ e. steps-edge a b n e) (any_append (λ f. FormulaEdge a b f true) (steps_below sys n) (shift sys.sig n (any_transition sys) ∷ []) h)
    where
      by_case : (FormulasEdge (steps_below sys n) true a b → StepsEdge sys.steps a b) → FormulasEdge (steps_below sys n) true a b ⊎ FormulasEdge (shift sys.sig n (any_transition sys) ∷ []) true a b → StepsEdge sys.steps a b
      by_case before (inl e) = before e
      by_case before (inr e) = any-edge sys a b ((edge-moved sys.sig n a b (any_transition sys) true).0 (any_one (λ f. FormulaEdge a b f true) (shift sys.sig n (any_transition sys)) e))

  -- what `add_steps` is asked for
  pub can-step : IsSystem sys → (c n : ℕ) → c < n → n < 2 ^ 32 - 1 → CanShift sys.sig c (any_transition sys)
  can-step is c n lt few = can-shift sys.sig c (any_transition sys) 2 (any-sorted sys is) (omega arith)

  module _ (n : ℕ) where
    abbrev states : List Formula
    states = states_below sys (n + 1)

    abbrev inits : List Formula
    inits = at_copy sys.sig 0 sys.inits

    abbrev steps : List Formula
    steps = steps_below sys n

    abbrev bad : Formula
    bad = denied sys.sig n (F.And sys.safeties)

    module _ (w : World) where
      abbrev T : Formula → Type 0
      T f = Truth sys.sig w 0 f []

      pub violates-from : (c : ℕ) → ¬ Truth sys.sig w c (F.And sys.safeties) [] → Violates sys w c
      violates-from c fails = some_fails (λ f. Truth sys.sig w c f []) (λ f. tell sys.sig w c f []) sys.safeties (λ all. fails ((truth-And sys.sig w c sys.safeties []).1 all))

      pub violates-to : (c : ℕ) → Violates sys w c → ¬ Truth sys.sig w c (F.And sys.safeties) []
      violates-to c some t = not_all (λ f. Truth sys.sig w c f []) sys.safeties some ((truth-And sys.sig w c sys.safeties []).0 t)

      run-from : Fits sys.sig w → length w.copies ≡ n + 1 → All T (unroll_claims sys n) → IsViolatingRunOf sys n w
      run-from fits copies h = record { run = record { run = record { fits = fits; initial = initial; steps = each }; violates = subst (Violates sys w) last (violates-from n (denied-from sys.sig n (F.And sys.safeties) w (All-head T bad [] (all_right T (states ++ inits ++ steps) (bad ∷ []) h)))) }; copies = copies }
        where
          last : n ≡ length w.copies - 1
          last = omega arith

          h1 : All T (states ++ inits ++ steps)
          h1 = all_left T (states ++ inits ++ steps) (bad ∷ []) h

          h2 : All T (states ++ inits)
          h2 = all_left T (states ++ inits) steps h1

          state : (c : ℕ) → c < n + 1 → IsState sys w c
          state c lt = at-from sys.sig c w sys.axioms (states-each T (n + 1) (all_left T states inits h2) c lt)

          initial : IsInitial sys w 0
          initial = record { state = state 0 (omega arith); inits = at-from sys.sig 0 w sys.inits (all_right T states inits h2) }

          each : (c : ℕ) → c + 1 < length w.copies → IsStep sys w c
          each c lt = record {
            state = state c (omega arith);
            next_state = state (c + 1) (omega arith);
            leads = any-from sys w c fits lt (moved-from sys.sig c w (any_transition sys) (steps-each T n (all_right T (states ++ inits) steps h1) c (omega arith)));
          }

      run-to : IsViolatingRunOf sys n w → All T (unroll_claims sys n)
      run-to r =
          All-append T (states ++ inits ++ steps) (bad ∷ [])
          (All-append T (states ++ inits) steps
          (All-append T states inits (states-all T (n + 1) state) (at-to sys.sig 0 w sys.inits r.run.run.initial.inits))
          (steps-all T n each))
          (All-cons T bad [] (denied-to sys.sig n (F.And sys.safeties) w (violates-to n (subst (Violates sys w) last r.run.violates))) (All-nil T))
        where
          last : length w.copies - 1 ≡ n
          last = omega (arith, r.copies)

          each : (c : ℕ) → c < n → T (shift sys.sig c (any_transition sys))
          each c lt = let more : c + 1 < length w.copies = omega (arith, r.copies) in moved-to sys.sig c w (any_transition sys) (any-to sys w c r.run.run.fits more (r.run.run.steps c more).leads)

          state_of : (c : ℕ) → c < n + 1 → IsState sys w c
          state_of zero lt = r.run.run.initial.state
          state_of (suc c) lt = let more : c + 1 < length w.copies = omega (arith, r.copies) in subst (IsState sys w) (omega arith) (r.run.run.steps c more).next_state

          state : (c : ℕ) → c < n + 1 → All T (at_copy sys.sig c sys.axioms)
          state c lt = at-to sys.sig c w sys.axioms (state_of c lt)

    abbrev W : Formula → Type 0
    W f = IsFormula sys.sig (n + 1) f []

    unroll-sorted : IsSystem sys → All W (unroll_claims sys n)
    unroll-sorted is =
        All-append W (states ++ inits ++ steps) (bad ∷ [])
        (All-append W (states ++ inits) steps
        (All-append W states inits (states-all W (n + 1) (λ c lt. at-sorted sys.sig c (n + 1) sys.axioms is.axioms (omega arith))) (at-sorted sys.sig 0 (n + 1) sys.inits is.inits (omega arith)))
        (steps-all W n (λ c lt. moved-sorted sys.sig c 2 (n + 1) (any_transition sys) (any-sorted sys is) (omega arith))))
        (All-cons W bad [] (denied-sorted sys.sig n (F.And sys.safeties) 1 (n + 1) (And-sorted sys.sig 1 sys.safeties [] is.safeties) (omega arith)) (All-nil W))

    unroll-edge : (a b : ℕ) → FormulasEdge (unroll_claims sys n) true a b → InferEdge sys a b
    unroll-edge a b h = first (any_append (EdgeOf a b) (states ++ inits ++ steps) (bad ∷ []) h)
      where
        third : Any (EdgeOf a b) states ⊎ Any (EdgeOf a b) inits → InferEdge sys a b
        third (inl e) = inr (inl (states-edge a b (n + 1) e))
        third (inr e) = inr (inr (inl (at-edge sys.sig 0 sys.inits a b e)))

        second : Any (EdgeOf a b) (states ++ inits) ⊎ Any (EdgeOf a b) steps → InferEdge sys a b
        second (inl e) = third (any_append (EdgeOf a b) states inits e)
        second (inr e) = inr (inr (inr (inl (steps-edge a b n e))))

        first : Any (EdgeOf a b) (states ++ inits ++ steps) ⊎ Any (EdgeOf a b) (bad ∷ []) → InferEdge sys a b
        first (inl e) = second (any_append (EdgeOf a b) (states ++ inits) steps e)
        first (inr e) = inr (inr (inr (inr ((edge-And a b sys.safeties false).0 (denied-edge sys.sig n (F.And sys.safeties) a b (any_one (EdgeOf a b) bad e))))))

    module _ (q : Query) where
      pub meaning-unroll : q.copies ≡ n + 1 → q.claims ≡ unroll_claims sys n → (w : World) → MeetsQuery sys.sig q w ↔ IsViolatingRunOf sys n w
      meaning-unroll copies claims w = (
        λ m. run-from w m.fits (m.copies ∙ copies) (subst (All (λ f. Truth sys.sig w 0 f [])) claims m.claims),
        λ r. record { fits = r.run.run.fits; copies = r.copies ∙ sym copies; claims = subst (All (λ f. Truth sys.sig w 0 f [])) (sym claims) (run-to w r) },
      )

      pub query-unroll : IsSystem sys → q.copies ≡ n + 1 → q.claims ≡ unroll_claims sys n → IsQuery sys.sig q
      query-unroll is copies claims = record {
        copies = omega (arith, copies);
        claims = subst (All (λ f. IsFormula sys.sig q.copies f [])) (sym claims) (subst (λ k. All (λ f. IsFormula sys.sig k f []) (unroll_claims sys n)) (sym copies) (unroll-sorted is));
      }

      pub rises-unroll : q.claims ≡ unroll_claims sys n → (numbers : List ℕ) → Rises (SortEdge sys Infer) sys.sig.sorts numbers → Rises (ClaimsEdge sys.sig q.claims) sys.sig.sorts numbers
      rises-unroll claims numbers = rises-fewer (InferEdge sys) (ClaimsEdge sys.sig q.claims) sys.sig.sorts numbers each
        where
          by_case : (a b : ℕ) → FunctionEdge sys.sig a b ⊎ FormulasEdge (unroll_claims sys n) true a b → InferEdge sys a b
          by_case a b (inl e) = inl e
          by_case a b (inr e) = unroll-edge a b e

          each : (a b : ℕ) → ClaimsEdge sys.sig q.claims a b → InferEdge sys a b
          each a b e = by_case a b (subst (λ fs. ClaimsEdge sys.sig fs a b) claims e)

-- that all are true, denied, is that each said of the copy, joined and denied
pub denied-all : (sig : Sig) (c : ℕ) (fs items old new : List Formula) (g : Formula) → old ≡ [] → items ≡ fs → new ≡ old ++ at_copy sig c items → g ≡ F.And new → F.Not g ≡ denied sig c (F.And fs)
denied-all sig c fs items old new g none same is all =
    let list : new ≡ at_copy sig c fs = is ∙ ap (λ gs. gs ++ at_copy sig c items) none ∙ ap (at_copy sig c) same in
    ap F.Not (all ∙ ap F.And list ∙ sym (shift-And sig c fs))
