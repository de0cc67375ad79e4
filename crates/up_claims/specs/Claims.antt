-- The claims of queries about a system.
use Rattle.std.specs.Prelude.{ℕ, zero, suc, ◌+◌, List, [], ◌∷◌, ◌++◌, Option, None, Some, map, slice_index_or}
use Rattle.fo_core.specs.declared.signature.Sig.{Sig}
use Rattle.fo_core.specs.declared.system.Step.{Step}
use Rattle.fo_core.specs.declared.system.System.{System}
use Rattle.fo_core.specs.declared.formula.Formula.{Formula}
use Rattle.fo_core.specs.declared.formula.Formula.TheVariants as F
use Rattle.fo_core.specs.Shift.{shift}
use Rattle.up_claims.specs.Transitions.{transition_claim, any_transition}

-- what stands where a list has no transition
abbrev pub no_step : Step
no_step = record { modifies = []; params = []; body = F.True }

-- the transition of this number
abbrev pub step_at : System → ℕ → Step
step_at sys t = slice_index_or sys.steps t no_step

-- what is to be verified: the safeties and then the invariants
abbrev pub properties : System → List Formula
properties sys = sys.safeties ++ sys.invariants

-- the property of this number, from 0
abbrev pub property_at : System → ℕ → Formula
property_at sys p = slice_index_or (properties sys) p F.True

-- the formulas, said of copy c
abbrev pub at_copy : Sig → ℕ → List Formula → List Formula
at_copy sig c fs = map (shift sig c) fs

-- the formula is false in copy c
abbrev pub denied : Sig → ℕ → Formula → Formula
denied sig c f = F.Not (shift sig c f)

-- copy 0 is initial, and the property is false there
abbrev pub init_claims : System → ℕ → List Formula
init_claims sys p = at_copy sys.sig 0 sys.axioms ++ at_copy sys.sig 0 sys.inits ++ denied sys.sig 0 (property_at sys p) ∷ []

-- copies 0 and 1 are states, all properties are true in copy 0, the transition leads to copy 1, and
-- the property is false there
abbrev pub step_claims : System → ℕ → ℕ → List Formula
step_claims sys t p =
    at_copy sys.sig 0 sys.axioms ++
    at_copy sys.sig 1 sys.axioms ++
    at_copy sys.sig 0 sys.safeties ++
    at_copy sys.sig 0 sys.invariants ++
    transition_claim sys.sig (step_at sys t) ∷
    denied sys.sig 1 (property_at sys p) ∷ []

-- the axioms are true in each of the first n copies
abbrev pub states_below : System → ℕ → List Formula
states_below sys zero = []
states_below sys (suc c) = states_below sys c ++ at_copy sys.sig c sys.axioms

-- each of the first n copies steps to the next one by a transition
abbrev pub steps_below : System → ℕ → List Formula
steps_below sys zero = []
steps_below sys (suc c) = steps_below sys c ++ shift sys.sig c (any_transition sys) ∷ []

-- copies 0 to n are a run whose last copy violates a safety
abbrev pub unroll_claims : System → ℕ → List Formula
unroll_claims sys n =
    states_below sys (n + 1) ++ at_copy sys.sig 0 sys.inits ++ steps_below sys n ++ denied sys.sig n (F.And sys.safeties) ∷ []

-- the copies and the claims of a query that verifies a property, at the start or by a transition
abbrev pub verify_copies : Option ℕ → ℕ
verify_copies None = 1
verify_copies (Some t) = 2

abbrev pub verify_claims : System → Option ℕ → ℕ → List Formula
verify_claims sys None p = init_claims sys p
verify_claims sys (Some t) p = step_claims sys t p
