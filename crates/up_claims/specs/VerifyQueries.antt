-- The queries that verify a system, in their order: the verification conditions.
use Rattle.std.specs.Prelude.{ℕ, zero, suc, List, [], ◌∷◌, ◌++◌, Option, None, Some, length}
use Rattle.fo_core.specs.declared.query.Query.{Query}
use Rattle.fo_core.specs.declared.system.System.{System}
use Rattle.fo_core.specs.declared.world.World.{World}
use Rattle.fo_core.specs.QueryWeight.{query_weight}
use Rattle.up_claims.specs.Breaking.{Breaks}
use Rattle.up_claims.specs.Claims.{properties, verify_copies, verify_claims}

-- one of them: that a property holds at the start, or that the transition of this number keeps it
pub record Case : Type 0 where
  pub step : Option ℕ
  pub property : ℕ

-- the first so many properties, in order, for one transition or for the start
abbrev pub cases_at : Option ℕ → ℕ → List Case
cases_at step zero = []
cases_at step (suc p) = cases_at step p ++ record { step = step; property = p } ∷ []

-- so many properties for each of the first transitions, in order
abbrev pub step_cases : ℕ → ℕ → List Case
step_cases count zero = []
step_cases count (suc t) = step_cases count t ++ cases_at (Some t) count

-- each property at the start, and then for each transition each property
abbrev pub verify_cases : System → List Case
verify_cases sys = cases_at None (length (properties sys)) ++ step_cases (length (properties sys)) (length sys.steps)

-- the query of a case, and its weight
abbrev pub verify_query_of : System → Case → Query
verify_query_of sys c = record { copies = verify_copies c.step; claims = verify_claims sys c.step c.property }

abbrev pub verify_weight : System → Case → ℕ
verify_weight sys c = query_weight sys.sig (verify_query_of sys c)

-- no world shows that the property of the case fails
abbrev pub NeverBreaks : System → Case → Type 0
NeverBreaks sys c = (w : World) → ¬ Breaks sys c.step c.property w
