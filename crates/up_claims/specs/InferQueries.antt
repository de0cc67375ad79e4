-- The queries of property-directed reachability: the axioms copy by copy, and then the parts as they are named.
use Rattle.std.specs.Prelude.{List, [], ◌∷◌, ◌++◌, Option, None, Some, map}
use Rattle.fo_core.specs.declared.formula.Formula.{Formula}
use Rattle.fo_core.specs.declared.formula.Formula.TheVariants as F
use Rattle.fo_core.specs.declared.query.Query.{Query}
use Rattle.fo_core.specs.declared.signature.Sig.{Sig}
use Rattle.fo_core.specs.declared.system.System.{System}
use Rattle.up_diagram.specs.declared.cube.Cube.{Cube}
use Rattle.up_diagram.specs.Claims.{claim, clause}
use Rattle.up_claims.specs.Claims.{at_copy, denied, states_below}
use Rattle.up_claims.specs.Transitions.{any_transition}

-- copy 0 meets none of the cubes
abbrev pub clauses_of : Sig → List Cube → List Formula
clauses_of sig cubes = map (λ cube. clause sig cube 0) cubes

-- copy 0 is in the frame; without one it meets the inits
abbrev pub frame_claims : System → Option (List Cube) → List Formula
frame_claims sys None = at_copy sys.sig 0 sys.inits
frame_claims sys (Some cubes) = clauses_of sys.sig cubes

-- a state of the frame that violates a safety and meets none of the cubes to avoid
abbrev pub seed_query : System → List Cube → List Cube → Query
seed_query sys frame avoid = record {
  copies = 1;
  claims =
      states_below sys 1 ++
      clauses_of sys.sig frame ++
      denied sys.sig 0 (F.And sys.safeties) ∷
      clauses_of sys.sig avoid;
}

-- an initial state that meets the cube
abbrev pub root_query : System → Cube → Query
root_query sys cube = record {
  copies = 1;
  claims = states_below sys 1 ++ at_copy sys.sig 0 sys.inits ++ claim sys.sig cube 0 ∷ [];
}

-- a step from the frame to a state that meets the cube
abbrev pub before_query : System → Option (List Cube) → Cube → Query
before_query sys frame cube = record {
  copies = 2;
  claims =
      states_below sys 2 ++
      frame_claims sys frame ++
      any_transition sys ∷
      claim sys.sig cube 1 ∷ [];
}
