-- The queries that the calls of property-directed reachability ask, in their order: which were asked before,
-- which is next, and for what.
use Rattle.std.specs.Prelude.{◌≡◌, ℕ, suc, ◌<◌, ◌≤◌, List, [], ◌∷◌, ◌++◌, Option, Some, length}
use Rattle.std.specs.List.{All}
use Rattle.fo_core.specs.declared.query.Query.{Query}
use Rattle.fo_core.specs.declared.signature.Sig.{Sig}
use Rattle.fo_core.specs.declared.system.System.{System}
use Rattle.fo_core.specs.Asked.{IsAsked}
use Rattle.fo_core.specs.Finds.{HasWorld, HasNoWorld, IsLight}
use Rattle.fo_core.specs.QueryWeight.{query_weight}
use Rattle.up_diagram.specs.declared.cube.Cube.{Cube}
use Rattle.up_diagram.specs.Cubes.{without}
use Rattle.up_claims.specs.declared.kind.Kind.{Kind}
use Rattle.up_claims.specs.declared.kind.Kind.TheVariants as kind
use Rattle.up_claims.specs.InferQueries.{seed_query, root_query, before_query}
use Rattle.up_claims.specs.RunQueries.{run_query, run_queries, HasNoRunOf}

-- the queries asked before, what the next one is asked for, and the next one
abbrev pub Asking : Type 1
Asking = List Query → Kind → Query → Type 0

module _ (sys : System) where
  -- a search for a state of the frame that violates a safety
  pub data IsLookAsked (frame avoid : List Cube) : List Query → Kind → Query → Type 0 where
    for_seed : (before : List Query) (q : Query) →
        IsAsked sys.sig (seed_query sys frame avoid) before q →
        IsLookAsked frame avoid before kind.Seed q

  -- Of a blocked cube the literals before a place have been tried by these queries, behind those of
  -- the whole cube, and a cube is left. A literal's loss is tried by the root query, and where that has
  -- no world by the query of a step.
  pub data HasTried (frame : Option (List Cube)) (cube : Cube) : List Query → ℕ → Cube → Type 0 where
    at_first : HasNoWorld sys.sig (root_query sys cube) → HasNoWorld sys.sig (before_query sys frame cube) →
        HasTried frame cube (root_query sys cube ∷ before_query sys frame cube ∷ []) 0 cube
    drops : (before : List Query) (k : ℕ) (rest : Cube) →
        HasTried frame cube before k rest → k < length rest.lits →
        HasNoWorld sys.sig (root_query sys (without rest k)) →
        HasNoWorld sys.sig (before_query sys frame (without rest k)) →
        HasTried frame cube
        (before ++ root_query sys (without rest k) ∷ before_query sys frame (without rest k) ∷ [])
        k (without rest k)
    keeps_for_root : (before : List Query) (k : ℕ) (rest : Cube) →
        HasTried frame cube before k rest → k < length rest.lits →
        HasWorld sys.sig (root_query sys (without rest k)) →
        HasTried frame cube (before ++ root_query sys (without rest k) ∷ []) (suc k) rest
    keeps_for_step : (before : List Query) (k : ℕ) (rest : Cube) →
        HasTried frame cube before k rest → k < length rest.lits →
        HasNoWorld sys.sig (root_query sys (without rest k)) →
        HasWorld sys.sig (before_query sys frame (without rest k)) →
        HasTried frame cube
        (before ++ root_query sys (without rest k) ∷ before_query sys frame (without rest k) ∷ [])
        (suc k) rest

  -- The block of a cube: the least initial state in it; where there is none, the least step into it from
  -- the frame; and where there is none either, for each literal the two queries of the cube without it.
  pub data IsBlockAsked (frame : Option (List Cube)) (cube : Cube) : List Query → Kind → Query → Type 0 where
    for_root : (before : List Query) (q : Query) →
        IsAsked sys.sig (root_query sys cube) before q →
        IsBlockAsked frame cube before kind.Root q
    for_step : (before : List Query) (q : Query) →
        HasNoWorld sys.sig (root_query sys cube) →
        IsAsked sys.sig (before_query sys frame cube) before q →
        IsBlockAsked frame cube (root_query sys cube ∷ before) kind.Before q
    for_root_without : (before : List Query) (k : ℕ) (rest : Cube) →
        HasTried frame cube before k rest → k < length rest.lits →
        IsBlockAsked frame cube before kind.Block (root_query sys (without rest k))
    for_step_without : (before : List Query) (k : ℕ) (rest : Cube) →
        HasTried frame cube before k rest → k < length rest.lits →
        HasNoWorld sys.sig (root_query sys (without rest k)) →
        IsBlockAsked frame cube
        (before ++ root_query sys (without rest k) ∷ []) kind.Block
        (before_query sys frame (without rest k))

  -- a push of a clause: a step from the frame into its cube
  pub data IsPushAsked (frame : List Cube) (cube : Cube) : List Query → Kind → Query → Type 0 where
    for_push : (before : List Query) (q : Query) →
        IsAsked sys.sig (before_query sys (Some frame) cube) before q →
        IsPushAsked frame cube before kind.Push q

  -- a search for a violating run of at most so many steps, of fewer steps first
  pub data IsUnrollAsked (steps : ℕ) : List Query → Kind → Query → Type 0 where
    for_run : (k : ℕ) (before : List Query) (q : Query) → k ≤ steps →
        ((j : ℕ) → j < k → HasNoRunOf sys j) →
        IsAsked sys.sig (run_query sys k) before q →
        IsUnrollAsked steps (run_queries sys k ++ before) kind.Unroll q

-- the first of these queries that is above the limit: what it is asked for, it, and its weight
pub record IsFirstAbove (sig : Sig) (Asked : Asking) (limit : ℕ) (what : Kind) (q : Query) (weight : ℕ) : Type 0 where
  pub before : List Query
  pub asked : Asked before what q
  pub light : All (IsLight sig limit) before
  pub weighs : weight ≡ query_weight sig q
  pub above : limit < weight
