-- The spots of a verdict, in the order in which they are tried, what each asks for, and the queries
-- that decide it.
use Rattle.std.specs.Prelude.{◌≡◌, ℕ, zero, suc, ◌+◌, ◌-◌, ◌<◌, List, [], ◌∷◌, ◌++◌, Some, length, slice_index_or, ⊤}
use Rattle.fo_core.specs.declared.query.Query.{Query}
use Rattle.fo_core.specs.declared.system.System.{System}
use Rattle.fo_core.specs.declared.world.World.{World}
use Rattle.fo_core.specs.Embedding.{IsEmbedding}
use Rattle.fo_core.specs.RunLaws.{IsLoneState, IsLoneInitial}
use Rattle.fo_core.specs.Runs.{IsState, IsInitial, IsStep, Violates, alone}
use Rattle.up_claims.specs.declared.verdict.Kept.{Kept}
use Rattle.up_claims.specs.declared.verdict.Leave.{Leave}
use Rattle.up_claims.specs.declared.verdict.Link.{Link}
use Rattle.up_claims.specs.declared.verdict.Verdict.{Verdict}
use Rattle.up_claims.specs.declared.verdict.Verdict.TheVariants as verdict
use Rattle.up_claims.specs.Blocked.{NoInitial, NoStep, NoSeed}
use Rattle.up_claims.specs.Chains.{IsLoneStep, steps_of_chain}
use Rattle.up_claims.specs.InferQueries.{seed_query, root_query, before_query}
use Rattle.up_claims.specs.RunQueries.{run_queries}
use Rattle.up_claims.specs.Verdicts.{cubes_of, cubes_from, frame_below, IsLeave, HasNoRunWithin}
use Rattle.up_cert.specs.declared.spot.Spot.{Spot}
use Rattle.up_cert.specs.declared.spot.What.{What}
use Rattle.up_cert.specs.declared.spot.What.TheVariants.{State, Init, Step, Safety, Start, Map, Leave as Left, Run}

-- what stands where a list has nothing
abbrev pub no_world : World
no_world = record { sizes = []; fixed = []; copies = [] }

abbrev pub no_clause : Kept
no_clause = record { level = 0; cube = record { sorts = []; lits = [] } }

abbrev pub no_link : Link
no_link = record { origin = no_world; state = no_world; map = record { images = [] } }

abbrev pub no_leave : Leave
no_leave = record { level = 0; clause = 0; step = no_world }

-- the clause, the link and the leave of this number
abbrev pub clause_at : List Kept → ℕ → Kept
clause_at clauses k = slice_index_or clauses k no_clause

abbrev pub link_at : List Link → ℕ → Link
link_at links k = slice_index_or links k no_link

abbrev pub leave_at : List Leave → ℕ → Leave
leave_at leaves k = slice_index_or leaves k no_leave

-- the number of a world's last copy
abbrev pub last_copy : World → ℕ
last_copy w = length w.copies - 1

-- ---- the spots, in their order

abbrev pub spot : What → ℕ → Spot
spot what k = record { what = what; number = k }

-- these spots of each number below n, in order
abbrev pub each_below : (ℕ → List Spot) → ℕ → List Spot
each_below spots zero = []
each_below spots (suc k) = each_below spots k ++ spots k

-- the spots of a kind with the numbers below n
abbrev pub spots_below : What → ℕ → List Spot
spots_below what n = each_below (λ k. spot what k ∷ []) n

-- the leaves of frames 1 to n
abbrev pub leaves_to : ℕ → List Spot
leaves_to n = each_below (λ k. spot Left (k + 1) ∷ []) n

-- how the origin of link k comes about: the first is initial, and to the others a step leads
abbrev pub origin_what : ℕ → What
origin_what zero = Start
origin_what (suc k) = Step

-- of link k that it has a state, how its origin comes about, and that the state embeds in it
abbrev pub link_spots : ℕ → List Spot
link_spots k = spot State k ∷ spot (origin_what k) k ∷ spot Map k ∷ []

-- the first n links, one by one
abbrev pub links_below : ℕ → List Spot
links_below n = each_below link_spots n

-- the spots of clauses, each kind for all clauses before the next kind
abbrev pub clause_spots : List Kept → List Spot
clause_spots clauses = spots_below Init (length clauses) ++ spots_below Step (length clauses)

-- and then that no state violates a safety that meets no cube
abbrev pub frame_spots : List Kept → List Spot
frame_spots clauses = clause_spots clauses ++ spot Safety 0 ∷ []

-- a verdict's spots, in the order in which they are tried
abbrev pub spots_of : Verdict → List Spot
spots_of (verdict.Safe frame clauses) = frame_spots clauses
spots_of (verdict.Unsafe w) =
    (spots_below State (length w.copies) ++ spot Init 0 ∷ []) ++
    (spots_below Step (last_copy w) ++ spot Safety 0 ∷ [])
spots_of (verdict.NoUniversal links) = links_below (length links) ++ spot Safety 0 ∷ spot Run 0 ∷ []
spots_of (verdict.Bounded last clauses leaves) = frame_spots clauses ++ leaves_to last
spots_of (verdict.Spent steps) = []
spots_of (verdict.Over kind weight) = []
spots_of (verdict.NoRun k) = spot Run 0 ∷ []

-- ---- what they ask for

-- the clauses are an invariant: no initial state meets a cube, no step leads into one from a state
-- that meets none, and no such state violates a safety
abbrev pub SafePasses : System → List Kept → What → ℕ → Type 0
SafePasses sys clauses Init k = NoInitial sys (clause_at clauses k).cube
SafePasses sys clauses Step k = NoStep sys (Some (cubes_of clauses)) (clause_at clauses k).cube
SafePasses sys clauses Safety k = NoSeed sys (cubes_of clauses) []
SafePasses sys clauses _ k = ⊤

-- the world is a violating run: its copies are states, the first is initial, each but the last
-- steps to the next one, and the last violates a safety
abbrev pub RunPasses : System → World → What → ℕ → Type 0
RunPasses sys w State k = IsState sys w k
RunPasses sys w Init k = IsInitial sys w 0
RunPasses sys w Step k = IsStep sys w k
RunPasses sys w Safety k = Violates sys w (last_copy w)
RunPasses sys w _ k = ⊤

-- a link's state is one, alone in its world, and so is the last copy of the link's origin
pub record HasState (sys : System) (link : Link) : Type 0 where
  pub state : IsLoneState sys link.state
  pub origin : IsState sys link.origin (last_copy link.origin)

-- a link's origin is a step from this state
pub record ComesFrom (sys : System) (before : World) (link : Link) : Type 0 where
  pub step : IsLoneStep sys link.origin
  pub same : alone link.origin 0 ≡ before

-- a link's state embeds by its map in the last copy of its origin
abbrev pub Embeds : System → Link → Type 0
Embeds sys link =
    IsEmbedding sys.sig link.state 0 link.origin (last_copy link.origin) link.map.images

-- there is a last link, and its state violates a safety
pub record EndsBadly (sys : System) (links : List Link) : Type 0 where
  pub some : 0 < length links
  pub violates : Violates sys (link_at links (length links - 1)).state 0

-- the links are a chain: each has a state, which embeds in an initial state or in one to which a
-- step leads from the state of the link before; the last state violates a safety; and no violating
-- run is as short
abbrev pub ChainPasses : System → List Link → What → ℕ → Type 0
ChainPasses sys links State k = HasState sys (link_at links k)
ChainPasses sys links Start k = IsLoneInitial sys (link_at links k).origin
ChainPasses sys links Step k = ComesFrom sys (link_at links (k - 1)).state (link_at links k)
ChainPasses sys links Map k = Embeds sys (link_at links k)
ChainPasses sys links Safety k = EndsBadly sys links
ChainPasses sys links Run k = HasNoRunWithin sys (steps_of_chain links)
ChainPasses sys links _ k = ⊤

-- the frames of the clauses hold up to the last one, and each is left by a step
abbrev pub BoundedPasses : System → ℕ → List Kept → List Leave → What → ℕ → Type 0
BoundedPasses sys last clauses leaves Init k = NoInitial sys (clause_at clauses k).cube
BoundedPasses sys last clauses leaves Step k =
    NoStep sys (frame_below clauses (clause_at clauses k)) (clause_at clauses k).cube
BoundedPasses sys last clauses leaves Safety k = NoSeed sys (cubes_from clauses last) []
BoundedPasses sys last clauses leaves Left k = IsLeave sys clauses k (leave_at leaves (k - 1))
BoundedPasses sys last clauses leaves _ k = ⊤

-- what a spot of the verdict asks for is so
abbrev pub Passes : System → Verdict → Spot → Type 0
Passes sys (verdict.Safe frame clauses) s = SafePasses sys clauses s.what s.number
Passes sys (verdict.Unsafe w) s = RunPasses sys w s.what s.number
Passes sys (verdict.NoUniversal links) s = ChainPasses sys links s.what s.number
Passes sys (verdict.Bounded last clauses leaves) s =
    BoundedPasses sys last clauses leaves s.what s.number
Passes sys (verdict.Spent steps) s = ⊤
Passes sys (verdict.Over kind weight) s = ⊤
Passes sys (verdict.NoRun k) s = HasNoRunWithin sys k

-- ---- the queries that decide them

abbrev pub safe_queries : System → List Kept → What → ℕ → List Query
safe_queries sys clauses Init k = root_query sys (clause_at clauses k).cube ∷ []
safe_queries sys clauses Step k =
    before_query sys (Some (cubes_of clauses)) (clause_at clauses k).cube ∷ []
safe_queries sys clauses Safety k = seed_query sys (cubes_of clauses) [] ∷ []
safe_queries sys clauses _ k = []

abbrev pub chain_queries : System → List Link → What → List Query
chain_queries sys links Run = run_queries sys (steps_of_chain links + 1)
chain_queries sys links _ = []

abbrev pub bounded_queries : System → ℕ → List Kept → What → ℕ → List Query
bounded_queries sys last clauses Init k = root_query sys (clause_at clauses k).cube ∷ []
bounded_queries sys last clauses Step k =
    before_query sys (frame_below clauses (clause_at clauses k)) (clause_at clauses k).cube ∷ []
bounded_queries sys last clauses Safety k = seed_query sys (cubes_from clauses last) [] ∷ []
bounded_queries sys last clauses _ k = []

-- the queries of a spot, which are to have no world: none where its worlds show it by themselves
abbrev pub queries_at : System → Verdict → Spot → List Query
queries_at sys (verdict.Safe frame clauses) s = safe_queries sys clauses s.what s.number
queries_at sys (verdict.Unsafe w) s = []
queries_at sys (verdict.NoUniversal links) s = chain_queries sys links s.what
queries_at sys (verdict.Bounded last clauses leaves) s =
    bounded_queries sys last clauses s.what s.number
queries_at sys (verdict.Spent steps) s = []
queries_at sys (verdict.Over kind weight) s = []
queries_at sys (verdict.NoRun k) s = run_queries sys (k + 1)
