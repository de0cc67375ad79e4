-- When a verdict holds.
use Rattle.std.specs.Prelude.{◌≡◌, ℕ, ◌+◌, ◌-◌, ◌≤◌, List, [], Option, Some, length, map, nat_le, slice_get, ⊤}
use Rattle.std.specs.List.{All, filter}
use Rattle.fo_core.specs.declared.system.System.{System}
use Rattle.fo_core.specs.declared.world.World.{World}
use Rattle.fo_core.specs.Runs.{IsViolatingRun}
use Rattle.up_diagram.specs.declared.cube.Cube.{Cube}
use Rattle.up_claims.specs.declared.verdict.Kept.{Kept}
use Rattle.up_claims.specs.declared.verdict.Leave.{Leave}
use Rattle.up_claims.specs.declared.verdict.Verdict.{Verdict}
use Rattle.up_claims.specs.declared.verdict.Verdict.TheVariants as verdict
use Rattle.up_claims.specs.Blocked.{NoInitial, NoStep, NoSeed}
use Rattle.up_claims.specs.Chains.{IsChain, steps_of_chain}
use Rattle.up_claims.specs.Finding.{IsStepInto}
use Rattle.up_claims.specs.Frames.{frame_at}
use Rattle.up_claims.specs.Inductive.{IsUniversalInvariant}
use Rattle.up_claims.specs.InferQueries.{clauses_of}
use Rattle.up_claims.specs.RunQueries.{HasNoRunOf}

-- the cubes of the clauses
abbrev pub cubes_of : List Kept → List Cube
cubes_of clauses = map (λ (kept : Kept). kept.cube) clauses

-- the cubes of the clauses of at least this level
abbrev pub cubes_from : List Kept → ℕ → List Cube
cubes_from clauses i = cubes_of (filter (λ (kept : Kept). nat_le i kept.level) clauses)

-- frame i of these clauses: frame 0 is the initial states, and each later one the states that meet no
-- cube of a clause of at least its level
abbrev pub printed_frame : List Kept → ℕ → Option (List Cube)
printed_frame clauses i = frame_at i (cubes_from clauses i)

-- the frame below that of a clause's level
abbrev pub frame_below : List Kept → Kept → Option (List Cube)
frame_below clauses kept = printed_frame clauses (kept.level - 1)

-- the step leaves frame i: it leads from there into the cube of a clause of exactly this level
pub record IsLeave (sys : System) (clauses : List Kept) (i : ℕ) (leave : Leave) : Type 0 where
  pub level : leave.level ≡ i
  pub kept : Kept
  pub clause : slice_get clauses leave.clause ≡ Some kept
  pub exact : kept.level ≡ i
  pub step : IsStepInto sys (printed_frame clauses i) kept.cube leave.step

-- for each frame from 1 to the last one a step that leaves it
pub record AreLeaves (sys : System) (last : ℕ) (clauses : List Kept) (leaves : List Leave) : Type 0 where
  pub one_each : length leaves ≡ last
  pub each : (k : ℕ) (leave : Leave) → slice_get leaves k ≡ Some leave → IsLeave sys clauses (k + 1) leave

-- The frames of these clauses hold up to this one, of at least 1, and each is left: no initial state
-- meets a clause's cube, no step leads into it from the frame below the clause's level, no state of the
-- last frame violates a safety, and for each frame a step leaves it.
pub record IsBounded (sys : System) (last : ℕ) (clauses : List Kept) (leaves : List Leave) : Type 0 where
  pub starts : All (NoInitial sys) (cubes_of clauses)
  pub keeps : All (λ (kept : Kept). NoStep sys (frame_below clauses kept) kept.cube) clauses
  pub safe : NoSeed sys (cubes_from clauses last) []
  pub left : AreLeaves sys last clauses leaves

-- no violating run has at most k steps
abbrev pub HasNoRunWithin : System → ℕ → Type 0
HasNoRunWithin sys k = (j : ℕ) → j ≤ k → HasNoRunOf sys j

-- What a verdict says of the system is true. That steps were spent, or that a query was above the limit,
-- says nothing of the system: these two are claims about the search that told them, and hold of its
-- history or not.
abbrev pub Holds : System → Verdict → Type 0
Holds sys (verdict.Safe frame clauses) = IsUniversalInvariant sys (clauses_of sys.sig (cubes_of clauses))
Holds sys (verdict.Unsafe w) = IsViolatingRun sys w
Holds sys (verdict.NoUniversal links) = IsChain sys links × HasNoRunWithin sys (steps_of_chain links)
Holds sys (verdict.Bounded last clauses leaves) = IsBounded sys last clauses leaves
Holds sys (verdict.Spent steps) = ⊤
Holds sys (verdict.Over what weight) = ⊤
Holds sys (verdict.NoRun k) = HasNoRunWithin sys k

-- a violating run, and no violating run has fewer steps
pub record IsShortest (sys : System) (w : World) : Type 0 where
  pub run : IsViolatingRun sys w
  pub shortest : (v : World) → IsViolatingRun sys v → length w.copies ≤ length v.copies
