-- The state of the machine, and its frames. The machine is that of property-directed reachability
-- (IC3, PDR) with diagrams (Karbyshev, Bjørner, Itzhaky, Rinetzky and Shoham): it keeps a sequence
-- of frames, as clauses with levels, and a forest of proof obligations.
use Rattle.std.specs.Prelude.{◌≡◌, ℕ, ◌<◌, ◌≤◌, Bool, true, false, not, ◌&&◌, nat_eq, nat_le, List, [], length, map, Option, None, Some, is_none, slice_get, option_map}
use Rattle.std.specs.List.{filter, find}
use Rattle.fo_core.specs.declared.system.System.{System}
use Rattle.fo_core.specs.declared.world.World.{World}
use Rattle.up_diagram.specs.declared.cube.Cube.{Cube}
use Rattle.up_diagram.specs.Cubes.{Meets}
use Rattle.up_claims.specs.Frames.{IsInFrame, frame_at}
use Rattle.up_machine.specs.declared.end.End.{End}

-- A clause says that no state meets its cube. It holds in the frames up to its level. One that
-- isn't live was retired, since another covered it. A clause's place in the list is its number for
-- ever.
pub record Clause : Type 0 where
  pub cube : Cube
  pub level : ℕ
  pub live : Bool

-- What becomes of an obligation: it can be worked on; a worker works on it; it waits for a child,
-- which is a step before it; it is blocked or dropped; or an initial state was found in which it
-- embeds, copy 0 of the root.
pub data Status : Type 0 where
  Ready Out Waiting Done : Status
  Rooted : (root : World) → Status

-- A proof obligation: its state is to be shown unreachable within as many steps as its level. The
-- state is copy 0 of the world. Of a seed, which violates a safety, the world has one copy; of any
-- other it is a step, into whose copy 1 the parent's state embeds.
pub record Obligation : Type 0 where
  pub level : ℕ
  pub world : World
  pub parent : Option ℕ
  pub status : Status

-- A push that failed: a step from the frame of this level into the cube of the clause.
pub record FailedPush : Type 0 where
  pub clause : ℕ
  pub level : ℕ
  pub step : World

-- A job as a worker was given it: its number, and all that its queries need, as it stood when the
-- worker took it. Of a work: the obligation's level, the frame below that level, and the
-- obligation's world. Of a look: the frontier, its frame, the worlds of the obligations that it is
-- to avoid, and how many seed obligations were done. Of a push: the clause's level, the frame of
-- that level, and the clause's cube. Of a trace: how many steps the run may have.
pub data Given : Type 0 where
  Work : (obligation level : ℕ) (below : Option (List Cube)) (world : World) → Given
  Look : (level : ℕ) (frame : List Cube) (avoid : List World) (done : ℕ) → Given
  Push : (clause level : ℕ) (frame : List Cube) (cube : Cube) → Given
  Trace : (obligation steps : ℕ) → Given

-- a job that is out, and the worker that has it
pub record Held : Type 0 where
  pub worker : ℕ
  pub given : Given

-- The whole state. The frontier is the last frame; the secure level is the last one of which it is
-- known that no state of its frame violates a safety. Calm, where it is there, is how many seed
-- obligations were done when a look last found no further violating state.
pub record Machine : Type 0 where
  pub clauses : List Clause
  pub frontier : ℕ
  pub secure : ℕ
  pub obligations : List Obligation
  pub failed : List FailedPush
  pub jobs : List Held
  pub calm : Option ℕ
  pub productive : ℕ
  pub ending : Option End

-- before any event
abbrev pub start : Machine
start = record {
  clauses = [];
  frontier = 1;
  secure = 0;
  obligations = [];
  failed = [];
  jobs = [];
  calm = None;
  productive = 0;
  ending = None;
}

-- the clause is live and of at least this level
abbrev pub is_from : ℕ → Clause → Bool
is_from i c = c.live && nat_le i c.level

-- the cubes of the live clauses of at least this level, in the order in which they were learnt
abbrev pub cubes_from : List Clause → ℕ → List Cube
cubes_from clauses i = map (λ (c : Clause). c.cube) (filter (is_from i) clauses)

-- Frame i. Frame 0 is the initial states. Frame i, for i of at least 1, is the states that meet the
-- cube of no live clause of level i or more.
abbrev pub frame : List Clause → ℕ → Option (List Cube)
frame clauses i = frame_at i (cubes_from clauses i)

-- copy c of w is a state of frame i now
abbrev pub IsIn : System → Machine → ℕ → World → ℕ → Type 0
IsIn sys m i w c = IsInFrame sys (frame m.clauses i) w c

-- Live clause k, of level i or more, refutes copy c of w: it says that the state isn't in frame i,
-- which is one of those told by clauses.
pub record Refutes (sys : System) (m : Machine) (i : ℕ) (w : World) (c k : ℕ) : Type 0 where
  pub told : 1 ≤ i
  pub clause : Clause
  pub there : slice_get m.clauses k ≡ Some clause
  pub live : clause.live ≡ true
  pub level : i ≤ clause.level
  pub meets : Meets sys.sig w c clause.cube

-- the first clause that does
pub record IsFirstRefuter (sys : System) (m : Machine) (i : ℕ) (w : World) (c k : ℕ) : Type 0 where
  pub refutes : Refutes sys m i w c k
  pub first : (j : ℕ) → j < k → ¬ Refutes sys m i w c j

abbrev pub is_done : Status → Bool
is_done Done = true
is_done _ = false

-- an obligation without a parent is a seed: a violating state of the frontier's frame
abbrev pub is_seed : Obligation → Bool
is_seed o = is_none o.parent

abbrev pub is_done_seed : Obligation → Bool
is_done_seed o = is_seed o && is_done o.status

abbrev pub is_unfinished_seed : Obligation → Bool
is_unfinished_seed o = is_seed o && not (is_done o.status)

abbrev pub done_seeds : Machine → ℕ
done_seeds m = length (filter is_done_seed m.obligations)

abbrev pub unfinished_seeds : Machine → List Obligation
unfinished_seeds m = filter is_unfinished_seed m.obligations

-- the worlds of the unfinished seed obligations of the frontier's level
abbrev pub to_avoid : Machine → List World
to_avoid m =
    map (λ (o : Obligation). o.world)
    (filter (λ o. is_unfinished_seed o && nat_eq o.level m.frontier) m.obligations)

-- what the worker holds, if anything
abbrev pub held_by : List Held → ℕ → Option Given
held_by jobs w = option_map (λ (h : Held). h.given) (find (λ (h : Held). nat_eq h.worker w) jobs)
