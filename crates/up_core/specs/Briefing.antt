-- Which brief a worker is to be given, and what it is by the entries.
use Rattle.std.specs.Prelude.{◌≡◌, ℕ, ◌-◌, ◌&&◌, cond, nat_eq, List, [], Option, None, Some, option_map, slice_get}
use Rattle.std.specs.List.{flat_map}
use Rattle.std.specs.Option.{option_and_then, option_to_list}
use Rattle.fo_core.specs.declared.signature.Sig.{Sig}
use Rattle.fo_core.specs.declared.world.World.{World}
use Rattle.up_claims.specs.Frames.{frame_at}
use Rattle.up_diagram.specs.declared.cube.Cube.{Cube}
use Rattle.up_diagram.specs.Diagrams.{CanDescribe}
use Rattle.up_machine.specs.declared.brief.Brief.{Brief}
use Rattle.up_machine.specs.declared.event.Event.{Event}
use Rattle.up_machine.specs.declared.job.Job.{Job}
use Rattle.up_machine.specs.declared.job.Job.TheVariants as J
use Rattle.up_machine.specs.Briefs.{brief_of, cubes_in}
use Rattle.up_machine.specs.Due.{job_of}
use Rattle.up_machine.specs.Finding.{state_cube}
use Rattle.up_machine.specs.Machine.{Given, held_by}
use Rattle.up_machine.specs.Replay.{given_for}
use Rattle.up_core.specs.declared.state.ClauseEntry.{ClauseEntry}
use Rattle.up_core.specs.declared.state.ObligationEntry.{ObligationEntry}
use Rattle.up_core.specs.declared.state.State.{State}
use Rattle.up_core.specs.Choice.{is_open_seed}
use Rattle.up_core.specs.Listing.{listed}
use Rattle.up_core.specs.Mirror.{IsWorldAt, cube_of, world_of}
use Rattle.up_core.specs.View.{CoreView, now}

-- the brief of the job that the worker holds, as a worker would be given it who took that job now
pub record IsBriefNow (c : CoreView) (w : ℕ) (brief : Brief) : Type 0 where
  pub held : Given
  pub holds : held_by (now c).jobs w ≡ Some held
  pub given : Given
  pub now_is : given_for (now c) (job_of held) ≡ Some given
  pub brief_is : brief ≡ brief_of c.sys.sig given

-- the brief of what the worker holds: of what it was given at its take
abbrev pub IsBriefHeld : CoreView → ℕ → Brief → Type 0
IsBriefHeld c w brief =
    (held : Given) → held_by (now c).jobs w ≡ Some held → brief ≡ brief_of c.sys.sig held

-- inside the crate: the same, by the entries

-- the states of all obligations may be described
abbrev pub AreDescribable : Sig → List Event → List ObligationEntry → Type 0
AreDescribable sig history entries =
    (k : ℕ) (e : ObligationEntry) (w : World) → slice_get entries k ≡ Some e →
    IsWorldAt history e.found w → CanDescribe sig w 0

module _ (history : List Event) where
  abbrev pub work_brief : List ClauseEntry → ℕ → ObligationEntry → Brief
  work_brief clauses k e = record {
    job = J.Work k;
    level = e.level;
    frame = cubes_in (frame_at (e.level - 1) (listed history (e.level - 1) clauses));
    avoid = [];
    world = option_and_then world_of (slice_get history e.found);
    cube = None;
  }

  abbrev pub push_brief : List ClauseEntry → ℕ → ClauseEntry → Brief
  push_brief clauses k e = record {
    job = J.Push k;
    level = e.level;
    frame = listed history e.level clauses;
    avoid = [];
    world = None;
    cube = option_and_then cube_of (slice_get history e.learnt);
  }

abbrev pub trace_brief : ℕ → ℕ → ObligationEntry → Brief
trace_brief frontier k e = record {
  job = J.Trace k;
  level = frontier - e.level;
  frame = [];
  avoid = [];
  world = None;
  cube = None;
}

module _ (sig : Sig) (history : List Event) where
  -- the diagram of the entry's state, if it is an unfinished seed of this level
  abbrev pub state_from : ℕ → ObligationEntry → List Cube
  state_from level e =
      cond (is_open_seed e && nat_eq e.level level)
      (option_to_list
      (option_map (state_cube sig) (option_and_then world_of (slice_get history e.found))))
      []

  -- those of all entries, in their order
  abbrev pub avoided : ℕ → List ObligationEntry → List Cube
  avoided level entries = flat_map (state_from level) entries

  abbrev pub look_brief : State → Brief
  look_brief s = record {
    job = J.Look;
    level = s.clauses.frontier;
    frame = listed history s.clauses.frontier s.clauses.items;
    avoid = avoided s.clauses.frontier s.obligations.items;
    world = None;
    cube = None;
  }

  -- the brief of a job now; none where its obligation or clause isn't there
  abbrev pub brief_at : State → Job → Option Brief
  brief_at s (J.Work k) =
      option_map (work_brief history s.clauses.items k) (slice_get s.obligations.items k)
  brief_at s J.Look = Some (look_brief s)
  brief_at s (J.Push k) =
      option_map (push_brief history s.clauses.items k) (slice_get s.clauses.items k)
  brief_at s (J.Trace k) = option_map (trace_brief s.clauses.frontier k) (slice_get s.obligations.items k)
