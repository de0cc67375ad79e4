-- Which cubes the entries of clauses stand for.
use Rattle.std.specs.Prelude.{ℕ, ◌&&◌, cond, nat_le, List, [], slice_get}
use Rattle.std.specs.List.{flat_map}
use Rattle.std.specs.Option.{option_and_then, option_to_list}
use Rattle.fo_core.specs.declared.system.System.{System}
use Rattle.fo_core.specs.declared.world.World.{World}
use Rattle.fo_core.specs.Runs.{Reach}
use Rattle.up_diagram.specs.declared.cube.Cube.{Cube}
use Rattle.up_diagram.specs.Cubes.{Meets}
use Rattle.up_machine.specs.declared.event.Event.{Event}
use Rattle.up_machine.specs.Sound.{Each}
use Rattle.up_core.specs.declared.state.ClauseEntry.{ClauseEntry}
use Rattle.up_core.specs.Mirror.{cube_of}

-- no state that is reached within i steps meets one of the cubes
abbrev pub AreUnmet : System → ℕ → List Cube → Type 0
AreUnmet sys i cubes =
    (s : World) → Reach sys i s → Each cubes (λ k (cube : Cube). ¬ Meets sys.sig s 0 cube)

-- the cube that the event at the entry's place learnt, if the clause is live and of this level or a
-- higher one
abbrev pub cube_from : List Event → ℕ → ClauseEntry → List Cube
cube_from history level e =
    cond (e.live && nat_le level e.level)
    (option_to_list (option_and_then cube_of (slice_get history e.learnt)))
    []

-- those of all entries, in their order
abbrev pub listed : List Event → ℕ → List ClauseEntry → List Cube
listed history level entries = flat_map (cube_from history level) entries
