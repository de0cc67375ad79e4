use Rattle.std.proofs.Common.{◌≡◌, take}
use Rattle.up_core.specs.Briefing.{state_from}
use Rattle.up_core.specs.Places.{is_unfinished, open_of}
use Rattle.up_core.proofs.Placed.{joined}
use Rattle.up_core.proofs.briefs.states_to_avoid.Given as goal

-- the states of those that aren't done before this one are described
abbrev pub invariant-each : goal.invariant-each
invariant-each l = l.cubes ≡ joined is_unfinished l.obligations.items (state_from l.sig l.history l.level) (take l.at (open_of l.obligations.items))
