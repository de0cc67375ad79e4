use Rattle.std.proofs.Common.{◌≡◌, take}
use Rattle.up_core.specs.Listing.{cube_from}
use Rattle.up_core.specs.Places.{is_live, live_of}
use Rattle.up_core.proofs.Placed.{joined}
use Rattle.up_core.proofs.frames.copy_cubes.Given as goal

-- the cubes of the live clauses before this one are copied
abbrev pub invariant-each : goal.invariant-each
invariant-each l = l.cubes ≡ joined is_live l.clauses.items (cube_from l.history l.level) (take l.at (live_of l.clauses.items))
