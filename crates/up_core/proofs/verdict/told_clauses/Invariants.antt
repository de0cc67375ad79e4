use Rattle.std.proofs.Common.{◌≡◌, take}
use Rattle.up_core.specs.Places.{is_live, live_of}
use Rattle.up_core.specs.Telling.{told_from}
use Rattle.up_core.proofs.Placed.{joined}
use Rattle.up_core.proofs.verdict.told_clauses.Given as goal

-- the live clauses before this one are told
abbrev pub invariant-each : goal.invariant-each
invariant-each l = l.told ≡ joined is_live l.clauses.items (told_from l.history l.level) (take l.at (live_of l.clauses.items))
