use Rattle.std.proofs.Common.{◌≡◌}
use Rattle.up_core.specs.Places.{is_live}
use Rattle.up_core.proofs.CoverPairs.{MayGoNow, may-live}
use Rattle.up_core.proofs.Placed.{NoneBefore}
use Rattle.up_core.proofs.covering.first_pair.Given as goal

-- no live clause before this one may go
abbrev pub invariant-each : goal.invariant-each
invariant-each l = record {
  none : NoneBefore is_live l.clauses.items (MayGoNow l.history l.clauses.items l.jobs) (may-live l.history l.clauses.items l.jobs) l.at;
  room : l.picks ≡ l.fn.picks;
}
