use Rattle.std.proofs.Common.{◌≡◌, ◌≤◌, take}
use Rattle.std.specs.Vec.{vec_capacity, vec_len}
use Rattle.up_core.specs.Places.{live_of}
use Rattle.up_core.proofs.Gathered.{gathered_due}
use Rattle.up_core.proofs.clauses.gather_due.Given as goal

-- those of the live clauses before this one are gathered
abbrev pub invariant-each : goal.invariant-each
invariant-each l = record {
  gathered : l.due.items ≡ gathered_due l.entries l.frontier (take l.at (live_of l.entries));
  few : vec_len l.due ≤ l.at;
  room : vec_capacity l.due ≡ vec_capacity l.fn.due;
}
