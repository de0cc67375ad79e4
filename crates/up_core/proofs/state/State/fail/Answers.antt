use Rattle.std.proofs.Common.{arith}
use Rattle.up_core.proofs.state.State.fail.Goals as goal

pub returns-clause-room : goal.returns-clause-room
returns-clause-room c n h = record {
  clauses = omega (arith, h.clauses, c.fail.ensures.room);
  obligations = h.obligations;
  jobs = c.release.ensures.room n h.jobs;
}
