use Rattle.std.proofs.Common.{arith}
use Rattle.up_core.proofs.state.State.give_back.Goals as goal

pub returns-clause-room : goal.returns-clause-room
returns-clause-room c n h = record {
  clauses = h.clauses;
  obligations = omega (arith, h.obligations, c.set_progress.ensures.room);
  jobs = c.release.ensures.room n h.jobs;
}
