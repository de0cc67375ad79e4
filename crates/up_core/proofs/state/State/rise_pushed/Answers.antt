use Rattle.std.proofs.Common.{arith}
use Rattle.up_core.proofs.state.State.rise_pushed.Goals as goal

pub returns-in-Some-clause-room : goal.returns-in-Some-clause-room
returns-in-Some-clause-room c n h = record {
  clauses = omega (arith, h.clauses, c.rise.ensures.room);
  obligations = h.obligations;
  jobs = h.jobs;
}
