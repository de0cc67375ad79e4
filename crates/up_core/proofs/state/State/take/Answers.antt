use Rattle.std.proofs.Common.{arith}
use Rattle.up_core.proofs.state.State.take.Goals as goal

pub returns-clause-room : goal.returns-clause-room
returns-clause-room c n h =
    record {
      clauses = omega (arith, h.clauses);
      obligations = omega (arith, h.obligations, c.set_progress.ensures.room);
      jobs = omega (arith, h.jobs, c.push_reserved.ensures.len, c.push_reserved.ensures.capacity);
    }
