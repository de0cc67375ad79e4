use Rattle.std.proofs.Common.{arith}
use Rattle.up_core.specs.Room.{HasRoom}
use Rattle.up_core.proofs.state.State.seed.Goals as goal

pub returns-clause-room : goal.returns-clause-room
returns-clause-room c n h =
    let jobs : HasRoom n c.args.self.now.jobs = omega (arith, h.jobs) in
    record {
      clauses = omega (arith, h.clauses);
      obligations = omega (arith, h.obligations, c.push.ensures.room);
      jobs = c.release.ensures.room n jobs;
    }
