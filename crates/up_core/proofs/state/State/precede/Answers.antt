use Rattle.std.proofs.Common.{◌≡◌, ◌≤◌, ◌+◌, ◌∙◌, ap, sym, arith}
use Rattle.up_core.specs.Room.{HasRoom}
use Rattle.up_core.specs.Steps.{entry_before}
use Rattle.up_core.proofs.OpenChosen.{fresh-before}
use Rattle.up_core.proofs.state.State.precede.Goals as goal

pub push_if-requires-clause-room : goal.push_if-requires-clause-room
push_if-requires-clause-room c = let one = c.requires.room.obligations in omega (arith, one, c.set_progress.ensures.room)

pub push_if-requires-clause-fresh : goal.push_if-requires-clause-fresh
push_if-requires-clause-fresh c e is = fresh-before c.entries.result.now c.work_of-work.result c.args.found e (sym c.step_before-before.ensures ∙ is)

pub returns-clause-room : goal.returns-clause-room
returns-clause-room c n h =
    let jobs : HasRoom n c.args.self.now.jobs = omega (arith, h.jobs) in
    let some : n + 1 ≤ c.set_progress.new.self.room = omega (arith, h.obligations, c.set_progress.ensures.room) in
    record {
      clauses = omega (arith, h.clauses);
      obligations = c.push_if.ensures.room n some;
      jobs = c.release.ensures.room n jobs;
    }
