use Rattle.up_core.proofs.state.State.raise.Goals as goal

pub returns-clause-room : goal.returns-clause-room
returns-clause-room c n h =
    let r = c.rise_pushed.ensures.room n h in
    record {
      clauses = r.clauses;
      obligations = r.obligations;
      jobs = c.release.ensures.room n r.jobs;
    }
