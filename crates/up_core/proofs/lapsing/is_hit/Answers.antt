use Rattle.up_core.proofs.lapsing.is_hit.Goals as goal

pub hits_at-requires-clause-meet : goal.hits_at-requires-clause-meet
hits_at-requires-clause-meet c world at = c.requires.meet.meet c.in-Some.place c.in-Some.is world at
