use Rattle.up_trials.proofs.grounding.find.Goals as goal

pub world_of-world-requires-clause-met : goal.world_of-world-requires-clause-met
world_of-world-requires-clause-met g c =
    let grounded = rw c.expect-grounded.ensures at c.ground.ensures.grounded in
    let a = rw c.in-Sat.ensures at c.solve.ensures.answer in
    let met = grounded.sound _ a.1 in
    rw c.as_slice-values.ensures met
