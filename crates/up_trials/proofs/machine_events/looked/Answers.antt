use Rattle.std.proofs.Common.{ap, ◌∙◌}
use Rattle.up_machine.specs.declared.limits.Limits.{Limits}
use Rattle.up_trials.proofs.Answering.{answered-look, cubes-sorted}
use Rattle.up_trials.proofs.machine_events.looked.Goals as goal

pub look-requires-clause-frame : goal.look-requires-clause-frame
look-requires-clause-frame g c =
    cubes-sorted c.system.result.now c.args.core.now.sys c.as_slice-frame.result.now c.args.brief.now.frame c.system.ensures c.as_slice-frame.ensures c.requires.solvable.ready.frame

pub look-requires-clause-avoid : goal.look-requires-clause-avoid
look-requires-clause-avoid g c =
    cubes-sorted c.system.result.now c.args.core.now.sys c.as_slice-avoid.result.now c.args.brief.now.avoid c.system.ensures c.as_slice-avoid.ensures c.requires.solvable.ready.avoid

pub returns : goal.returns
returns g c =
    let weight = c.new-engine.ensures ∙ ap (λ (l : Limits). l.weight) c.limits.ensures in
    answered-look c.args.core.now c.args.worker c.args.brief.now c.requires c.system.result.now c.new-engine.result.limit c.system.ensures weight
    c.as_slice-frame.result.now c.as_slice-frame.ensures c.in-Look.is c.as_slice-avoid.result.now c.as_slice-avoid.ensures
    c.look.result c.expect.result c.expect.ensures c.look.ensures.found
