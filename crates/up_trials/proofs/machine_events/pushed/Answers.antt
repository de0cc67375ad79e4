use Rattle.std.proofs.Common.{ap, ◌∙◌}
use Rattle.up_machine.specs.declared.limits.Limits.{Limits}
use Rattle.up_trials.proofs.Answering.{answered-push, cubes-sorted}
use Rattle.up_trials.proofs.machine_events.pushed.Goals as goal

pub push-requires-clause-frame : goal.push-requires-clause-frame
push-requires-clause-frame g c =
    cubes-sorted c.system.result.now c.args.core.now.sys c.as_slice-frame.result.now c.args.brief.now.frame c.system.ensures c.as_slice-frame.ensures c.requires.solvable.ready.frame

pub returns : goal.returns
returns g c =
    let weight = c.new-engine.ensures ∙ ap (λ (l : Limits). l.weight) c.limits.ensures in
    answered-push c.args.core.now c.args.worker c.args.brief.now c.requires c.system.result.now c.new-engine.result.limit c.system.ensures weight
    c.as_slice-frame.result.now c.as_slice-frame.ensures c.in-Push.field-0 c.in-Push.is c.in-Some.cube c.in-Some.is
    c.push.result c.expect.result c.expect.ensures c.push.ensures.found
