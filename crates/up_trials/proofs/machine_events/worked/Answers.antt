use Rattle.std.proofs.Common.{ap, ◌∙◌}
use Rattle.up_machine.specs.declared.limits.Limits.{Limits}
use Rattle.up_trials.proofs.Answering.{answered-work, cubes-sorted}
use Rattle.up_trials.proofs.machine_events.worked.Goals as goal

pub block-requires-clause-frame : goal.block-requires-clause-frame
block-requires-clause-frame g c =
    cubes-sorted c.system-sys.result.now c.args.core.now.sys c.as_slice-frame.result.now c.args.brief.now.frame c.system-sys.ensures c.as_slice-frame.ensures c.requires.solvable.ready.frame

pub returns : goal.returns
returns g c =
    let weight = c.new-engine.ensures ∙ ap (λ (l : Limits). l.weight) c.limits.ensures in
    answered-work c.args.core.now c.args.worker c.args.brief.now c.requires c.system-sys.result.now c.new-engine.result.limit c.system-sys.ensures weight
    c.as_slice-frame.result.now c.as_slice-frame.ensures c.in-Work.field-0 c.in-Work.is c.in-Some.world c.in-Some.is
    c.block.result c.expect.result c.expect.ensures c.block.ensures.found
