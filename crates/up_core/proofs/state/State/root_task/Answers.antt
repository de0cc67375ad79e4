use Rattle.std.proofs.Common.{subst, sym, ◌∙◌, None, Some, ap}
use Rattle.up_core.specs.Choice.{IsFirstPlace, has_job, is_rooted, is_trace}
use Rattle.up_core.specs.declared.state.ObligationEntry.{ObligationEntry}
use Rattle.up_core.proofs.Chosen.{root-none, root-some, root-idle}
use Rattle.up_core.proofs.state.State.root_task.Goals as goal

pub returns-then-trace_is_out : goal.returns-then-trace_is_out
returns-then-trace_is_out c sys limits history m mirror =
    let s = c.args.self.now in
    root-idle sys limits history m s mirror c.in-Some.k
    c.in-Some.ensures
    (sym (ap (has_job is_trace) c.as_slice.ensures.value) ∙ sym c.trace_is_out.ensures ∙ c.if-trace_is_out.true)

pub returns-else-trace_is_out : goal.returns-else-trace_is_out
returns-else-trace_is_out c sys limits history m mirror =
    let s = c.args.self.now in
    root-some sys limits history m s mirror c.in-Some.k
    c.in-Some.ensures
    (sym (ap (has_job is_trace) c.as_slice.ensures.value) ∙ sym c.trace_is_out.ensures ∙ c.if-trace_is_out.false)

pub returns-in-None : goal.returns-in-None
returns-in-None c sys limits history m mirror =
    let s = c.args.self.now in
    root-none sys limits history m s mirror
    c.in-None.ensures
