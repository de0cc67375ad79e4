use Rattle.std.proofs.Common.{subst, sym, ◌∙◌, ap, ◌≤◌, ◌<◌}
use Rattle.std.specs.List.{count_by}
use Rattle.up_machine.specs.declared.limits.TheConstants.{MOST_SEEDS}
use Rattle.up_core.specs.Choice.{has_job, is_look, is_open_seed}
use Rattle.up_core.proofs.Chosen.{look-busy, look-calm, look-many, look-some, true-of, not-true-of}
use Rattle.up_core.proofs.state.State.look_task.Goals as goal

pub returns-then-look_is_out : goal.returns-then-look_is_out
returns-then-look_is_out c sys limits history m mirror =
    look-busy sys limits history m c.args.self.now mirror (sym (ap (has_job is_look) c.as_slice.ensures.value) ∙ sym c.look_is_out.ensures ∙ c.if-look_is_out.true)

pub returns-then-is_calm : goal.returns-then-is_calm
returns-then-is_calm c sys limits history m mirror =
    look-calm sys limits history m c.args.self.now mirror (true-of c.is_calm.result _ c.is_calm.ensures c.if-is_calm.true)

pub returns-then-open_seeds : goal.returns-then-open_seeds
returns-then-open_seeds c sys limits history m mirror =
    look-many sys limits history m c.args.self.now mirror
    (subst (λ n. MOST_SEEDS ≤ n) c.open_seeds.ensures c.if-open_seeds.true)

pub returns : goal.returns
returns c sys limits history m mirror =
    look-some sys limits history m c.args.self.now mirror (subst (λ n. c.args.self.now.secure < n) c.frontier.ensures c.if-self-frontier.false)
    (sym (ap (has_job is_look) c.as_slice.ensures.value) ∙ sym c.look_is_out.ensures ∙ c.if-look_is_out.false)
    (not-true-of c.is_calm.result _ c.is_calm.ensures c.if-is_calm.false)
    (subst (λ n. n < MOST_SEEDS) c.open_seeds.ensures c.if-open_seeds.false)
