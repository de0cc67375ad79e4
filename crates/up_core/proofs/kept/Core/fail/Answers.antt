use Rattle.std.proofs.Common.{length, sym, subst, ap, ◌∙◌}
use Rattle.up_machine.specs.declared.event.Event.TheVariants as E
use Rattle.up_core.specs.Known.{IsKnown, IsNow}
use Rattle.up_core.specs.View.{CoreView}
use Rattle.up_core.proofs.EventCores.{spare-less}
use Rattle.up_core.proofs.WorldCores.{ok-of, fail-core-at}
use Rattle.up_core.proofs.kept.Core.fail.Goals as goal

pub invariant_of-self : goal.invariant_of-self
invariant_of-self c =
    let x = c.self.inside in
    let s = x.state in
    let e = E.Fail c.args.worker c.args.step in
    let is = c.self.view_is ∙ c.test_fail.ensures.same in
    let known = subst (λ (v : CoreView). IsKnown v e) (sym is) c.requires in
    let now_is = subst (λ (v : CoreView). IsNow v e) (sym is) (ok-of _ c.test_fail.result c.test_fail.ensures.when c.in_default.not-Err) in
    let push = c.push_reserved.ensures in
    fail-core-at x.sys x.order x.limits x.history x.state x.spare x.picks x.variables x.widest c.self.invariant (length c.as_slice-found.result.now) (ap length c.as_slice-found.ensures.value) c.args.worker c.args.step c.push_reserved.new.self c.fail.new.self known now_is
    (record { items = push.items; len = push.len; capacity = push.capacity })
    (λ n h. c.fail.ensures.room n (spare-less n s h)) c.fail.ensures.state
