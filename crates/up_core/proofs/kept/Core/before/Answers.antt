use Rattle.std.proofs.Common.{length, sym, subst, ap, ◌∙◌, arith}
use Rattle.up_machine.specs.declared.event.Event.TheVariants as E
use Rattle.up_core.specs.Known.{IsKnown, IsNow}
use Rattle.up_core.specs.View.{CoreView}
use Rattle.up_core.proofs.NextCores.{small-of}
use Rattle.up_core.proofs.WorldCores.{ok-of, before-core-at}
use Rattle.up_core.proofs.kept.Core.before.Goals as goal

pub invariant_of-self : goal.invariant_of-self
invariant_of-self c =
    let x = c.self.inside in
    let s = x.state in
    let e = E.Before c.args.worker c.args.origin in
    let is = c.self.view_is ∙ c.test_before.ensures.same in
    let known = subst (λ (v : CoreView). IsKnown v e) (sym is) c.requires.known in
    let now_is = subst (λ (v : CoreView). IsNow v e) (sym is) (ok-of _ c.test_before.result c.test_before.ensures.when c.in_default.not-Err) in
    let push = c.push_reserved.ensures in
    let b = c.max-self-inside.ensures in
    before-core-at x.sys x.order x.limits x.history x.state x.spare x.picks x.variables x.widest c.self.invariant (length c.as_slice-found.result.now) (ap length c.as_slice-found.ensures.value) c.args.worker c.args.origin c.push_reserved.new.self c.precede_by.new.self c.max-self-inside.result
    (omega (arith, b)) (omega (arith, b, c.elements_before.ensures)) known now_is
    (record { items = push.items; len = push.len; capacity = push.capacity })
    c.precede_by.ensures.room c.precede_by.ensures.state

pub precede_by-requires-clause-small : goal.precede_by-requires-clause-small
precede_by-requires-clause-small c =
    let x = c.self.inside in
    (small-of x.sys x.order x.limits x.history x.state x.spare x.picks x.variables x.widest c.self.invariant).obligations
