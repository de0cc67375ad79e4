use Rattle.std.proofs.Common.{◌-◌, sym, subst}
use Rattle.up_machine.specs.declared.event.Event.TheVariants as E
use Rattle.up_core.specs.Holding.{IsCore}
use Rattle.up_core.specs.Known.{IsKnown}
use Rattle.up_core.specs.Lapsing.{CanRise, IsRaised}
use Rattle.up_core.specs.Steps.{push_in}
use Rattle.up_core.specs.View.{CoreView}
use Rattle.up_core.proofs.EventCores.{open-for, spare-less}
use Rattle.up_core.proofs.TaughtCores.{can-rise, raise-core}
use Rattle.up_core.proofs.kept.Core.raise.Goals as goal

pub raise-requires-clause-rise : goal.raise-requires-clause-rise
raise-requires-clause-rise c e is =
    let x = c.self.inside in
    let known = subst (λ (v : CoreView). IsKnown v (E.Raise c.args.worker)) (sym c.self.view_is) c.requires in
    subst (λ es. CanRise es x.sys.sig x.picks x.state.clauses.items e) (sym c.as_slice-history.ensures.value) (can-rise x.sys x.order x.limits x.history x.state x.spare x.picks x.variables x.widest c.self.invariant c.args.worker known e is)

pub invariant_of-self : goal.invariant_of-self
invariant_of-self c =
    let x = c.self.inside in
    let s = x.state in
    let w = c.args.worker in
    let known = subst (λ (v : CoreView). IsKnown v (E.Raise w)) (sym c.self.view_is) c.requires in
    let push = c.push_reserved.ensures in
    subst (λ p. IsCore x.sys x.order x.limits c.push_reserved.new.self c.raise.new.self (x.spare - 1) p x.variables x.widest) (sym c.raise.ensures.picks)
    (raise-core x.sys x.order x.limits x.history x.state x.spare x.picks x.variables x.widest c.self.invariant w known c.push_reserved.new.self c.raise.new.self (record { open_for = open-for x.sys x.order x.limits x.history x.state x.spare x.picks x.variables x.widest c.self.invariant (E.Raise w) c.if-self.false c.if-self-2.false; in_place = tt })
    (record { items = push.items; len = push.len; capacity = push.capacity })
    (λ n h. c.raise.ensures.room n (spare-less n s h))
    (λ e is. subst (λ es. IsRaised es x.sys.sig (push_in w s.jobs.items) s.clauses.items c.raise.new.self.clauses.items e) c.as_slice-history.ensures.value (c.raise.ensures.raised e is)) c.raise.ensures.state)
