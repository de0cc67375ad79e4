use Rattle.std.proofs.Common.{None, Some, rules, sym, subst}
use Rattle.up_machine.specs.declared.event.Event.TheVariants as E
use Rattle.up_machine.specs.declared.not_now.NotNow.TheVariants as W
use Rattle.up_core.specs.Known.{IsKnown, IsNow, IsNotNow}
use Rattle.up_core.specs.Refuting.{AreTriable, AreTriableForOwn, IsFirstOwn, IsFirstBelow}
use Rattle.up_core.specs.View.{CoreView}
use Rattle.up_core.proofs.EventCores.{open-for}
use Rattle.up_core.proofs.NextCores.{small-of}
use Rattle.up_core.proofs.Tried.{known-work, own-tries, own-refuted, step-tries, step-known, before-refuted, before-step, before-initial, none-left}
use Rattle.up_core.proofs.kept.Core.test_before.Goals as goal

pub own_refuter-own-requires : goal.own_refuter-own-requires
own_refuter-own-requires c =
    let x = c.self.inside in
    let known = subst (λ (v : CoreView). IsKnown v (E.Before c.args.worker c.args.origin.now)) (sym c.self.view_is) c.requires in
    subst (λ es. AreTriableForOwn es x.sys.sig c.args.worker x.picks x.state) (sym c.as_slice-history.ensures.value)
    (own-tries x.sys x.order x.limits x.history x.state x.spare x.picks x.variables x.widest c.self.invariant c.args.worker (known-work x.sys x.order x.limits x.history x.state x.spare x.picks x.variables x.widest c.self.invariant c.args.worker c.args.origin.now known))

pub overflow_cast-result : goal.overflow_cast-result
overflow_cast-result c =
    let x = c.self.inside in
    let small = small-of x.sys x.order x.limits x.history x.state x.spare x.picks x.variables x.widest c.self.invariant in
    let within = c.in-Some.ensures.within in
    let few = small.clauses in
    search rules

pub returns-in-Some-clause-when : goal.returns-in-Some-clause-when
returns-in-Some-clause-when c =
    let x = c.self.inside in
    let w = c.args.worker in
    let o = c.args.origin.now in
    let known = subst (λ (v : CoreView). IsKnown v (E.Before w o)) (sym c.self.view_is) c.requires in
    let first = subst (λ es. IsFirstOwn es x.sys.sig w x.state (Some c.in-Some.k)) c.as_slice-history.ensures.value c.in-Some.ensures.first in
    subst (λ (v : CoreView). IsNotNow v (E.Before w o) (W.Own c.in-Some.k)) c.self.view_is
    (open-for x.sys x.order x.limits x.history x.state x.spare x.picks x.variables x.widest c.self.invariant (E.Before w o) c.if-self.false c.if-self-2.false, own-refuted x.sys x.order x.limits x.history x.state x.spare x.picks x.variables x.widest c.self.invariant w c.in-Some.k (known-work x.sys x.order x.limits x.history x.state x.spare x.picks x.variables x.widest c.self.invariant w o known) first)

pub step_refuter-found-requires : goal.step_refuter-found-requires
step_refuter-found-requires c =
    let x = c.self.inside in
    let w = c.args.worker in
    let o = c.args.origin.now in
    let known = subst (λ (v : CoreView). IsKnown v (E.Before w o)) (sym c.self.view_is) c.requires in
    let p = c.in-Step.p in
    subst (λ es. AreTriable es x.sys.sig p c.own_refuter-own.new.picks x.state.clauses.items) (sym c.as_slice-history.ensures.value)
    (subst (λ n. AreTriable x.history.items x.sys.sig p n x.state.clauses.items) (sym c.own_refuter-own.ensures.room) (step-tries x.sys x.order x.limits x.history x.state x.spare x.picks x.variables x.widest c.self.invariant w p (step-known x.sys x.order x.limits x.history x.state x.spare x.picks x.variables x.widest c.self.invariant w o p c.in-Step.is known)))

pub overflow_cast-result-in-Some-found : goal.overflow_cast-result-in-Some-found
overflow_cast-result-in-Some-found c =
    let x = c.self.inside in
    let small = small-of x.sys x.order x.limits x.history x.state x.spare x.picks x.variables x.widest c.self.invariant in
    let within = c.in-Some-found.ensures.within in
    let few = small.clauses in
    search rules

pub returns-in-Some-found-clause-when : goal.returns-in-Some-found-clause-when
returns-in-Some-found-clause-when c =
    let x = c.self.inside in
    let w = c.args.worker in
    let o = c.args.origin.now in
    let known = subst (λ (v : CoreView). IsKnown v (E.Before w o)) (sym c.self.view_is) c.requires in
    let own = subst (λ es. IsFirstOwn es x.sys.sig w x.state None) c.as_slice-history.ensures.value (subst (λ r. IsFirstOwn c.as_slice-history.result.now x.sys.sig w x.state r) (none-left c.own_refuter-own.result c.in_default.not-Some) c.own_refuter-own.ensures.first) in
    let k = c.in-Some-found.k in
    let first = subst (λ es. IsFirstBelow es x.sys.sig c.in-Step.p w x.state (Some k)) c.as_slice-history.ensures.value c.in-Some-found.ensures.first in
    subst (λ (v : CoreView). IsNotNow v (E.Before w o) (W.Refuted k)) c.self.view_is
    (open-for x.sys x.order x.limits x.history x.state x.spare x.picks x.variables x.widest c.self.invariant (E.Before w o) c.if-self.false c.if-self-2.false, before-refuted x.sys x.order x.limits x.history x.state x.spare x.picks x.variables x.widest c.self.invariant w o c.in-Step.p k c.in-Step.is known own first)

pub returns-in-Step-clause-when : goal.returns-in-Step-clause-when
returns-in-Step-clause-when c =
    let x = c.self.inside in
    let w = c.args.worker in
    let o = c.args.origin.now in
    let known = subst (λ (v : CoreView). IsKnown v (E.Before w o)) (sym c.self.view_is) c.requires in
    let own = subst (λ es. IsFirstOwn es x.sys.sig w x.state None) c.as_slice-history.ensures.value (subst (λ r. IsFirstOwn c.as_slice-history.result.now x.sys.sig w x.state r) (none-left c.own_refuter-own.result c.in_default.not-Some) c.own_refuter-own.ensures.first) in
    let found = subst (λ r. IsFirstBelow c.as_slice-history.result.now x.sys.sig c.in-Step.p w x.state r) (none-left c.step_refuter-found.result c.in_default-found.not-Some) c.step_refuter-found.ensures.first in
    let first = subst (λ es. IsFirstBelow es x.sys.sig c.in-Step.p w x.state None) c.as_slice-history.ensures.value found in
    subst (λ (v : CoreView). IsNow v (E.Before w o)) c.self.view_is
    (record { open_for = open-for x.sys x.order x.limits x.history x.state x.spare x.picks x.variables x.widest c.self.invariant (E.Before w o) c.if-self.false c.if-self-2.false; in_place = before-step x.sys x.order x.limits x.history x.state x.spare x.picks x.variables x.widest c.self.invariant w o c.in-Step.p c.in-Step.is known own first })

pub returns-clause-when : goal.returns-clause-when
returns-clause-when c =
    let x = c.self.inside in
    let w = c.args.worker in
    let o = c.args.origin.now in
    let known = subst (λ (v : CoreView). IsKnown v (E.Before w o)) (sym c.self.view_is) c.requires in
    let own = subst (λ es. IsFirstOwn es x.sys.sig w x.state None) c.as_slice-history.ensures.value (subst (λ r. IsFirstOwn c.as_slice-history.result.now x.sys.sig w x.state r) (none-left c.own_refuter-own.result c.in_default.not-Some) c.own_refuter-own.ensures.first) in
    subst (λ (v : CoreView). IsNow v (E.Before w o)) c.self.view_is
    (record { open_for = open-for x.sys x.order x.limits x.history x.state x.spare x.picks x.variables x.widest c.self.invariant (E.Before w o) c.if-self.false c.if-self-2.false; in_place = before-initial x.sys x.order x.limits x.history x.state x.spare x.picks x.variables x.widest c.self.invariant w o c.in_default-origin.not-Step own })
