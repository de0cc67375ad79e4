use Rattle.std.proofs.Common.{None, Some, rules, sym, subst}
use Rattle.up_machine.specs.declared.event.Event.TheVariants as E
use Rattle.up_machine.specs.declared.not_now.NotNow.TheVariants as W
use Rattle.up_machine.specs.Finding.{HoldsWork}
use Rattle.up_core.specs.Known.{IsNow, IsNotNow}
use Rattle.up_core.specs.Refuting.{AreTriableForOwn, IsFirstOwn}
use Rattle.up_core.specs.View.{CoreView, now}
use Rattle.up_core.proofs.EventCores.{open-for}
use Rattle.up_core.proofs.NextCores.{small-of}
use Rattle.up_core.proofs.Tried.{own-tries, own-inside, own-refuted, none-left}
use Rattle.up_core.proofs.kept.Core.test_learn.Goals as goal

pub own_refuter-own-requires : goal.own_refuter-own-requires
own_refuter-own-requires c =
    let x = c.self.inside in
    let work = subst (λ (v : CoreView). HoldsWork (now v) c.args.worker) (sym c.self.view_is) c.requires in
    subst (λ es. AreTriableForOwn es x.sys.sig c.args.worker x.picks x.state) (sym c.as_slice-history.ensures.value) (own-tries x.sys x.order x.limits x.history x.state x.spare x.picks x.variables x.widest c.self.invariant c.args.worker work)

pub overflow_cast-result : goal.overflow_cast-result
overflow_cast-result c =
    let x = c.self.inside in
    let small = small-of x.sys x.order x.limits x.history x.state x.spare x.picks x.variables x.widest c.self.invariant in
    let within = c.in-Some.ensures.within in
    let few = small.clauses in
    search rules

pub returns-in-Some-clause-when : goal.returns-in-Some-clause-when
returns-in-Some-clause-when c cube =
    let x = c.self.inside in
    let w = c.args.worker in
    let work = subst (λ (v : CoreView). HoldsWork (now v) w) (sym c.self.view_is) c.requires in
    let first = subst (λ es. IsFirstOwn es x.sys.sig w x.state (Some c.in-Some.k)) c.as_slice-history.ensures.value c.in-Some.ensures.first in
    subst (λ (v : CoreView). IsNotNow v (E.Learn w cube) (W.Own c.in-Some.k)) c.self.view_is
    (open-for x.sys x.order x.limits x.history x.state x.spare x.picks x.variables x.widest c.self.invariant (E.Learn w cube) c.if-self.false c.if-self-2.false, own-refuted x.sys x.order x.limits x.history x.state x.spare x.picks x.variables x.widest c.self.invariant w c.in-Some.k work first)

pub returns-clause-when : goal.returns-clause-when
returns-clause-when c cube =
    let x = c.self.inside in
    let w = c.args.worker in
    let own = subst (λ es. IsFirstOwn es x.sys.sig w x.state None) c.as_slice-history.ensures.value (subst (λ r. IsFirstOwn c.as_slice-history.result.now x.sys.sig w x.state r) (none-left c.own_refuter-own.result c.in_default.not-Some) c.own_refuter-own.ensures.first) in
    subst (λ (v : CoreView). IsNow v (E.Learn w cube)) c.self.view_is
    (record { open_for = open-for x.sys x.order x.limits x.history x.state x.spare x.picks x.variables x.widest c.self.invariant (E.Learn w cube) c.if-self.false c.if-self-2.false; in_place = own-inside x.sys x.order x.limits x.history x.state x.spare x.picks x.variables x.widest c.self.invariant w own })
