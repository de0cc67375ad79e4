use Rattle.std.proofs.Common.{None, Some, rules, sym, subst}
use Rattle.up_machine.specs.declared.event.Event.TheVariants as E
use Rattle.up_machine.specs.declared.not_now.NotNow.TheVariants as W
use Rattle.up_core.specs.Known.{IsKnown, IsNow, IsNotNow}
use Rattle.up_core.specs.Refuting.{AreTriable, IsFirstPushed}
use Rattle.up_core.specs.View.{CoreView}
use Rattle.up_core.proofs.EventCores.{open-for}
use Rattle.up_core.proofs.NextCores.{small-of}
use Rattle.up_core.proofs.Tried.{fail-tries, fail-inside, fail-refuted, none-left}
use Rattle.up_core.proofs.kept.Core.test_fail.Goals as goal

pub fail_refuter-found-requires : goal.fail_refuter-found-requires
fail_refuter-found-requires c =
    let x = c.self.inside in
    let known = subst (λ (v : CoreView). IsKnown v (E.Fail c.args.worker c.args.world.now)) (sym c.self.view_is) c.requires in
    subst (λ es. AreTriable es x.sys.sig c.args.world.now x.picks x.state.clauses.items) (sym c.as_slice-history.ensures.value)
    (fail-tries x.sys x.order x.limits x.history x.state x.spare x.picks x.variables x.widest c.self.invariant c.args.worker c.args.world.now known)

pub returns-in-Some-clause-when : goal.returns-in-Some-clause-when
returns-in-Some-clause-when c =
    let x = c.self.inside in
    let known = subst (λ (v : CoreView). IsKnown v (E.Fail c.args.worker c.args.world.now)) (sym c.self.view_is) c.requires in
    let first = subst (λ es. IsFirstPushed es x.sys.sig c.args.world.now c.args.worker x.state (Some c.in-Some.k)) c.as_slice-history.ensures.value c.in-Some.ensures.first in
    subst (λ (v : CoreView). IsNotNow v (E.Fail c.args.worker c.args.world.now) (W.Refuted c.in-Some.k)) c.self.view_is
    (open-for x.sys x.order x.limits x.history x.state x.spare x.picks x.variables x.widest c.self.invariant (E.Fail c.args.worker c.args.world.now) c.if-self.false c.if-self-2.false, fail-refuted x.sys x.order x.limits x.history x.state x.spare x.picks x.variables x.widest c.self.invariant c.args.worker c.args.world.now known c.in-Some.k first)

pub returns-clause-when : goal.returns-clause-when
returns-clause-when c =
    let x = c.self.inside in
    let known = subst (λ (v : CoreView). IsKnown v (E.Fail c.args.worker c.args.world.now)) (sym c.self.view_is) c.requires in
    let found = c.fail_refuter-found.ensures.first in
    let none = subst (λ o. IsFirstPushed c.as_slice-history.result.now x.sys.sig c.args.world.now c.args.worker x.state o) (none-left c.fail_refuter-found.result c.in_default.not-Some) found in
    let first = subst (λ es. IsFirstPushed es x.sys.sig c.args.world.now c.args.worker x.state None) c.as_slice-history.ensures.value none in
    subst (λ (v : CoreView). IsNow v (E.Fail c.args.worker c.args.world.now)) c.self.view_is
    (record { open_for = open-for x.sys x.order x.limits x.history x.state x.spare x.picks x.variables x.widest c.self.invariant (E.Fail c.args.worker c.args.world.now) c.if-self.false c.if-self-2.false; in_place = fail-inside x.sys x.order x.limits x.history x.state x.spare x.picks x.variables x.widest c.self.invariant c.args.worker c.args.world.now known first })

pub overflow_cast-result : goal.overflow_cast-result
overflow_cast-result c =
    let x = c.self.inside in
    let small = small-of x.sys x.order x.limits x.history x.state x.spare x.picks x.variables x.widest c.self.invariant in
    let within = c.in-Some.ensures.within in
    let few = small.clauses in
    search rules
