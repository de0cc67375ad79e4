use Rattle.std.proofs.Common.{None, Some, rules, sym, subst}
use Rattle.up_machine.specs.declared.event.Event.TheVariants as E
use Rattle.up_machine.specs.declared.not_now.NotNow.TheVariants as W
use Rattle.up_core.specs.Known.{IsKnown, IsNow, IsNotNow}
use Rattle.up_core.specs.Refuting.{AreTriable, IsFirstMet}
use Rattle.up_core.specs.View.{CoreView}
use Rattle.up_core.proofs.EventCores.{open-for}
use Rattle.up_core.proofs.NextCores.{small-of}
use Rattle.up_core.proofs.Tried.{seed-tries, seed-inside, seed-refuted, none-left}
use Rattle.up_core.proofs.kept.Core.test_seed.Goals as goal

pub seed_refuter-found-requires : goal.seed_refuter-found-requires
seed_refuter-found-requires c =
    let x = c.self.inside in
    let known = subst (λ (v : CoreView). IsKnown v (E.Seed c.args.worker c.args.world.now)) (sym c.self.view_is) c.requires in
    subst (λ es. AreTriable es x.sys.sig c.args.world.now x.picks x.state.clauses.items) (sym c.as_slice-history.ensures.value)
    (seed-tries x.sys x.order x.limits x.history x.state x.spare x.picks x.variables x.widest c.self.invariant c.args.worker c.args.world.now known)

pub returns-in-Some-clause-when : goal.returns-in-Some-clause-when
returns-in-Some-clause-when c =
    let x = c.self.inside in
    let known = subst (λ (v : CoreView). IsKnown v (E.Seed c.args.worker c.args.world.now)) (sym c.self.view_is) c.requires in
    let first = subst (λ es. IsFirstMet es x.sys.sig c.args.world.now x.state.clauses.frontier x.state.clauses.items (Some c.in-Some.k)) c.as_slice-history.ensures.value c.in-Some.ensures.first in
    subst (λ (v : CoreView). IsNotNow v (E.Seed c.args.worker c.args.world.now) (W.Refuted c.in-Some.k)) c.self.view_is
    (open-for x.sys x.order x.limits x.history x.state x.spare x.picks x.variables x.widest c.self.invariant (E.Seed c.args.worker c.args.world.now) c.if-self.false c.if-self-2.false, seed-refuted x.sys x.order x.limits x.history x.state x.spare x.picks x.variables x.widest c.self.invariant c.args.worker c.args.world.now known c.in-Some.k first)

pub returns-clause-when : goal.returns-clause-when
returns-clause-when c =
    let x = c.self.inside in
    let known = subst (λ (v : CoreView). IsKnown v (E.Seed c.args.worker c.args.world.now)) (sym c.self.view_is) c.requires in
    let found = c.seed_refuter-found.ensures.first in
    let none = subst (λ o. IsFirstMet c.as_slice-history.result.now x.sys.sig c.args.world.now x.state.clauses.frontier x.state.clauses.items o) (none-left c.seed_refuter-found.result c.in_default.not-Some) found in
    let first = subst (λ es. IsFirstMet es x.sys.sig c.args.world.now x.state.clauses.frontier x.state.clauses.items None) c.as_slice-history.ensures.value none in
    subst (λ (v : CoreView). IsNow v (E.Seed c.args.worker c.args.world.now)) c.self.view_is
    (record { open_for = open-for x.sys x.order x.limits x.history x.state x.spare x.picks x.variables x.widest c.self.invariant (E.Seed c.args.worker c.args.world.now) c.if-self.false c.if-self-2.false; in_place = seed-inside x.sys x.order x.limits x.history x.state x.spare x.picks x.variables x.widest c.self.invariant c.args.worker c.args.world.now known first })

pub overflow_cast-result : goal.overflow_cast-result
overflow_cast-result c =
    let x = c.self.inside in
    let small = small-of x.sys x.order x.limits x.history x.state x.spare x.picks x.variables x.widest c.self.invariant in
    let within = c.in-Some.ensures.within in
    let few = small.clauses in
    search rules
