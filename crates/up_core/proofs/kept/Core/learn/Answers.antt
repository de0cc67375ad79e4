use Rattle.std.proofs.Common.{◌-◌, length, refl, sym, subst, ap, ◌∙◌}
use Rattle.up_machine.specs.declared.event.Event.TheVariants as E
use Rattle.up_core.specs.Holding.{IsCore}
use Rattle.up_core.specs.Known.{IsKnown, IsNow}
use Rattle.up_core.specs.Lapsing.{AreLapsable, IsLearnt}
use Rattle.up_core.specs.View.{CoreView}
use Rattle.up_core.proofs.Tried.{has-own}
use Rattle.up_core.proofs.TaughtCores.{learnt-picks, learn-lapsable, learn-core}
use Rattle.up_core.proofs.WorldCores.{ok-of, now-paid, now-spare, now-some, now-push}
use Rattle.up_core.proofs.kept.Core.learn.Goals as goal

pub learn-requires-clause-productive : goal.learn-requires-clause-productive
learn-requires-clause-productive c =
    let x = c.self.inside in
    let w = c.args.worker in
    let e = E.Learn w c.args.cube in
    let is = c.self.view_is ∙ c.test_learn.ensures.same in
    let known = subst (λ (v : CoreView). IsKnown v e) (sym is) c.requires in
    let now_is = subst (λ (v : CoreView). IsNow v e) (sym is) (ok-of _ c.test_learn.result (c.test_learn.ensures.when c.args.cube) c.in_default.not-Err) in
    now-paid x.sys x.order x.limits x.history x.state x.spare x.picks x.variables x.widest c.self.invariant e refl now_is

pub learn-requires-clause-room : goal.learn-requires-clause-room
learn-requires-clause-room c =
    let x = c.self.inside in
    let w = c.args.worker in
    let e = E.Learn w c.args.cube in
    let is = c.self.view_is ∙ c.test_learn.ensures.same in
    let known = subst (λ (v : CoreView). IsKnown v e) (sym is) c.requires in
    let now_is = subst (λ (v : CoreView). IsNow v e) (sym is) (ok-of _ c.test_learn.result (c.test_learn.ensures.when c.args.cube) c.in_default.not-Err) in
    now-spare x.sys x.order x.limits x.history x.state x.spare x.picks x.variables x.widest c.self.invariant e w _ known.work.held now_is

pub learn-requires-clause-meet : goal.learn-requires-clause-meet
learn-requires-clause-meet c =
    let x = c.self.inside in
    let w = c.args.worker in
    let e = E.Learn w c.args.cube in
    let is = c.self.view_is ∙ c.test_learn.ensures.same in
    let known = subst (λ (v : CoreView). IsKnown v e) (sym is) c.requires in
    let now_is = subst (λ (v : CoreView). IsNow v e) (sym is) (ok-of _ c.test_learn.result (c.test_learn.ensures.when c.args.cube) c.in_default.not-Err) in
    subst (λ es. AreLapsable es x.sys.sig c.args.cube 0 c.own_level.result x.state.clauses.items) (sym c.as_slice-history.ensures.value) (learn-lapsable x.sys x.order x.limits x.history x.state x.spare x.picks x.variables x.widest c.self.invariant w c.args.cube known now_is c.own_level.result)

pub learn-requires-clause-fits : goal.learn-requires-clause-fits
learn-requires-clause-fits c =
    let x = c.self.inside in
    let w = c.args.worker in
    let e = E.Learn w c.args.cube in
    let is = c.self.view_is ∙ c.test_learn.ensures.same in
    let known = subst (λ (v : CoreView). IsKnown v e) (sym is) c.requires in
    let now_is = subst (λ (v : CoreView). IsNow v e) (sym is) (ok-of _ c.test_learn.result (c.test_learn.ensures.when c.args.cube) c.in_default.not-Err) in
    learnt-picks x.sys x.order x.limits x.history x.state x.spare x.picks x.variables x.widest c.self.invariant w c.args.cube known now_is

pub push_reserved-requires : goal.push_reserved-requires
push_reserved-requires c =
    let x = c.self.inside in
    let w = c.args.worker in
    let e = E.Learn w c.args.cube in
    let is = c.self.view_is ∙ c.test_learn.ensures.same in
    let known = subst (λ (v : CoreView). IsKnown v e) (sym is) c.requires in
    let now_is = subst (λ (v : CoreView). IsNow v e) (sym is) (ok-of _ c.test_learn.result (c.test_learn.ensures.when c.args.cube) c.in_default.not-Err) in
    now-push x.sys x.order x.limits x.history x.state x.spare x.picks x.variables x.widest c.self.invariant e w _ known.work.held now_is

pub overflow_sub-self : goal.overflow_sub-self
overflow_sub-self c =
    let x = c.self.inside in
    let w = c.args.worker in
    let e = E.Learn w c.args.cube in
    let is = c.self.view_is ∙ c.test_learn.ensures.same in
    let known = subst (λ (v : CoreView). IsKnown v e) (sym is) c.requires in
    let now_is = subst (λ (v : CoreView). IsNow v e) (sym is) (ok-of _ c.test_learn.result (c.test_learn.ensures.when c.args.cube) c.in_default.not-Err) in
    now-some x.sys x.order x.limits x.history x.state x.spare x.picks x.variables x.widest c.self.invariant e w _ known.work.held now_is

pub invariant_of-self : goal.invariant_of-self
invariant_of-self c =
    let x = c.self.inside in
    let w = c.args.worker in
    let e = E.Learn w c.args.cube in
    let is = c.self.view_is ∙ c.test_learn.ensures.same in
    let known = subst (λ (v : CoreView). IsKnown v e) (sym is) c.requires in
    let now_is = subst (λ (v : CoreView). IsNow v e) (sym is) (ok-of _ c.test_learn.result (c.test_learn.ensures.when c.args.cube) c.in_default.not-Err) in
    let push = c.push_reserved.ensures in
    let own = has-own x.sys x.order x.limits x.history x.state x.spare x.picks x.variables x.widest c.self.invariant w known.work in
    let level = sym own.level_is ∙ sym (c.own_level.ensures own.entry own.own) in
    let learnt = subst (λ es. IsLearnt es x.sys.sig c.args.cube c.own_level.result (length c.as_slice-history.result.now) x.state.clauses.items c.learn.new.self.clauses.items) c.as_slice-history.ensures.value c.learn.ensures.learnt in
    subst (λ p. IsCore x.sys x.order x.limits c.push_reserved.new.self c.learn.new.self (x.spare - 1) p x.variables x.widest) (sym c.learn.ensures.picks)
    (learn-core x.sys x.order x.limits x.history x.state x.spare x.picks x.variables x.widest c.self.invariant w c.args.cube known now_is c.push_reserved.new.self c.learn.new.self c.own_level.result (length c.as_slice-history.result.now) level (ap length c.as_slice-history.ensures.value)
    (record { items = push.items; len = push.len; capacity = push.capacity })
    c.learn.ensures.room learnt c.learn.ensures.state)

pub returns-clause-when : goal.returns-clause-when
returns-clause-when c = ok-of _ c.test_learn.result (c.test_learn.ensures.when c.args.cube) c.in_default.not-Err
