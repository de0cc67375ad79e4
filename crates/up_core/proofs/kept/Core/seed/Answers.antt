use Rattle.std.proofs.Common.{length, sym, subst, ap, ◌∙◌, arith}
use Rattle.up_machine.specs.declared.event.Event.TheVariants as E
use Rattle.up_core.specs.Known.{IsKnown, IsNow}
use Rattle.up_core.specs.View.{CoreView}
use Rattle.up_core.proofs.WorldCores.{ok-of, seed-core-at}
use Rattle.up_core.proofs.kept.Core.seed.Goals as goal

pub invariant_of-self : goal.invariant_of-self
invariant_of-self c =
    let x = c.self.inside in
    let s = x.state in
    let e = E.Seed c.args.worker c.args.world in
    let is = c.self.view_is ∙ c.test_seed.ensures.same in
    let known = subst (λ (v : CoreView). IsKnown v e) (sym is) c.requires.known in
    let now_is = subst (λ (v : CoreView). IsNow v e) (sym is) (ok-of _ c.test_seed.result c.test_seed.ensures.when c.in_default.not-Err) in
    let push = c.push_reserved.ensures in
    let b = c.max-self-inside.ensures in
    seed-core-at x.sys x.order x.limits x.history x.state x.spare x.picks x.variables x.widest c.self.invariant (length c.as_slice-found.result.now) (ap length c.as_slice-found.ensures.value) c.args.worker c.args.world c.push_reserved.new.self c.seed.new.self c.max-self-inside.result
    (omega (arith, b)) (omega (arith, b, c.elements_of.ensures)) known now_is
    (record { items = push.items; len = push.len; capacity = push.capacity })
    c.seed.ensures.room c.seed.ensures.state
