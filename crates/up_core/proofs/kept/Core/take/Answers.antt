use Rattle.std.proofs.Common.{◌≤◌, ◌+◌, length, sym, subst}
use Rattle.up_machine.specs.declared.event.Event.TheVariants as E
use Rattle.up_core.specs.Known.{IsKnown}
use Rattle.up_core.specs.View.{CoreView, HasVariablesForJob, now}
use Rattle.up_core.proofs.EventCores.{take-core}
use Rattle.up_core.proofs.NextCores.{small-of}
use Rattle.up_core.proofs.kept.Core.take.Goals as goal

pub invariant_of-self : goal.invariant_of-self
invariant_of-self c =
    let x = c.self.inside in
    let s = x.state in
    let known = subst (λ (v : CoreView). IsKnown v (E.Take c.args.worker c.args.job)) (sym c.self.view_is) c.requires.known in
    let some = subst (λ (v : CoreView). length (now v).jobs + 2 ≤ v.spare) (sym c.self.view_is) c.requires.room in
    let wide = subst (λ (v : CoreView). HasVariablesForJob v c.args.job) (sym c.self.view_is) c.requires.variables in
    let push = c.push_reserved.ensures in
    take-core x.sys x.order x.limits x.history s x.spare x.picks x.variables x.widest c.self.invariant c.args.worker c.args.job c.push_reserved.new.self c.take.new.self some wide known
    (record { items = push.items; len = push.len; capacity = push.capacity })
    (λ n h. c.take.ensures.room n h) c.take.ensures.state

pub take-requires-clause-small : goal.take-requires-clause-small
take-requires-clause-small c =
    let x = c.self.inside in
    small-of x.sys x.order x.limits x.history x.state x.spare x.picks x.variables x.widest c.self.invariant
