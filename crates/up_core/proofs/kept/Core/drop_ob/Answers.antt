use Rattle.std.proofs.Common.{sym, subst}
use Rattle.up_machine.specs.declared.event.Event.TheVariants as E
use Rattle.up_core.specs.Known.{IsKnown}
use Rattle.up_core.specs.View.{CoreView}
use Rattle.up_core.proofs.EventCores.{drop-core, spare-less}
use Rattle.up_core.proofs.kept.Core.drop_ob.Goals as goal

pub invariant_of-self : goal.invariant_of-self
invariant_of-self c =
    let x = c.self.inside in
    let s = x.state in
    let known = subst (λ (v : CoreView). IsKnown v (E.Drop c.args.worker c.args.clause)) (sym c.self.view_is) c.requires in
    let push = c.push_reserved.ensures in
    drop-core x.sys x.order x.limits x.history s x.spare x.picks x.variables x.widest c.self.invariant c.args.worker c.args.clause c.push_reserved.new.self c.drop_work.new.self known c.if-self.false c.if-self-2.false
    (record { items = push.items; len = push.len; capacity = push.capacity })
    (λ n h. c.drop_work.ensures.room n (spare-less n s h)) c.drop_work.ensures.state
