use Rattle.std.proofs.Common.{sym, subst}
use Rattle.up_machine.specs.declared.event.Event.TheVariants as E
use Rattle.up_core.specs.Known.{IsKnown}
use Rattle.up_core.specs.View.{CoreView}
use Rattle.up_core.proofs.EventCores.{return-core, spare-less}
use Rattle.up_core.proofs.kept.Core.give_back.Goals as goal

pub invariant_of-self : goal.invariant_of-self
invariant_of-self c =
    let x = c.self.inside in
    let s = x.state in
    let known = subst (λ (v : CoreView). IsKnown v (E.Return c.args.worker c.args.why)) (sym c.self.view_is) c.requires in
    let push = c.push_reserved.ensures in
    return-core x.sys x.order x.limits x.history s x.spare x.picks x.variables x.widest c.self.invariant c.args.worker c.args.why c.push_reserved.new.self c.give_back.new.self known c.if-self.false
    (record { items = push.items; len = push.len; capacity = push.capacity })
    (λ n h. c.give_back.ensures.room n (spare-less n s h)) c.give_back.ensures.state
