use Rattle.std.proofs.Common.{◌≤◌, ◌+◌, length, sym, subst}
use Rattle.up_machine.specs.declared.event.Event.TheVariants as E
use Rattle.up_machine.specs.Legal.{IsLegal}
use Rattle.up_core.specs.View.{CoreView, now}
use Rattle.up_core.proofs.EventCores.{spare-less}
use Rattle.up_core.proofs.WorldCores.{retire-core}
use Rattle.up_core.proofs.kept.Core.retire.Goals as goal

pub invariant_of-self : goal.invariant_of-self
invariant_of-self c =
    let x = c.self.inside in
    let s = x.state in
    let gone = c.args.cover.gone in
    let by = c.args.cover.by in
    let legal = subst (λ (v : CoreView). IsLegal v.sys v.limits (now v) (E.Retire c.args.worker gone by)) (sym c.self.view_is) c.requires.legal in
    let some = subst (λ (v : CoreView). length (now v).jobs + 1 ≤ v.spare) (sym c.self.view_is) c.requires.room in
    let push = c.push_reserved.ensures in
    retire-core x.sys x.order x.limits x.history x.state x.spare x.picks x.variables x.widest c.self.invariant c.args.worker gone by c.push_reserved.new.self c.retire.new.self some legal
    (record { items = push.items; len = push.len; capacity = push.capacity })
    (λ n h. c.retire.ensures.room n (spare-less n s h)) c.retire.ensures.state
