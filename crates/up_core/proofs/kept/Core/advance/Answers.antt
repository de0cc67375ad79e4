use Rattle.std.proofs.Common.{◌≤◌, sym, subst}
use Rattle.up_machine.specs.declared.event.Event.TheVariants as E
use Rattle.up_core.specs.Known.{IsKnown}
use Rattle.up_core.specs.View.{CoreView}
use Rattle.up_core.proofs.EventCores.{advance-core, advance-paid, spare-down}
use Rattle.up_core.proofs.kept.Core.advance.Goals as goal

pub invariant_of-self : goal.invariant_of-self
invariant_of-self c =
    let x = c.self.inside in
    let s = x.state in
    let known = subst (λ (v : CoreView). IsKnown v (E.Advance c.args.worker)) (sym c.self.view_is) c.requires.known in
    let some = subst (λ (v : CoreView). 1 ≤ v.spare) (sym c.self.view_is) c.requires.room in
    let push = c.push_reserved.ensures in
    advance-core x.sys x.order x.limits x.history s x.spare x.picks x.variables x.widest c.self.invariant c.args.worker c.push_reserved.new.self c.advance.new.self some known
    (record { items = push.items; len = push.len; capacity = push.capacity })
    c.advance.ensures.room c.advance.ensures.state

pub advance-requires-clause-productive : goal.advance-requires-clause-productive
advance-requires-clause-productive c =
    let x = c.self.inside in
    let known = subst (λ (v : CoreView). IsKnown v (E.Advance c.args.worker)) (sym c.self.view_is) c.requires.known in
    advance-paid x.sys x.order x.limits x.history x.state x.spare x.picks x.variables x.widest c.self.invariant c.args.worker known

pub advance-requires-clause-room : goal.advance-requires-clause-room
advance-requires-clause-room c =
    let x = c.self.inside in
    let some = subst (λ (v : CoreView). 1 ≤ v.spare) (sym c.self.view_is) c.requires.room in
    spare-down x.spare 1 x.state some c.self.invariant.room.entries
