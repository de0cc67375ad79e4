use Rattle.std.proofs.Common.{◌≤◌, [], ◌∷◌, ◌++◌, sym, subst, ap, ◌∙◌}
use Rattle.up_machine.specs.declared.end.End.{End}
use Rattle.up_machine.specs.declared.event.Event.TheVariants as E
use Rattle.up_machine.specs.Rounds.{end_of}
use Rattle.up_core.specs.Known.{IsKnown}
use Rattle.up_core.specs.View.{CoreView}
use Rattle.up_core.proofs.EventCores.{finish-core, spare-less}
use Rattle.up_core.proofs.kept.Core.finish.Goals as goal

pub invariant_of-self : goal.invariant_of-self
invariant_of-self c =
    let x = c.self.inside in
    let s = x.state in
    let known = subst (λ (v : CoreView). IsKnown v (E.Close c.args.worker (end_of c.args.end))) (sym c.self.view_is) c.requires.known in
    let some = subst (λ (v : CoreView). 1 ≤ v.spare) (sym c.self.view_is) c.requires.room in
    let push = c.push_reserved.ensures in
    finish-core x.sys x.order x.limits x.history s x.spare x.picks x.variables x.widest c.self.invariant c.args.worker c.args.end c.push_reserved.new.self c.finish.new.self some known
    (record { items = push.items ∙ ap (λ (e : End). x.history.items ++ E.Close c.args.worker e ∷ []) c.short_end.ensures; len = push.len; capacity = push.capacity })
    (λ n h. c.finish.ensures.room n (spare-less n s h)) c.finish.ensures.state
