use Rattle.std.proofs.Common.{length, refl, sym, ap, ◌∙◌, arith}
use Rattle.up_core.specs.Places.{live_of}
use Rattle.up_core.specs.Steps.{change_where, raised_entry}
use Rattle.up_core.proofs.LiveKept.{gather-live, kept-with, length-where, live-where}
use Rattle.up_core.proofs.clauses.Clauses.raise.Goals as goal

pub gather-requires-clause-live : goal.gather-requires-clause-live
gather-requires-clause-live c =
    let x = c.self.inside in
    let f = raised_entry c.args.level in
    let is = c.set_level.ensures ∙ ap (change_where c.args.place f) c.as_mut_slice.ensures.value in
    gather-live x.entries c.set_level.new.entries x.live.items c.as_slice-live.result.now c.as_slice-entries.result.now c.as_slice-live.ensures.value c.as_slice-entries.ensures.value
    (ap length is ∙ length-where c.args.place f x.entries.items)
    (c.self.invariant.live_is ∙ sym (ap live_of is ∙ live-where c.args.place f x.entries.items (λ e. refl)))

pub invariant_of-self : goal.invariant_of-self
invariant_of-self c =
    let x = c.self.inside in
    let f = raised_entry c.args.level in
    let is = c.set_level.ensures ∙ ap (change_where c.args.place f) c.as_mut_slice.ensures.value in
    let g = c.gather.ensures in
    kept-with x.entries x.live x.due x.levels x.frontier x.room c.self.invariant c.set_level.new.entries x.live c.gather.new.due c.gather.new.levels c.as_slice-entries.result.now
    (ap length is ∙ length-where c.args.place f x.entries.items) c.as_slice-entries.ensures.value
    (c.self.invariant.live_is ∙ sym (ap live_of is ∙ live-where c.args.place f x.entries.items (λ e. refl)))
    c.self.invariant.room_for.of_live (omega arith) g.gathered g.due_room g.levels_room
