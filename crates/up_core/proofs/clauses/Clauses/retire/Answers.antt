use Rattle.std.proofs.Common.{length, sym, ap, ◌∙◌}
use Rattle.up_machine.specs.Replay.{change_at}
use Rattle.up_core.specs.Places.{is_live, live_of}
use Rattle.up_core.specs.Steps.{gone_entry}
use Rattle.up_core.proofs.Counts.{length-change}
use Rattle.up_core.proofs.LiveKept.{gather-live, kept-with, live-gone}
use Rattle.up_core.proofs.Placed.{others}
use Rattle.up_core.proofs.clauses.Clauses.retire.Goals as goal

pub gather-requires-clause-live : goal.gather-requires-clause-live
gather-requires-clause-live c =
    let x = c.self.inside in
    let k = c.args.place in
    let is = c.set_gone.ensures ∙ ap (change_at k gone_entry) c.as_mut_slice.ensures.value in
    gather-live x.entries c.set_gone.new.entries c.strike.new.numbers.items c.as_slice-live.result.now c.as_slice-entries.result.now c.as_slice-live.ensures.value c.as_slice-entries.ensures.value
    (ap length is ∙ length-change k gone_entry x.entries.items)
    (c.strike.ensures.items ∙ ap (others is_live k) c.self.invariant.live_is ∙ sym (ap live_of is ∙ live-gone k x.entries.items))

pub invariant_of-self : goal.invariant_of-self
invariant_of-self c =
    let x = c.self.inside in
    let k = c.args.place in
    let is = c.set_gone.ensures ∙ ap (change_at k gone_entry) c.as_mut_slice.ensures.value in
    let g = c.gather.ensures in
    kept-with x.entries x.live x.due x.levels x.frontier x.room c.self.invariant c.set_gone.new.entries c.strike.new.numbers c.gather.new.due c.gather.new.levels c.as_slice-entries.result.now
    (ap length is ∙ length-change k gone_entry x.entries.items) c.as_slice-entries.ensures.value
    (c.strike.ensures.items ∙ ap (others is_live k) c.self.invariant.live_is ∙ sym (ap live_of is ∙ live-gone k x.entries.items))
    (c.strike.ensures.room x.room c.self.invariant.room_for.of_live) c.strike.ensures.fewer g.gathered g.due_room g.levels_room
