use Rattle.std.proofs.Common.{sym, ap, subst, ◌∙◌, arith}
use Rattle.up_core.specs.Lapsing.{AreLapsable, AreLapsed, IsLapsed}
use Rattle.up_core.specs.Places.{ClausesView, is_live}
use Rattle.up_core.proofs.LiveKept.{gather-live, kept-with}
use Rattle.up_core.proofs.Pairing.{pairs-length}
use Rattle.up_core.proofs.Placed.{places-pairs}
use Rattle.up_core.proofs.clauses.Clauses.lapse.Goals as goal

pub lapse_all-requires-clause-meet : goal.lapse_all-requires-clause-meet
lapse_all-requires-clause-meet c =
    let p = c.args.lapse.now in
    subst (AreLapsable p.history.now p.sig.now p.cube.now p.low p.high) (ap (λ (v : ClausesView). v.items) (sym c.self.view_is) ∙ sym c.as_mut_slice.ensures.value) c.requires.meet

pub gather-requires-clause-live : goal.gather-requires-clause-live
gather-requires-clause-live c =
    let x = c.self.inside in
    let p = c.args.lapse.now in
    let R = IsLapsed p.history.now p.sig.now p.cube.now p.low p.high in
    let lapsed = subst (λ es. AreLapsed p.history.now p.sig.now p.cube.now p.low p.high es c.lapse_all.new.entries) c.as_mut_slice.ensures.value c.lapse_all.ensures.lapsed in
    gather-live x.entries c.lapse_all.new.entries x.live.items c.as_slice-live.result.now c.as_slice-entries.result.now c.as_slice-live.ensures.value c.as_slice-entries.ensures.value
    (sym (pairs-length x.entries.items c.lapse_all.new.entries (λ _ e f. R e f) lapsed))
    (c.self.invariant.live_is ∙ places-pairs is_live 0 x.entries.items c.lapse_all.new.entries (λ _ e f. R e f) (λ k e f r. sym r.live) lapsed)

pub invariant_of-self : goal.invariant_of-self
invariant_of-self c =
    let x = c.self.inside in
    let p = c.args.lapse.now in
    let R = IsLapsed p.history.now p.sig.now p.cube.now p.low p.high in
    let lapsed = subst (λ es. AreLapsed p.history.now p.sig.now p.cube.now p.low p.high es c.lapse_all.new.entries) c.as_mut_slice.ensures.value c.lapse_all.ensures.lapsed in
    let g = c.gather.ensures in
    kept-with x.entries x.live x.due x.levels x.frontier x.room c.self.invariant c.lapse_all.new.entries x.live c.gather.new.due c.gather.new.levels c.as_slice-entries.result.now
    (sym (pairs-length x.entries.items c.lapse_all.new.entries (λ _ e f. R e f) lapsed)) c.as_slice-entries.ensures.value
    (c.self.invariant.live_is ∙ places-pairs is_live 0 x.entries.items c.lapse_all.new.entries (λ _ e f. R e f) (λ k e f r. sym r.live) lapsed)
    c.self.invariant.room_for.of_live (omega arith) g.gathered g.due_room g.levels_room
