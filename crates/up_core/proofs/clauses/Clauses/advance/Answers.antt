use Rattle.std.proofs.Common.{◌≡◌, ◌≤◌, ◌+◌, ◌-◌, sym, subst, arith}
use Rattle.up_core.specs.Places.{ClausesView}
use Rattle.up_core.proofs.LiveKept.{kept-advance}
use Rattle.up_core.proofs.clauses.Clauses.advance.Goals as goal

pub invariant_of-self : goal.invariant_of-self
invariant_of-self c =
    let x = c.self.inside in
    let one = subst (λ (v : ClausesView). 1 ≤ v.room) (sym c.self.view_is) c.requires.room in
    let left : x.room - 1 + 1 ≡ x.room = omega (arith, one) in
    let a = c.push_reserved.ensures in
    let g = c.gather.ensures in
    kept-advance x.entries x.live x.due x.levels x.frontier x.room c.self.invariant c.gather.new.due c.push_reserved.new.self c.gather.new.levels c.as_slice-entries.result.now (x.room - 1)
    left c.as_slice-entries.ensures.value a.len a.capacity g.gathered g.due_room g.levels_room
