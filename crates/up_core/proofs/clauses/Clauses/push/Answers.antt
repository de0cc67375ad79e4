use Rattle.std.proofs.Common.{◌≡◌, ◌≤◌, ◌+◌, ◌-◌, ◌∷◌, [], ◌++◌, length, sym, ap, subst, ◌∙◌, arith}
use Rattle.up_core.specs.Places.{ClausesView, live_of}
use Rattle.up_core.proofs.LiveKept.{kept-push, live-push}
use Rattle.up_core.proofs.clauses.Clauses.push.Goals as goal

pub gather-requires-clause-live : goal.gather-requires-clause-live
gather-requires-clause-live c =
    let x = c.self.inside in
    let number : c.len.result ≡ length x.entries.items = c.len.ensures ∙ x.entries.ok.0 in
    c.as_slice-live.ensures.value ∙ c.push_reserved.ensures.items ∙ ap (λ ks. ks ++ c.len.result ∷ []) c.self.invariant.live_is ∙ ap (λ n. live_of x.entries.items ++ n ∷ []) number
    ∙ sym (ap live_of (c.as_slice-entries.ensures.value ∙ c.push_reserved-2.ensures.items) ∙ live-push c.args.found c.args.level x.entries.items)

pub invariant_of-self : goal.invariant_of-self
invariant_of-self c =
    let x = c.self.inside in
    let one = subst (λ (v : ClausesView). 1 ≤ v.room) (sym c.self.view_is) c.requires in
    let a = c.push_reserved.ensures in
    let b = c.push_reserved-2.ensures in
    let g = c.gather.ensures in
    let left : x.room - 1 + 1 ≡ x.room = omega (arith, one) in
    let number : c.len.result ≡ length x.entries.items = c.len.ensures ∙ x.entries.ok.0 in
    let live = a.items ∙ ap (λ ks. ks ++ c.len.result ∷ []) c.self.invariant.live_is ∙ ap (λ n. live_of x.entries.items ++ n ∷ []) number
    ∙ sym (ap live_of b.items ∙ live-push c.args.found c.args.level x.entries.items) in
    kept-push x.entries x.live x.due x.levels x.frontier x.room c.self.invariant c.push_reserved-2.new.self c.push_reserved.new.self c.gather.new.due c.gather.new.levels c.as_slice-entries.result.now (x.room - 1)
    left c.as_slice-entries.ensures.value live b.len b.capacity a.len a.capacity g.gathered g.due_room g.levels_room
