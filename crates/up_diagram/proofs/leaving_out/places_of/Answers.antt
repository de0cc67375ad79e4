use Rattle.std.proofs.Common.{◌∙◌, ◌+◌, ◌++◌, ◌∷◌, [], ℕ, false, sym, ap, ap₂, arith}
use Rattle.std.specs.Prelude.{slice_index_or}
use Rattle.fo_core.proofs.Pieces.{map_more}
use Rattle.up_diagram.specs.Marks.{rank_among}
use Rattle.up_diagram.proofs.Places.{counts, same-count, few-pass}
use Rattle.up_diagram.proofs.leaving_out.places_of.Goals as goal
use Rattle.up_diagram.proofs.leaving_out.places_of.Goals.{then-marked, else-marked}

pub overflow_add-next : goal.overflow_add-next
overflow_add-next c =
    let few = few-pass (λ v. slice_index_or c.args.marks.now v false) c.each.marked-index in
    omega (arith, few, c.each.invariant.next, c.each-test.true)

pub each-preserved : goal.each-preserved
each-preserved c = record {
  places =
      c.in_ok-push.ensures.items
      ∙ ap₂ (λ ps p. ps ++ p ∷ []) c.each.invariant.places c.each.invariant.next
      ∙ sym (map_more (rank_among c.args.marks.now) c.each.marked-index);
  next =
      elim c.if-marked.branch [
        | then-marked w ↦ w.next-is ∙ ap (λ (n : ℕ). n + 1) c.each.invariant.next ∙ sym (counts (λ v. slice_index_or c.args.marks.now v false) c.each.marked-index w.if-marked.true)
        | else-marked w ↦ w.next-is ∙ c.each.invariant.next ∙ sym (same-count (λ v. slice_index_or c.args.marks.now v false) c.each.marked-index w.if-marked.false)
      ];
}
