use Rattle.std.proofs.Common.{◌∙◌, ◌++◌, ◌∷◌, [], false, map, sym, ap}
use Rattle.std.specs.Prelude.{slice_index, slice_index_or}
use Rattle.up_diagram.proofs.Places.{skips, map-keeps}
use Rattle.up_diagram.proofs.leaving_out.marked_sorts.Goals as goal
use Rattle.up_diagram.proofs.leaving_out.marked_sorts.Goals.{then-marks-v+in_ok-push, else-marks-v}

pub each-preserved : goal.each-preserved
each-preserved c =
    elim c.if-marks-v.branch [
      | then-marks-v+in_ok-push w ↦
          w.kept-is ∙ w.in_ok-push.ensures.ok
          ∙ ap (λ ss. ss ++ slice_index c.args.sorts.now c.each.v ∷ []) c.each.invariant
          ∙ sym (map-keeps (λ v. slice_index_or c.args.marks.now v false) c.each.v (slice_index c.args.sorts.now) w.if-marks-v.true)
      | else-marks-v w ↦
          w.kept-is ∙ c.each.invariant
          ∙ sym (ap (map (slice_index c.args.sorts.now)) (skips (λ v. slice_index_or c.args.marks.now v false) c.each.v w.if-marks-v.false))
    ]
