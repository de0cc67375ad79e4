use Rattle.std.proofs.Common.{◌≡◌, ap, ◌∙◌}
use Rattle.indexmap.specs.IndexSet.{IndexSet}
use Rattle.pyv_sorts.proofs.Naming.{named_end, one_named, two_named}
use Rattle.pyv_sorts.proofs.infer.add_variables.Goals as goal
use Rattle.pyv_sorts.proofs.infer.add_variables.Goals.{in-Alike+in_ok-insert-in-Alike+in_ok-insert-in-Alike-2, in-Binder+in_ok-insert-in-Binder}

pub each-preserved : goal.each-preserved
each-preserved c = elim c.match-told.branch [
  | in-Alike+in_ok-insert-in-Alike+in_ok-insert-in-Alike-2 w ↦
      two_named c.args.uses.now c.each.told-index _ c.each.found.keys c.each-test.true c.each.invariant w.in-Alike.v w.in-Alike.w c.match-told.found.keys w.insert.new.self.keys w.in_ok-insert-in-Alike.ensures.keys (ap (λ s. s.keys) w.found-is ∙ w.in_ok-insert-in-Alike-2.ensures.keys) w.in-Alike.is
  | in-Binder+in_ok-insert-in-Binder w ↦
      one_named c.args.uses.now c.each.told-index _ c.each.found.keys c.each-test.true c.each.invariant w.in-Binder.v c.match-told.found.keys (ap (λ s. s.keys) w.found-is ∙ w.in_ok-insert-in-Binder.ensures.keys) w.in-Binder.is
]

pub returns : goal.returns
returns c = named_end c.args.uses.now c.each.told-index c.each.found.keys c.each-test.false c.each.invariant
