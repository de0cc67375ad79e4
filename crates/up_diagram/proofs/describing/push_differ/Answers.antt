use Rattle.up_diagram.specs.Diagrams.{differ_from}
use Rattle.up_diagram.proofs.Described.{flat-step}
use Rattle.up_diagram.proofs.describing.push_differ.Goals as goal

pub each-preserved : goal.each-preserved
each-preserved c = flat-step (differ_from c.args.sorts.now) c.each.i c.args.lits.now c.each.lits _ c.each.invariant c.in_ok-push_differ_from.ensures
