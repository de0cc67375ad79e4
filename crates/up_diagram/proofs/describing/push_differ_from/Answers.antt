use Rattle.up_diagram.specs.Diagrams.{pair_at}
use Rattle.up_diagram.proofs.Described.{flat-step}
use Rattle.up_diagram.proofs.describing.push_differ_from.Goals as goal

pub each-preserved : goal.each-preserved
each-preserved c = flat-step (pair_at c.args.sorts.now c.args.i) c.each.j c.args.lits.now c.each.lits _ c.each.invariant c.in_ok-push_pair.ensures
