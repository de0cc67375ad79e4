use Rattle.up_gen.specs.Models.{initially_empty}
use Rattle.up_gen.proofs.Joined.{one-more}
use Rattle.up_gen.proofs.models.push_inits.Goals as goal

pub each-preserved : goal.each-preserved
each-preserved c = one-more initially_empty c.each.k _ _ _ c.each.invariant c.in_ok-push_initially_empty.ensures
