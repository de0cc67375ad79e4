use Rattle.up_gen.specs.Models.{move_text}
use Rattle.up_gen.proofs.Joined.{one-more}
use Rattle.up_gen.proofs.models.push_moves.Goals as goal

pub each-preserved : goal.each-preserved
each-preserved c = one-more move_text c.each.k _ _ _ c.each.invariant c.in_ok-push_move.ensures
