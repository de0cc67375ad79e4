use Rattle.up_gen.specs.Models.{declaration}
use Rattle.up_gen.proofs.Joined.{one-more}
use Rattle.up_gen.proofs.models.push_declarations.Goals as goal

pub each-preserved : goal.each-preserved
each-preserved c = one-more declaration c.each.k _ _ _ c.each.invariant c.in_ok-push_declaration.ensures
