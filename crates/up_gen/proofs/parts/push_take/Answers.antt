use Rattle.std.proofs.Common.{◌++◌}
use Rattle.std.specs.Prelude.{codes}
use Rattle.up_gen.specs.Models.{joins}
use Rattle.up_gen.proofs.Joined.{joined}
use Rattle.up_gen.proofs.parts.push_take.Goals as goal

pub returns : goal.returns
returns c =
    let name = codes "transition take(n: node)\n  modifies server, r0\n" in
    let gives = codes "  & server\n  & !new(server)\n" in
    joined _ (name ++ gives) (joins 0) _ _
    (joined _ name gives _ _ c.in_ok-push_words.ensures c.in_ok-push_words-2.ensures)
    c.in_ok-push_joins.ensures
