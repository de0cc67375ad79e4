use Rattle.std.proofs.Common.{◌++◌}
use Rattle.std.specs.Prelude.{codes}
use Rattle.up_gen.specs.Models.{name_of}
use Rattle.up_gen.proofs.Joined.{joined}
use Rattle.up_gen.proofs.parts.push_back_head.Goals as goal

pub returns : goal.returns
returns c =
    let words = codes "transition back(n: node)\n  modifies server, " in
    joined _ (words ++ name_of c.args.k) (codes "\n") _ _
    (joined _ words (name_of c.args.k) _ _ c.in_ok-push_words.ensures c.in_ok-push_name.ensures)
    c.in_ok-push_words-2.ensures
