use Rattle.std.proofs.Common.{◌++◌}
use Rattle.std.specs.Prelude.{codes, decimal}
use Rattle.up_gen.proofs.Joined.{joined}
use Rattle.up_gen.proofs.parts.push_move_name.Goals as goal

pub returns : goal.returns
returns c =
    let word = codes "transition move" in
    joined _ (word ++ decimal c.args.k) (codes "(n: node)\n") _ _
    (joined _ word (decimal c.args.k) _ _ c.in_ok-push_words.ensures c.in_ok-push_number.ensures)
    c.in_ok-push_words-2.ensures
