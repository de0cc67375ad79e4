use Rattle.std.proofs.Common.{◌++◌}
use Rattle.std.specs.Prelude.{codes}
use Rattle.std.specs.List.{flat_map, range_with_len}
use Rattle.up_gen.specs.Models.{declaration, initially_empty}
use Rattle.up_gen.proofs.Joined.{joined}
use Rattle.up_gen.proofs.models.push_states.Goals as goal

pub returns : goal.returns
returns c =
    let first = codes "sort node\nmutable relation server\n" in
    let declarations = flat_map declaration (range_with_len 0 c.args.n) in
    let init = codes "init server\n" in
    let inits = flat_map initially_empty (range_with_len 0 c.args.n) in
    joined _ (first ++ declarations ++ init) inits _ _
    (joined _ (first ++ declarations) init _ _
    (joined _ first declarations _ _ c.in_ok-push_words.ensures c.in_ok-push_declarations.ensures)
    c.in_ok-push_words-2.ensures)
    c.in_ok-push_inits.ensures
