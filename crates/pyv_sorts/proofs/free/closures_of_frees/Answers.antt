use Rattle.std.proofs.Common.{◌≡◌, ◌∙◌, ap, sym}
use Rattle.pyv_meaning.specs.Closing.{firsts}
use Rattle.pyv_sorts.specs.Closures.{joined, part_names}
use Rattle.pyv_sorts.specs.Placing.{names_in}
use Rattle.pyv_sorts.proofs.Numbering.{firsts_numbered}
use Rattle.pyv_sorts.proofs.free.closures_of_frees.Goals as goal

pub closures_over-requires-clause-distinct : goal.closures_over-requires-clause-distinct
closures_over-requires-clause-distinct c =
    let nss = part_names c.args.parts.now in
    firsts_numbered (names_in c.note_parts.new.firsts.items) (joined nss) c.note_parts.new.words
    (c.in_ok-note_parts.ensures.firsts ∙ ap (λ ps. firsts (names_in ps) (joined nss)) c.new-firsts.ensures.items) c.in_ok-note_parts.ensures.words
