use Rattle.std.proofs.Common.{◌++◌, [], ◌∷◌, List, sym, ap, ◌∙◌, arith}
use Rattle.std.proofs.lemmas.List.FromFn.{map-range_with_len_more}
use Rattle.fo_terms.specs.declared.ranking.Entry.{Entry}
use Rattle.fo_terms.specs.Entries.{entry_of}
use Rattle.fo_terms.proofs.ranking.entries.Goals as goal

pub each-preserved : goal.each-preserved
each-preserved c =
    c.in_ok-push.ensures.items
    ∙ ap (λ (xs : List Entry). xs ++ entry_of c.args.numbers.now c.each.sort ∷ []) c.each.invariant
    ∙ sym (map-range_with_len_more (entry_of c.args.numbers.now) 0 c.each.sort c.each.sort (omega arith))
