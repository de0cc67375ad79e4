use Rattle.std.proofs.Common.{◌+◌, sym, subst}
use Rattle.up_core.specs.Telling.{CanGoOn}
use Rattle.up_core.proofs.links.links_of.Goals as goal

pub links_from-requires-clause-more : goal.links_from-requires-clause-more
links_from-requires-clause-more c =
    subst (λ n. CanGoOn c.args.sig.now c.args.history.now c.entries-obligations.result.now (n + 1)) (sym c.frontier-top.ensures)
    (subst (λ es. CanGoOn c.args.sig.now c.args.history.now es (c.args.state.now.clauses.frontier + 1)) (sym c.entries-obligations.ensures) c.requires.more)
