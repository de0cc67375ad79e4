use Rattle.std.proofs.Common.{length}
use Rattle.fo_core.specs.Tables.{no_symbol}
use Rattle.fo_min.specs.Search.{sig_of, query_of}
use Rattle.fo_min.proofs.BuildingLemmas.{cells-symbols}
use Rattle.fo_min.proofs.SearchLemmas.{result-sort}
use Rattle.fo_min.proofs.search.Entries.range.Goals as goal

pub at-symbol-requires : goal.at-symbol-requires
at-symbol-requires c =
    let e = c.args.self.now in
    cells-symbols (sig_of e.search) e.sizes.now (query_of e.search).copies e.cells.now c.requires.entries.all (length c.args.values.now) c.index-self-values.result c.requires.more

pub bounds-self-symbol : goal.bounds-self-symbol
bounds-self-symbol c =
    let e = c.args.self.now in
    let symbols = cells-symbols (sig_of e.search) e.sizes.now (query_of e.search).copies e.cells.now c.requires.entries.all in
    result-sort (sig_of e.search) (length e.sizes.now) _ c.at-symbol.result.now c.requires.entries.can.sig
    (symbols (length c.args.values.now) c.index-self-values.result c.requires.more)
    c.requires.entries.sorts (c.at-symbol.ensures no_symbol) c.if-symbol.false
