use Rattle.std.proofs.Common.{◌∙◌, length, ap, arith}
use Rattle.fo_core.specs.declared.world.Table.{Table}
use Rattle.fo_core.specs.Tables.{no_symbol, symbol_at}
use Rattle.fo_core.proofs.TableLemmas.{table_is, place-lt}
use Rattle.fo_core.proofs.PlaceLemmas.{elements-below}
use Rattle.fo_core.proofs.world.World.value.Goals as goal

pub tuple_place-at-requires-clause-few : goal.tuple_place-at-requires-clause-few
tuple_place-at-requires-clause-few c =
    let is = table_is c.args.sig.now c.args.self.now c.args.copy c.args.symbol c.requires.fits c.requires.within c.requires.copied in
    let total = ap (λ (t : Table). length t.values) c.table-table.ensures ∙ is.total in
    rw (c.as_slice.ensures, c.as_slice-sorts.ensures, c.at.ensures no_symbol) (omega (arith, total, c.len-cells.ensures, c.len-cells.type_inv))

pub at-requires-2 : goal.at-requires-2
at-requires-2 c =
    let is = table_is c.args.sig.now c.args.self.now c.args.copy c.args.symbol c.requires.fits c.requires.within c.requires.copied in
    let total = ap (λ (t : Table). length t.values) c.table-table.ensures ∙ is.total in
    let below = place-lt _ _ (elements-below c.args.self.now.sizes c.args.args.now (symbol_at c.args.sig.now c.args.symbol).args c.requires.elements) in
    rw (c.tuple_place-at.ensures, c.as_slice.ensures, c.as_slice-sorts.ensures, c.at.ensures no_symbol) (omega (arith, total, below))
