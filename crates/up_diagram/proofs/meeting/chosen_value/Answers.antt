use Rattle.std.proofs.Common.{◌∙◌, length, ap, arith}
use Rattle.fo_core.specs.declared.world.Table.{Table}
use Rattle.fo_core.specs.Tables.{no_symbol, symbol_at}
use Rattle.fo_core.proofs.TableLemmas.{table_is, place-lt}
use Rattle.fo_core.proofs.PlaceLemmas.{elements-below}
use Rattle.up_diagram.specs.Cubes.{chosen}
use Rattle.up_diagram.proofs.meeting.chosen_value.Goals as goal

pub chosen_place-at-requires-clause-few : goal.chosen_place-at-requires-clause-few
chosen_place-at-requires-clause-few c =
    let is = table_is c.args.trial.now.sig.now c.args.trial.now.w.now c.args.trial.now.copy c.args.symbol c.requires.meet.fits c.requires.symbol (λ _. c.requires.meet.copy) in
    let total = ap (λ (t : Table). length t.values) c.table-table.ensures ∙ is.total in
    rw (c.as_slice.ensures, c.as_slice-sorts.ensures, c.at.ensures no_symbol) (omega (arith, total, c.len-cells.ensures, c.len-cells.type_inv))

pub at-requires-2 : goal.at-requires-2
at-requires-2 c =
    let is = table_is c.args.trial.now.sig.now c.args.trial.now.w.now c.args.trial.now.copy c.args.symbol c.requires.meet.fits c.requires.symbol (λ _. c.requires.meet.copy) in
    let total = ap (λ (t : Table). length t.values) c.table-table.ensures ∙ is.total in
    let below = place-lt _ _ (elements-below c.args.trial.now.w.now.sizes (chosen c.args.picks.now c.args.variables.now) (symbol_at c.args.trial.now.sig.now c.args.symbol).args c.requires.elements) in
    rw (c.chosen_place-at.ensures, c.as_slice.ensures, c.as_slice-sorts.ensures, c.at.ensures no_symbol) (omega (arith, total, below))
