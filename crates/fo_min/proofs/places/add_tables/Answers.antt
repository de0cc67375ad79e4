use Rattle.std.proofs.Common.{◌≡◌, true, false, ap, sym, ◌∙◌}
use Rattle.std.specs.Bool.{beq}
use Rattle.fo_core.specs.Tables.{symbol_at, is_like, no_symbol}
use Rattle.fo_core.specs.Cells.{cells_in}
use Rattle.fo_min.proofs.ListLemmas.{table-added, table-left}
use Rattle.fo_min.proofs.places.add_tables.Goals as goal
use Rattle.fo_min.proofs.places.add_tables.Goals.{then-at-mutable+in_ok-add_table, else-at-mutable}

pub each-preserved : goal.each-preserved
each-preserved c =
    let is = ap (is_like c.args.mutable) (sym (c.at.ensures no_symbol)) in
    elim c.if-at-mutable.branch [
      | then-at-mutable+in_ok-add_table w ↦
          let passes : beq c.at.result.now.mutable c.args.mutable ≡ true = w.if-at-mutable.true in
          table-added (cells_in c.args.sig.now c.args.sizes.now c.args.copy) (λ k. is_like c.args.mutable (symbol_at c.args.sig.now k)) c.each.k c.args.cells.now c.each.cells _
          c.each.invariant (is ∙ passes) (w.cells-is ∙ w.in_ok-add_table.ensures)
      | else-at-mutable w ↦
          let fails : beq c.at.result.now.mutable c.args.mutable ≡ false = w.if-at-mutable.false in
          table-left (cells_in c.args.sig.now c.args.sizes.now c.args.copy) (λ k. is_like c.args.mutable (symbol_at c.args.sig.now k)) c.each.k c.args.cells.now c.each.cells _
          c.each.invariant (is ∙ fails) w.cells-is
    ]
