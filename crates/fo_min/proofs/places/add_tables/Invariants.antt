use Rattle.std.proofs.Common.{◌≡◌, ◌++◌}
use Rattle.std.specs.List.{flat_map, filter, range_with_len}
use Rattle.fo_core.specs.Tables.{symbol_at, is_like}
use Rattle.fo_core.specs.Cells.{cells_in}
use Rattle.fo_min.proofs.places.add_tables.Given as goal

-- the symbols before this one are done
abbrev pub invariant-each : goal.invariant-each
invariant-each l = l.cells ≡ l.fn.cells ++ flat_map (cells_in l.sig l.sizes l.copy) (filter (λ k. is_like l.mutable (symbol_at l.sig k)) (range_with_len 0 l.k))
