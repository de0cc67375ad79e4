-- The places in the tables of a world, in their order.
use Rattle.std.specs.Prelude.{ℕ, Bool, true, false, List, ◌++◌, length, map}
use Rattle.std.specs.List.{filter, flat_map, range_with_len}
use Rattle.fo_core.specs.declared.signature.Sig.{Sig}
use Rattle.fo_core.specs.Tables.{symbol_at, arg_sizes, is_like}
use Rattle.fo_core.specs.Tuples.{all_tuples}
use Rattle.fo_core.specs.declared.cell.Cell.{Cell}

-- over worlds of this signature in which the sorts have these sizes
module _ (sig : Sig) (sizes : List ℕ) where
  -- the table of symbol k in copy d
  abbrev pub cells_in : ℕ → ℕ → List Cell
  cells_in d k = map (λ xs. record { symbol = k; copy = d; args = xs }) (all_tuples (arg_sizes sizes (symbol_at sig k)))

  -- the numbers of the mutable symbols, or of the immutable ones
  abbrev pub numbers_like : Bool → List ℕ
  numbers_like mutable = filter (λ k. is_like mutable (symbol_at sig k)) (range_with_len 0 (length sig.symbols))

  -- the tables of the immutable symbols, and then copy by copy those of the mutable ones
  abbrev pub cells : ℕ → List Cell
  cells copies = flat_map (cells_in 0) (numbers_like false) ++ flat_map (λ d. flat_map (cells_in d) (numbers_like true)) (range_with_len 0 copies)
