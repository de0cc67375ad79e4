-- What the places in the tables of a world are.
use Rattle.std.proofs.Common.{◌≡◌, ℕ, Bool, true, false, cond, ◌<◌, List, length, refl, sym, subst, arith}
use Rattle.std.specs.Bool.{beq}
use Rattle.std.specs.Prelude.{slice_index_or}
use Rattle.std.specs.List.{All, AllZip, flat_map, range_with_len}
use Rattle.std.proofs.lemmas.List.Elements.{All-append, All-filter, filter_passes}
use Rattle.fo_core.specs.declared.signature.Sig.{Sig}
use Rattle.fo_core.specs.Sorted.{IsSymbol}
use Rattle.fo_core.specs.Tables.{symbol_at, arg_sizes, is_like}
use Rattle.fo_core.specs.declared.cell.Cell.{Cell}
use Rattle.fo_core.specs.Asked.{no_cell}
use Rattle.fo_core.specs.Cells.{cells_in, numbers_like, cells}
use Rattle.fo_core.proofs.ListFacts.{all_mapped, all_flat, all_range}
use Rattle.fo_core.specs.Tuples.{all_tuples}
use Rattle.fo_core.proofs.TupleLemmas.{tuples-below}

-- a symbol of the signature, a copy in which it may be read, and elements below the sizes of its sorts
pub record IsCell (sig : Sig) (sizes : List ℕ) (copies : ℕ) (c : Cell) : Type 0 where
  pub within : c.symbol < length sig.symbols
  pub copy : c.copy < cond (symbol_at sig c.symbol).mutable copies 1
  pub args : AllZip (λ x n. x < n) c.args (arg_sizes sizes (symbol_at sig c.symbol))

like-from : (m b : Bool) → beq m b ≡ true → m ≡ b
like-from true true e = refl
like-from true false e = sym e
like-from false true e = e
like-from false false e = refl

module _ (sig : Sig) (sizes : List ℕ) (copies : ℕ) where
  -- the numbers of the symbols of a kind
  abbrev pub IsLike : Bool → ℕ → Type 0
  IsLike mutable k = (k < length sig.symbols) × ((symbol_at sig k).mutable ≡ mutable)

  pub like-numbers : (mutable : Bool) → All (IsLike mutable) (numbers_like sig sizes mutable)
  like-numbers mutable k d lt = (
    All-filter (λ k. is_like mutable (symbol_at sig k)) (λ k. k < length sig.symbols) (range_with_len 0 (length sig.symbols)) (all_range (λ k. k < length sig.symbols) (length sig.symbols) (λ k lt. lt)) k d lt,
    like-from _ mutable (filter_passes (λ k. is_like mutable (symbol_at sig k)) (range_with_len 0 (length sig.symbols)) k d lt),
  )

  table-cells : (d k : ℕ) → k < length sig.symbols → d < cond (symbol_at sig k).mutable copies 1 → All (IsCell sig sizes copies) (cells_in sig sizes d k)
  table-cells d k known copy = all_mapped (IsCell sig sizes copies) (λ xs. record { symbol = k; copy = d; args = xs }) (all_tuples (arg_sizes sizes (symbol_at sig k)))
      (λ i e lt. record { within = known; copy = copy; args = tuples-below (arg_sizes sizes (symbol_at sig k)) i e lt })

  kind-cells : (d : ℕ) (mutable : Bool) → d < cond mutable copies 1 → All (IsCell sig sizes copies) (flat_map (cells_in sig sizes d) (numbers_like sig sizes mutable))
  kind-cells d mutable copy = all_flat (IsCell sig sizes copies) (cells_in sig sizes d) (numbers_like sig sizes mutable)
      (λ k e lt.
      let like = like-numbers mutable k e lt in
      table-cells d _ like.0 (subst (λ m. d < cond m copies 1) (sym like.1) copy))

  pub cells-all : All (IsCell sig sizes copies) (cells sig sizes copies)
  cells-all = All-append (IsCell sig sizes copies) (flat_map (cells_in sig sizes 0) (numbers_like sig sizes false)) (flat_map (λ d. flat_map (cells_in sig sizes d) (numbers_like sig sizes true)) (range_with_len 0 copies))
      (kind-cells 0 false (omega arith))
      (all_flat (IsCell sig sizes copies) (λ d. flat_map (cells_in sig sizes d) (numbers_like sig sizes true)) (range_with_len 0 copies)
      (all_range (λ d. All (IsCell sig sizes copies) (flat_map (cells_in sig sizes d) (numbers_like sig sizes true))) copies (λ d lt. kind-cells d true lt)))

  pub cells-at : (k : ℕ) → k < length (cells sig sizes copies) → IsCell sig sizes copies (slice_index_or (cells sig sizes copies) k no_cell)
  cells-at k lt = cells-all k no_cell lt

  -- so its symbol may be read there
  pub cell-symbol : (b : Bool) (c : Cell) → IsCell sig sizes copies c → (symbol_at sig c.symbol).relation ≡ b → IsSymbol sig copies b c.symbol c.copy
  cell-symbol b c is kind = record { within = is.within; kind = kind; copy = is.copy }
