-- The values of a world's tables are its entries, place by place.
use Rattle.std.proofs.Common.{◌≡◌, ℕ, Bool, true, false, cond, ◌<◌, List, [], ◌∷◌, ◌++◌, length, get_or, map, take, refl, sym, ap, subst, ◌∙◌, arith}
use Rattle.std.specs.Bool.{beq}
use Rattle.std.specs.Prelude.{slice_index, slice_index_or}
use Rattle.std.specs.List.{All, Contains, filter, flat_map, range_with_len}
use Rattle.std.proofs.lemmas.List.{map-append, length-map, get_or-map}
use Rattle.std.proofs.lemmas.List.Elements.{Contains-append_left, Contains-append_right}
use Rattle.fo_core.specs.declared.signature.Sig.{Sig}
use Rattle.fo_core.specs.declared.signature.Symbol.{Symbol}
use Rattle.fo_core.specs.declared.world.Table.{Table}
use Rattle.fo_core.specs.declared.world.World.{World}
use Rattle.fo_core.specs.Tables.{no_symbol, no_table, symbol_at, tuples, place, arg_sizes, range_of, is_like, table_of, entry, IsTable, AreTables, Fits}
use Rattle.fo_core.proofs.TableLemmas.{table_is, place-lt}
use Rattle.fo_core.specs.declared.cell.Cell.{Cell}
use Rattle.fo_core.specs.Asked.{no_cell}
use Rattle.fo_core.specs.Cells.{cells_in, numbers_like, cells}
use Rattle.fo_core.specs.Least.{table_values, world_values}
use Rattle.fo_least.proofs.CellLemmas.{IsCell, like-numbers}
use Rattle.fo_core.proofs.ListFacts.{all_range}
use Rattle.fo_core.proofs.Pieces.{map-map, map-flat_map, flat_map-map, flat_map-agree, Contains-flat_map, Contains-map, Contains-filter, range-Contains, places-all, rank_in, ranks-all}
use Rattle.fo_core.specs.Tuples.{all_tuples}
use Rattle.fo_core.proofs.TupleLemmas.{tuple-places, tuple-found}

-- the entry at a place
abbrev pub entry_at : Sig → World → Cell → ℕ
entry_at sig w c = entry sig w c.copy c.symbol c.args

pub table-listed : (ns vs : List ℕ) → length vs ≡ tuples ns → map (λ xs. slice_index vs (place ns xs)) (all_tuples ns) ≡ vs
table-listed ns vs e = sym (map-map (λ k. get_or vs k 0) (place ns) (all_tuples ns)) ∙ ap (map (λ k. get_or vs k 0)) (tuple-places ns ∙ ap (range_with_len 0) (sym e)) ∙ places-all vs 0

pub AreTables-length : (sizes : List ℕ) (ss : List Symbol) (ts : List Table) → AreTables sizes ss ts → length ss ≡ length ts
AreTables-length sizes [] [] h = refl
AreTables-length sizes [] (t ∷ ts) h = absurd h
AreTables-length sizes (s ∷ ss) [] h = absurd h
AreTables-length sizes (s ∷ ss) (t ∷ ts) h = omega (arith, AreTables-length sizes ss ts h.1)

module _ (sig : Sig) (w : World) (fits : Fits sig w) where
  kind-tables : (mutable : Bool) (ts : List Table) → AreTables w.sizes (filter (is_like mutable) sig.symbols) ts →
      map (λ k. get_or ts (rank_in (is_like mutable) sig.symbols no_symbol k) no_table) (numbers_like sig w.sizes mutable) ≡ ts
  kind-tables mutable ts are =
      sym (map-map (λ r. get_or ts r no_table) (rank_in (is_like mutable) sig.symbols no_symbol) (numbers_like sig w.sizes mutable))
      ∙ ap (map (λ r. get_or ts r no_table)) (ranks-all (is_like mutable) sig.symbols no_symbol ∙ ap (range_with_len 0) (AreTables-length w.sizes (filter (is_like mutable) sig.symbols) ts are))
      ∙ places-all ts no_table

  -- the entries of a table are its values
  symbol-values : (d k : ℕ) → k < length sig.symbols → ((symbol_at sig k).mutable ≡ true → d < length w.copies) → map (entry_at sig w) (cells_in sig w.sizes d k) ≡ (table_of sig w d k).values
  symbol-values d k lt within =
      map-map (entry_at sig w) (λ (xs : List ℕ). record { symbol = k; copy = d; args = xs }) (all_tuples (arg_sizes w.sizes (symbol_at sig k)))
      ∙ table-listed (arg_sizes w.sizes (symbol_at sig k)) (table_of sig w d k).values (table_is sig w d k fits lt within).total

  kind-values : (d : ℕ) (mutable : Bool) (ts : List Table) → AreTables w.sizes (filter (is_like mutable) sig.symbols) ts → (mutable ≡ true → d < length w.copies) →
      ((k : ℕ) → cond mutable (get_or (get_or w.copies d []) k no_table) (get_or w.fixed k no_table) ≡ get_or ts k no_table) →
      map (entry_at sig w) (flat_map (cells_in sig w.sizes d) (numbers_like sig w.sizes mutable)) ≡ table_values ts
  kind-values d mutable ts are within is =
      map-flat_map (entry_at sig w) (cells_in sig w.sizes d) (numbers_like sig w.sizes mutable)
      ∙ flat_map-agree (λ k. map (entry_at sig w) (cells_in sig w.sizes d k)) (λ k. (get_or ts (rank_in (is_like mutable) sig.symbols no_symbol k) no_table).values) (numbers_like sig w.sizes mutable) each
      ∙ sym (flat_map-map (λ (t : Table). t.values) (λ k. get_or ts (rank_in (is_like mutable) sig.symbols no_symbol k) no_table) (numbers_like sig w.sizes mutable))
      ∙ ap table_values (kind-tables mutable ts are)
    where
      at : (k : ℕ) → (symbol_at sig k).mutable ≡ mutable → table_of sig w d k ≡ get_or ts (rank_in (is_like mutable) sig.symbols no_symbol k) no_table
      at k e =
          ap (λ b. cond b (get_or (get_or w.copies d []) (length (filter (is_like b) (take k sig.symbols))) no_table) (get_or w.fixed (length (filter (is_like b) (take k sig.symbols))) no_table)) e
          ∙ is (rank_in (is_like mutable) sig.symbols no_symbol k)

      each : All (λ k. map (entry_at sig w) (cells_in sig w.sizes d k) ≡ (get_or ts (rank_in (is_like mutable) sig.symbols no_symbol k) no_table).values) (numbers_like sig w.sizes mutable)
      each i e lt =
          let like = like-numbers sig w.sizes (length w.copies) mutable i e lt in
          symbol-values d (get_or (numbers_like sig w.sizes mutable) i e) like.0 (λ m. within (sym like.1 ∙ m))
          ∙ ap (λ (t : Table). t.values) (at (get_or (numbers_like sig w.sizes mutable) i e) like.1)

  copy-values : All (λ d. map (entry_at sig w) (flat_map (cells_in sig w.sizes d) (numbers_like sig w.sizes true)) ≡ table_values (get_or w.copies d [])) (range_with_len 0 (length w.copies))
  copy-values = all_range (λ d. map (entry_at sig w) (flat_map (cells_in sig w.sizes d) (numbers_like sig w.sizes true)) ≡ table_values (get_or w.copies d [])) (length w.copies)
      (λ d lt. kind-values d true (get_or w.copies d []) (fits.copies d [] lt) (λ _. lt) (λ k. refl))

  -- the values of a world, entry by entry
  pub values-cells : world_values w ≡ map (entry_at sig w) (cells sig w.sizes (length w.copies))
  values-cells = sym (
      map-append (entry_at sig w) (flat_map (cells_in sig w.sizes 0) (numbers_like sig w.sizes false)) (flat_map (λ d. flat_map (cells_in sig w.sizes d) (numbers_like sig w.sizes true)) (range_with_len 0 (length w.copies)))
      ∙ ap (λ vs. vs ++ map (entry_at sig w) (flat_map (λ d. flat_map (cells_in sig w.sizes d) (numbers_like sig w.sizes true)) (range_with_len 0 (length w.copies))))
      (kind-values 0 false w.fixed fits.fixed (λ e. absurd (never e)) (λ k. refl))
      ∙ ap (λ vs. table_values w.fixed ++ vs) (
      map-flat_map (entry_at sig w) (λ d. flat_map (cells_in sig w.sizes d) (numbers_like sig w.sizes true)) (range_with_len 0 (length w.copies))
      ∙ flat_map-agree (λ d. map (entry_at sig w) (flat_map (cells_in sig w.sizes d) (numbers_like sig w.sizes true))) (λ d. table_values (get_or w.copies d [])) (range_with_len 0 (length w.copies)) copy-values
      ∙ sym (flat_map-map table_values (λ d. get_or w.copies d []) (range_with_len 0 (length w.copies)))
      ∙ ap (flat_map table_values) (places-all w.copies [])
      )
      )
    where
      never : ¬ (false ≡ true)
      never e = cc

  pub values-length : length (world_values w) ≡ length (cells sig w.sizes (length w.copies))
  values-length = ap length values-cells ∙ length-map (cells sig w.sizes (length w.copies)) (entry_at sig w)

  pub value-at : (k : ℕ) → k < length (cells sig w.sizes (length w.copies)) → slice_index (world_values w) k ≡ entry_at sig w (slice_index_or (cells sig w.sizes (length w.copies)) k no_cell)
  value-at k lt = ap (λ vs. get_or vs k 0) values-cells ∙ get_or-map (entry_at sig w) (cells sig w.sizes (length w.copies)) k no_cell 0 lt

  -- an entry is in its symbol's range
  pub entry-below : (c : Cell) → IsCell sig w.sizes (length w.copies) c → entry_at sig w c < range_of w.sizes (symbol_at sig c.symbol)
  entry-below c is = table.in_range (place (arg_sizes w.sizes (symbol_at sig c.symbol)) c.args) 0 (subst (λ n. place (arg_sizes w.sizes (symbol_at sig c.symbol)) c.args < n) (sym table.total) (place-lt _ c.args is.args))
    where
      within : (symbol_at sig c.symbol).mutable ≡ true → c.copy < length w.copies
      within e = subst (λ b. c.copy < cond b (length w.copies) 1) e is.copy

      table : IsTable w.sizes (symbol_at sig c.symbol) (table_of sig w c.copy c.symbol)
      table = table_is sig w c.copy c.symbol fits is.within within

-- each symbol's each value in a copy has its place
pub cell-found : (sig : Sig) (sizes : List ℕ) (copies : ℕ) (c : Cell) → IsCell sig sizes copies c → Contains (cells sig sizes copies) c
cell-found sig sizes copies c is = by_kind (symbol_at sig c.symbol).mutable refl is.copy
  where
    in_table : Contains (cells_in sig sizes c.copy c.symbol) c
    in_table = Contains-map (λ (xs : List ℕ). record { symbol = c.symbol; copy = c.copy; args = xs }) (all_tuples (arg_sizes sizes (symbol_at sig c.symbol))) c.args (tuple-found _ c.args is.args)

    itself : (b : Bool) → (symbol_at sig c.symbol).mutable ≡ b → is_like b (symbol_at sig c.symbol) ≡ true
    itself b e = subst (λ b. is_like b (symbol_at sig c.symbol) ≡ true) e (same (symbol_at sig c.symbol).mutable)
      where
        same : (b : Bool) → beq b b ≡ true
        same true = refl
        same false = refl

    in_kind : (b : Bool) → (symbol_at sig c.symbol).mutable ≡ b → Contains (flat_map (cells_in sig sizes c.copy) (numbers_like sig sizes b)) c
    in_kind b e =
        Contains-flat_map (cells_in sig sizes c.copy) (numbers_like sig sizes b) c.symbol c
        (Contains-filter (λ k. is_like b (symbol_at sig k)) (range_with_len 0 (length sig.symbols)) c.symbol (range-Contains (length sig.symbols) c.symbol is.within) (itself b e)) in_table

    by_kind : (b : Bool) → (symbol_at sig c.symbol).mutable ≡ b → c.copy < cond b copies 1 → Contains (cells sig sizes copies) c
    by_kind true e lt =
        Contains-append_right (flat_map (cells_in sig sizes 0) (numbers_like sig sizes false)) (flat_map (λ d. flat_map (cells_in sig sizes d) (numbers_like sig sizes true)) (range_with_len 0 copies)) c
        (Contains-flat_map (λ d. flat_map (cells_in sig sizes d) (numbers_like sig sizes true)) (range_with_len 0 copies) c.copy c (range-Contains copies c.copy lt) (in_kind true e))
    by_kind false e lt =
        let zero_is : c.copy ≡ 0 = omega arith in
        Contains-append_left (flat_map (cells_in sig sizes 0) (numbers_like sig sizes false)) (flat_map (λ d. flat_map (cells_in sig sizes d) (numbers_like sig sizes true)) (range_with_len 0 copies)) c
        (subst (λ d. Contains (flat_map (cells_in sig sizes d) (numbers_like sig sizes false)) c) zero_is (in_kind false e))
