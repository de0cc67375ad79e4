-- From a world that meets a trial of all sizes, one with these very sizes and values.
use Rattle.std.proofs.Common.{◌≡◌, ℕ, Bool, true, false, cond, ◌⊎◌, inl, inr, ◌<◌, ◌≤◌, List, [], ◌∷◌, ◌++◌, length, get_or, map, refl, sym, ap, subst, ◌∙◌, arith}
use Rattle.std.specs.Prelude.{slice_index, slice_index_or}
use Rattle.std.specs.List.{All, filter, flat_map, range_with_len}
use Rattle.std.proofs.lemmas.Bool.{cases_lt}
use Rattle.std.proofs.lemmas.List.{map-append, length-map, get_or-map}
use Rattle.std.proofs.lemmas.List.Elements.{All-head, All-tail, All-from_get_or}
use Rattle.std.proofs.lemmas.List.FromFn.{length-range_with_len}
use Rattle.fo_core.specs.declared.query.Query.{Query}
use Rattle.fo_core.specs.declared.signature.Sig.{Sig}
use Rattle.fo_core.specs.declared.signature.Symbol.{Symbol}
use Rattle.fo_core.specs.declared.world.Table.{Table}
use Rattle.fo_core.specs.declared.world.World.{World}
use Rattle.fo_core.specs.Queries.{IsQuery, MeetsQuery}
use Rattle.fo_core.specs.Sorted.{IsSig}
use Rattle.fo_core.specs.Tables.{no_symbol, symbol_at, tuples, place, arg_sizes, range_of, is_like, entry, IsTable, AreTables, Fits}
use Rattle.fo_core.specs.declared.cell.Cell.{Cell}
use Rattle.fo_core.specs.Asked.{no_cell}
use Rattle.fo_core.specs.Cells.{cells_in, numbers_like, cells}
use Rattle.fo_core.specs.Least.{table_values, world_values}
use Rattle.fo_core.proofs.TupleLemmas.{tuples-below, tuple-places}
use Rattle.fo_least.proofs.CellLemmas.{IsCell, like-numbers, cells-at}
use Rattle.fo_least.proofs.CellValues.{entry-below}
use Rattle.fo_least.proofs.Isomorphic.{IsApart, meets-described}
use Rattle.fo_core.proofs.ListFacts.{all_mapped, all_range}
use Rattle.fo_least.proofs.Naming.{named, named_value, IsEntry, HasValues, CanTry, MeetsTrial}
use Rattle.fo_least.proofs.NextLemmas.{named-cell, symbol-sorts}
use Rattle.fo_core.proofs.Pieces.{map-flat_map, flat_map-map, kept-all}
use Rattle.fo_core.specs.Tuples.{all_tuples}

-- tables for the symbols of these numbers
are-tables : (sig : Sig) (sizes ks : List ℕ) (table : ℕ → Table) → All (λ k. IsTable sizes (symbol_at sig k) (table k)) ks → AreTables sizes (map (symbol_at sig) ks) (map table ks)
are-tables sig sizes [] table h = tt
are-tables sig sizes (k ∷ ks) table h = (All-head (λ k. IsTable sizes (symbol_at sig k) (table k)) k ks h, are-tables sig sizes ks table (All-tail (λ k. IsTable sizes (symbol_at sig k) (table k)) k ks h))

module _ (sig : Sig) (q : Query) (is : IsSig sig) (sorted : IsQuery sig q) (sizes values : List ℕ) (u : World) (t : MeetsTrial sig q sizes values u) (all : length sizes ≡ sig.sorts) where
  -- x names y, where y is an element of a sort
  abbrev pub Names : ℕ → ℕ → ℕ → Type 0
  Names s y x = s < length sizes → y < slice_index u.sizes s → (x < slice_index sizes s) × (t.name s x ≡ y)

  pub number : (s y : ℕ) → (x : ℕ) × Names s y x
  number s y = at (cases_lt s (length sizes)) (cases_lt y (slice_index u.sizes s))
    where
      at : (s < length sizes) ⊎ (length sizes ≤ s) → (y < slice_index u.sizes s) ⊎ (slice_index u.sizes s ≤ y) → (x : ℕ) × Names s y x
      at (inl known) (inl lt) = let c = t.naming.covers s y known lt in (c.0, λ _ _. (c.1, c.2))
      at (inl known) (inr le) = (0, λ _ lt. absurd (omega arith))
      at (inr le) _ = (0, λ known _. absurd (omega arith))

  -- the value that an entry's name has
  abbrev unnamed : Symbol → ℕ → ℕ
  unnamed s e = cond s.relation e (number s.result e).0

  unnamed-is : (s : Symbol) (e : ℕ) → (s.relation ≡ false → s.result < length sizes) → e < range_of u.sizes s → (unnamed s e < range_of sizes s) × (named_value t.name s (unnamed s e) ≡ e)
  unnamed-is s e known lt = by_kind s.relation known lt
    where
      by_kind : (b : Bool) → (b ≡ false → s.result < length sizes) → e < cond b 2 (slice_index u.sizes s.result) →
          (cond b e (number s.result e).0 < cond b 2 (slice_index sizes s.result)) × (cond b (cond b e (number s.result e).0) (t.name s.result (cond b e (number s.result e).0)) ≡ e)
      by_kind true known lt = (lt, refl)
      by_kind false known lt = (number s.result e).1 (known refl) lt

  abbrev value_of : Cell → ℕ
  value_of c = unnamed (symbol_at sig c.symbol) (entry sig u c.copy c.symbol (named t.name (symbol_at sig c.symbol).args c.args))

  function-sort : (k : ℕ) → k < length sig.symbols → (symbol_at sig k).relation ≡ false → (symbol_at sig k).result < length sizes
  function-sort k lt = subst (λ n. (symbol_at sig k).relation ≡ false → (symbol_at sig k).result < n) (sym all) (symbol-sorts sig k is lt).result

  value-is : (c : Cell) → IsCell sig sizes q.copies c → (value_of c < range_of sizes (symbol_at sig c.symbol)) × IsEntry sig u t.name c (value_of c)
  value-is c there =
      let e = entry-below sig u t.meets.fits (record { symbol = c.symbol; copy = c.copy; args = named t.name (symbol_at sig c.symbol).args c.args }) (named-cell sig q.copies u sizes t.name is t.naming all t.meets.copies c there) in
      let r = unnamed-is (symbol_at sig c.symbol) (entry sig u c.copy c.symbol (named t.name (symbol_at sig c.symbol).args c.args)) (function-sort c.symbol there.within) e in
      (r.0, sym r.1)

  abbrev table : ℕ → ℕ → Table
  table d k = record { values = map value_of (cells_in sig sizes d k) }

  abbrev pub renamed : World
  renamed = record {
    sizes = sizes;
    fixed = map (table 0) (numbers_like sig sizes false);
    copies = map (λ d. map (table d) (numbers_like sig sizes true)) (range_with_len 0 q.copies);
  }

  kind-values : (d : ℕ) (ks : List ℕ) → table_values (map (table d) ks) ≡ map value_of (flat_map (cells_in sig sizes d) ks)
  kind-values d ks = flat_map-map (λ (t : Table). t.values) (table d) ks ∙ sym (map-flat_map value_of (cells_in sig sizes d) ks)

  values-renamed : world_values renamed ≡ map value_of (cells sig sizes q.copies)
  values-renamed =
      ap (λ vs. vs ++ flat_map table_values renamed.copies) (kind-values 0 (numbers_like sig sizes false))
      ∙ ap (λ vs. map value_of (flat_map (cells_in sig sizes 0) (numbers_like sig sizes false)) ++ vs) (copies-values (range_with_len 0 q.copies))
      ∙ sym (map-append value_of (flat_map (cells_in sig sizes 0) (numbers_like sig sizes false)) (flat_map (λ d. flat_map (cells_in sig sizes d) (numbers_like sig sizes true)) (range_with_len 0 q.copies)))
    where
      copies-values : (ds : List ℕ) → flat_map table_values (map (λ d. map (table d) (numbers_like sig sizes true)) ds) ≡ map value_of (flat_map (λ d. flat_map (cells_in sig sizes d) (numbers_like sig sizes true)) ds)
      copies-values [] = refl
      copies-values (d ∷ ds) =
          ap (λ vs. vs ++ flat_map table_values (map (λ d. map (table d) (numbers_like sig sizes true)) ds)) (kind-values d (numbers_like sig sizes true))
          ∙ ap (λ vs. map value_of (flat_map (cells_in sig sizes d) (numbers_like sig sizes true)) ++ vs) (copies-values ds)
          ∙ sym (map-append value_of (flat_map (cells_in sig sizes d) (numbers_like sig sizes true)) (flat_map (λ d. flat_map (cells_in sig sizes d) (numbers_like sig sizes true)) ds))

  abbrev cell_in : ℕ → ℕ → List ℕ → Cell
  cell_in d k xs = record { symbol = k; copy = d; args = xs }

  abbrev its_sizes : ℕ → List ℕ
  its_sizes k = arg_sizes sizes (symbol_at sig k)

  is-table : (d k : ℕ) → k < length sig.symbols → d < cond (symbol_at sig k).mutable q.copies 1 → IsTable sizes (symbol_at sig k) (table d k)
  is-table d k lt copy = record {
    total =
        length-map (cells_in sig sizes d k) value_of ∙ length-map (all_tuples (its_sizes k)) (cell_in d k)
        ∙ sym (length-map (all_tuples (its_sizes k)) (place (its_sizes k))) ∙ ap length (tuple-places (its_sizes k)) ∙ length-range_with_len 0 (tuples (its_sizes k));
    in_range = all_mapped (λ v. v < range_of sizes (symbol_at sig k)) value_of (cells_in sig sizes d k)
        (all_mapped (λ c. value_of c < range_of sizes (symbol_at sig k)) (cell_in d k) (all_tuples (its_sizes k))
        (λ i e in_. (value-is (cell_in d k (get_or (all_tuples (its_sizes k)) i e)) (record { within = lt; copy = copy; args = tuples-below (its_sizes k) i e in_ })).0));
  }

  kind-tables : (d : ℕ) (mutable : Bool) → d < cond mutable q.copies 1 → AreTables sizes (filter (is_like mutable) sig.symbols) (map (table d) (numbers_like sig sizes mutable))
  kind-tables d mutable copy =
      subst (λ ss. AreTables sizes ss (map (table d) (numbers_like sig sizes mutable))) (kept-all (is_like mutable) sig.symbols no_symbol)
      (are-tables sig sizes (numbers_like sig sizes mutable) (table d) (λ i e lt.
      let like = like-numbers sig sizes q.copies mutable i e lt in
      is-table d (get_or (numbers_like sig sizes mutable) i e) like.0 (subst (λ b. d < cond b q.copies 1) (sym like.1) copy)))

  as-many : length renamed.copies ≡ q.copies
  as-many = length-map (range_with_len 0 q.copies) (λ d. map (table d) (numbers_like sig sizes true)) ∙ length-range_with_len 0 q.copies

  inhabited : (s : ℕ) → s < length sizes → 1 ≤ slice_index sizes s
  inhabited s known =
      let same = t.meets.fits.sorts in
      let some = t.meets.fits.nonempty s 0 (omega arith) in
      let c = t.naming.covers s 0 known (omega arith) in
      omega (arith, c.1)

  fits-renamed : Fits sig renamed
  fits-renamed = record {
    sorts = all;
    nonempty = All-from_get_or (λ n. 1 ≤ n) sizes 0 inhabited;
    fixed = kind-tables 0 false (omega arith);
    some_copy = let some = sorted.copies in omega (arith, as-many);
    copies = all_mapped (AreTables sizes (filter (is_like true) sig.symbols)) (λ d. map (table d) (numbers_like sig sizes true)) (range_with_len 0 q.copies)
        (all_range (λ d. AreTables sizes (filter (is_like true) sig.symbols) (map (table d) (numbers_like sig sizes true))) q.copies (λ d lt. kind-tables d true lt));
  }

  values-many : length (world_values renamed) ≡ length (cells sig sizes q.copies)
  values-many = ap length values-renamed ∙ length-map (cells sig sizes q.copies) value_of

  value-here : (k : ℕ) → k < length (cells sig sizes q.copies) → slice_index (world_values renamed) k ≡ value_of (slice_index_or (cells sig sizes q.copies) k no_cell)
  value-here k lt = ap (λ vs. get_or vs k 0) values-renamed ∙ get_or-map value_of (cells sig sizes q.copies) k no_cell 0 lt

  its-values : HasValues sig u q.copies sizes t.name (world_values renamed)
  its-values k lt =
      let below : k < length (cells sig sizes q.copies) = omega (arith, values-many) in
      subst (IsEntry sig u t.name (slice_index_or (cells sig sizes q.copies) k no_cell)) (sym (value-here k below)) (value-is (slice_index_or (cells sig sizes q.copies) k no_cell) (cells-at sig sizes q.copies k below)).1

  module _ (apart : IsApart sizes t.name) where
    -- the world meets the query
    pub renamed-meets : MeetsQuery sig q renamed
    renamed-meets =
        meets-described sig q sizes (world_values renamed) renamed u sorted
        (record { meets = t.meets; name = t.name; naming = t.naming; entries = its-values }) apart fits-renamed refl refl as-many

    -- and the values that were tried are its own
    pub renamed-values : CanTry sig q.copies sizes values → (k : ℕ) → k < length values → slice_index (world_values renamed) k ≡ slice_index values k
    renamed-values can k lt =
        let entries = can.entries in
        let below : k < length (cells sig sizes q.copies) = omega arith in
        value-here k below ∙ at (slice_index_or (cells sig sizes q.copies) k no_cell) (cells-at sig sizes q.copies k below) (slice_index values k) (can.in_range k lt) (t.entries k lt)
      where
        at : (c : Cell) → IsCell sig sizes q.copies c → (v : ℕ) → v < range_of sizes (symbol_at sig c.symbol) → IsEntry sig u t.name c v → value_of c ≡ v
        at c there v in_ e = ap (unnamed (symbol_at sig c.symbol)) e ∙ by_kind (symbol_at sig c.symbol).result (symbol_at sig c.symbol).relation (function-sort c.symbol there.within) in_
          where
            by_kind : (r : ℕ) (b : Bool) → (b ≡ false → r < length sizes) → v < cond b 2 (slice_index sizes r) → cond b (cond b v (t.name r v)) (number r (cond b v (t.name r v))).0 ≡ v
            by_kind r true known in_ = refl
            by_kind r false known in_ =
                let n = (number r (t.name r v)).1 (known refl) (t.naming.within r v (known refl) in_) in
                apart r (number r (t.name r v)).0 v n.0 in_ n.1
