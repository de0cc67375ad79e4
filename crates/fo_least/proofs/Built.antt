-- A world with given sizes and given values of its tables.
use Rattle.std.proofs.Common.{◌≡◌, ℕ, zero, suc, ◌+◌, ◌<◌, ◌≤◌, Bool, true, false, cond, List, [], ◌∷◌, ◌++◌, length, map, take, drop, replicate, refl, sym, subst, ap, ◌∙◌, append_assoc, length-append}
use Rattle.std.specs.Prelude.{slice_index, slice_index_or}
use Rattle.std.specs.List.{All, AllZip, filter, flat_map, range_with_len}
use Rattle.std.proofs.lemmas.List.Concat.{flat_map-cons}
use Rattle.std.proofs.lemmas.List.{length-replicate, take-append-drop, map-append}
use Rattle.std.proofs.Math.Seq.{get_or-append_seam}
use Rattle.std.proofs.lemmas.List.Elements.{All-nil, All-cons}
use Rattle.fo_core.specs.declared.signature.Sig.{Sig}
use Rattle.fo_core.specs.declared.signature.Symbol.{Symbol}
use Rattle.fo_core.specs.declared.world.Table.{Table}
use Rattle.fo_core.specs.declared.world.World.{World}
use Rattle.fo_core.specs.Tables.{symbol_at, tuples, arg_sizes, range_of, is_like, AreTables, Fits, no_symbol}
use Rattle.fo_core.proofs.Zips.{AllZip-each, AllZip-length}
use Rattle.fo_core.specs.declared.cell.Cell.{Cell}
use Rattle.fo_core.specs.Asked.{no_cell}
use Rattle.fo_core.specs.Cells.{cells_in, numbers_like, cells}
use Rattle.fo_core.specs.Least.{table_values, world_values}
use Rattle.fo_core.specs.Tuples.{all_tuples}
use Rattle.fo_core.proofs.TupleLemmas.{tuples_number}

-- ---- lists

abbrev pub below : ℕ → ℕ → Type 0
below v r = v < r

-- two parts of the second list cut the first one
zip_take : (vs xs ys : List ℕ) → AllZip below vs (xs ++ ys) → AllZip below (take (length xs) vs) xs
zip_take vs [] ys h = tt
zip_take [] (x ∷ xs) ys h = absurd h
zip_take (v ∷ vs) (x ∷ xs) ys h = (h.0, zip_take vs xs ys h.1)

zip_drop : (vs xs ys : List ℕ) → AllZip below vs (xs ++ ys) → AllZip below (drop (length xs) vs) ys
zip_drop vs [] ys h = h
zip_drop [] (x ∷ xs) ys h = absurd h
zip_drop (v ∷ vs) (x ∷ xs) ys h = zip_drop vs xs ys h.1

zip_none : (vs : List ℕ) → AllZip below vs [] → vs ≡ []
zip_none [] h = refl
zip_none (v ∷ vs) h = absurd h

zip_all : (vs : List ℕ) (n r : ℕ) → AllZip below vs (replicate n r) → All (λ v. v < r) vs
zip_all [] n r h = All-nil (λ v. v < r)
zip_all (v ∷ vs) zero r h = absurd h
zip_all (v ∷ vs) (suc n) r h = All-cons (λ v. v < r) v vs h.0 (zip_all vs n r h.1)

-- ---- the tables of symbols, one after the other

-- the bounds of the values of a symbol's table
abbrev pub ranges_in : List ℕ → Symbol → List ℕ
ranges_in sizes s = replicate (tuples (arg_sizes sizes s)) (range_of sizes s)

abbrev pub tables_for : List ℕ → List Symbol → List ℕ → List Table
tables_for sizes [] vs = []
tables_for sizes (s ∷ ss) vs =
    record { values = take (length (ranges_in sizes s)) vs } ∷ tables_for sizes ss (drop (length (ranges_in sizes s)) vs)

tables_fit : (sizes : List ℕ) (ss : List Symbol) (vs : List ℕ) → AllZip below vs (flat_map (ranges_in sizes) ss) → AreTables sizes ss (tables_for sizes ss vs)
tables_fit sizes [] vs h = tt
tables_fit sizes (s ∷ ss) vs h =
    let h = subst (AllZip below vs) (flat_map-cons (ranges_in sizes) s ss) h in
    let here = zip_take vs (ranges_in sizes s) (flat_map (ranges_in sizes) ss) h in (
      record {
        total = AllZip-length below _ (ranges_in sizes s) here ∙ length-replicate (tuples (arg_sizes sizes s)) (range_of sizes s);
        in_range = zip_all _ (tuples (arg_sizes sizes s)) (range_of sizes s) here;
      },
      tables_fit sizes ss _ (zip_drop vs (ranges_in sizes s) (flat_map (ranges_in sizes) ss) h),
    )

tables_values : (sizes : List ℕ) (ss : List Symbol) (vs : List ℕ) → AllZip below vs (flat_map (ranges_in sizes) ss) → table_values (tables_for sizes ss vs) ≡ vs
tables_values sizes [] vs h = sym (zip_none vs h)
tables_values sizes (s ∷ ss) vs h =
    let h = subst (AllZip below vs) (flat_map-cons (ranges_in sizes) s ss) h in
    let n = length (ranges_in sizes s) in
    let rest = tables_values sizes ss (drop n vs) (zip_drop vs (ranges_in sizes s) (flat_map (ranges_in sizes) ss) h) in
    flat_map-cons (λ (t : Table). t.values) (record { values = take n vs }) (tables_for sizes ss (drop n vs))
    ∙ ap (λ r. take n vs ++ r) rest ∙ take-append-drop n vs

-- ---- copies of them

abbrev pub copies_for : List ℕ → List Symbol → ℕ → List ℕ → List (List Table)
copies_for sizes ss zero vs = []
copies_for sizes ss (suc n) vs =
    let size = length (flat_map (ranges_in sizes) ss) in
    tables_for sizes ss (take size vs) ∷ copies_for sizes ss n (drop size vs)

copies_number : (sizes : List ℕ) (ss : List Symbol) (n : ℕ) (vs : List ℕ) → length (copies_for sizes ss n vs) ≡ n
copies_number sizes ss zero vs = refl
copies_number sizes ss (suc n) vs = ap suc (copies_number sizes ss n _)

abbrev pub ranges_copied : List ℕ → List Symbol → ℕ → ℕ → List ℕ
ranges_copied sizes ss a n = flat_map (λ d. flat_map (ranges_in sizes) ss) (range_with_len a n)

copies_fit : (sizes : List ℕ) (ss : List Symbol) (a n : ℕ) (vs : List ℕ) → AllZip below vs (ranges_copied sizes ss a n) → All (AreTables sizes ss) (copies_for sizes ss n vs)
copies_fit sizes ss a zero vs h = All-nil (AreTables sizes ss)
copies_fit sizes ss a (suc n) vs h =
    let one = flat_map (ranges_in sizes) ss in
    let h = subst (AllZip below vs) (flat_map-cons (λ d. one) a (range_with_len (a + 1) n)) h in
    All-cons (AreTables sizes ss) _ _ (tables_fit sizes ss _ (zip_take vs one (ranges_copied sizes ss (a + 1) n) h))
    (copies_fit sizes ss (a + 1) n _ (zip_drop vs one (ranges_copied sizes ss (a + 1) n) h))

copies_values : (sizes : List ℕ) (ss : List Symbol) (a n : ℕ) (vs : List ℕ) → AllZip below vs (ranges_copied sizes ss a n) → flat_map table_values (copies_for sizes ss n vs) ≡ vs
copies_values sizes ss a zero vs h = sym (zip_none vs h)
copies_values sizes ss a (suc n) vs h =
    let one = flat_map (ranges_in sizes) ss in
    let h = subst (AllZip below vs) (flat_map-cons (λ d. one) a (range_with_len (a + 1) n)) h in
    let m = length one in
    let rest = copies_values sizes ss (a + 1) n (drop m vs) (zip_drop vs one (ranges_copied sizes ss (a + 1) n) h) in
    let here = tables_values sizes ss (take m vs) (zip_take vs one (ranges_copied sizes ss (a + 1) n) h) in
    flat_map-cons table_values (tables_for sizes ss (take m vs)) (copies_for sizes ss n (drop m vs))
    ∙ ap (λ x. x ++ flat_map table_values (copies_for sizes ss n (drop m vs))) here
    ∙ ap (λ r. take m vs ++ r) rest ∙ take-append-drop m vs

-- ---- the bounds of the values of all cells

map_const : {X : Type 0} (r : ℕ) (xs : List X) → map (λ x. r) xs ≡ replicate (length xs) r
map_const r [] = refl
map_const r (x ∷ xs) = ap (λ l. r ∷ l) (map_const r xs)

map_map : {X Y Z : Type 0} (f : X → Y) (g : Y → Z) (xs : List X) → map g (map f xs) ≡ map (λ x. g (f x)) xs
map_map f g [] = refl
map_map f g (x ∷ xs) = ap (λ l. g (f x) ∷ l) (map_map f g xs)

-- a map over blocks is a map of each block
map_blocks : {X Y Z : Type 0} (f : Y → Z) (g : X → List Y) (h : X → List Z) → ((x : X) → map f (g x) ≡ h x) → (xs : List X) → map f (flat_map g xs) ≡ flat_map h xs
map_blocks f g h same [] = refl
map_blocks f g h same (x ∷ xs) =
    ap (map f) (flat_map-cons g x xs)
    ∙ map-append f (g x) (flat_map g xs)
    ∙ ap (λ l. l ++ map f (flat_map g xs)) (same x)
    ∙ ap (λ l. h x ++ l) (map_blocks f g h same xs)
    ∙ sym (flat_map-cons h x xs)

blocks_map : {X Y Z : Type 0} (f : X → Y) (g : Y → List Z) (xs : List X) → flat_map (λ x. g (f x)) xs ≡ flat_map g (map f xs)
blocks_map f g [] = refl
blocks_map f g (x ∷ xs) =
    flat_map-cons (λ x. g (f x)) x xs ∙ ap (λ l. g (f x) ++ l) (blocks_map f g xs) ∙ sym (flat_map-cons g (f x) (map f xs))

map_filter : {X Y : Type 0} (f : X → Y) (p : Y → Bool) (xs : List X) → map f (filter (λ x. p (f x)) xs) ≡ filter p (map f xs)
map_filter f p [] = refl
map_filter f p (x ∷ xs) = by_case (p (f x)) (map_filter f p xs)
  where
    by_case : (b : Bool) → map f (filter (λ x. p (f x)) xs) ≡ filter p (map f xs) →
        map f (cond b (x ∷ filter (λ x. p (f x)) xs) (filter (λ x. p (f x)) xs)) ≡ cond b (f x ∷ filter p (map f xs)) (filter p (map f xs))
    by_case true e = ap (λ l. f x ∷ l) e
    by_case false e = e

symbols_from : (d : Symbol) (before xs : List Symbol) → map (λ k. slice_index_or (before ++ xs) k d) (range_with_len (length before) (length xs)) ≡ xs
symbols_from d before [] = refl
symbols_from d before (x ∷ xs) =
    let all = append_assoc before (x ∷ []) xs in
    let e = subst (λ l. map (λ k. slice_index_or l k d) (range_with_len (length (before ++ x ∷ [])) (length xs)) ≡ xs) all (symbols_from d (before ++ x ∷ []) xs) in
    let e' = subst (λ n. map (λ k. slice_index_or (before ++ x ∷ xs) k d) (range_with_len n (length xs)) ≡ xs) (length-append before (x ∷ [])) e in
    ap (λ y. y ∷ map (λ k. slice_index_or (before ++ x ∷ xs) k d) (range_with_len (length before + 1) (length xs))) (get_or-append_seam before x xs d)
    ∙ ap (λ l. x ∷ l) e'

module _ (sig : Sig) (sizes : List ℕ) where
  -- the bound of the value of a cell
  abbrev pub range_at : Cell → ℕ
  range_at c = range_of sizes (symbol_at sig c.symbol)

  ranges_cells : (d k : ℕ) → map range_at (cells_in sig sizes d k) ≡ ranges_in sizes (symbol_at sig k)
  ranges_cells d k =
      let s = symbol_at sig k in
      let ts = all_tuples (arg_sizes sizes s) in
      map_map (λ xs. record { symbol = k; copy = d; args = xs }) range_at ts
      ∙ map_const (range_of sizes s) ts
      ∙ ap (λ n. replicate n (range_of sizes s)) (tuples_number (arg_sizes sizes s))

  pub symbols_like : (mutable : Bool) → map (symbol_at sig) (numbers_like sig sizes mutable) ≡ filter (is_like mutable) sig.symbols
  symbols_like mutable =
      map_filter (symbol_at sig) (is_like mutable) (range_with_len 0 (length sig.symbols))
      ∙ ap (filter (is_like mutable)) (symbols_from no_symbol [] sig.symbols)

  ranges_like : (mutable : Bool) (d : ℕ) → map range_at (flat_map (cells_in sig sizes d) (numbers_like sig sizes mutable)) ≡ flat_map (ranges_in sizes) (filter (is_like mutable) sig.symbols)
  ranges_like mutable d =
      map_blocks range_at (cells_in sig sizes d) (λ k. ranges_in sizes (symbol_at sig k)) (ranges_cells d) (numbers_like sig sizes mutable)
      ∙ blocks_map (symbol_at sig) (ranges_in sizes) (numbers_like sig sizes mutable)
      ∙ ap (flat_map (ranges_in sizes)) (symbols_like mutable)

  ranges_all : (copies : ℕ) → map range_at (cells sig sizes copies) ≡
      flat_map (ranges_in sizes) (filter (is_like false) sig.symbols) ++ ranges_copied sizes (filter (is_like true) sig.symbols) 0 copies
  ranges_all copies =
      map-append range_at (flat_map (cells_in sig sizes 0) (numbers_like sig sizes false)) (flat_map (λ d. flat_map (cells_in sig sizes d) (numbers_like sig sizes true)) (range_with_len 0 copies))
      ∙ ap (λ l. l ++ map range_at (flat_map (λ d. flat_map (cells_in sig sizes d) (numbers_like sig sizes true)) (range_with_len 0 copies))) (ranges_like false 0)
      ∙ ap (λ l. flat_map (ranges_in sizes) (filter (is_like false) sig.symbols) ++ l)
      (map_blocks range_at (λ d. flat_map (cells_in sig sizes d) (numbers_like sig sizes true)) (λ d. flat_map (ranges_in sizes) (filter (is_like true) sig.symbols)) (ranges_like true) (range_with_len 0 copies))

zip_map : {X : Type 0} (f : X → ℕ) (vs : List ℕ) (xs : List X) → AllZip (λ v x. v < f x) vs xs → AllZip below vs (map f xs)
zip_map f [] [] h = tt
zip_map f [] (x ∷ xs) h = absurd h
zip_map f (v ∷ vs) [] h = absurd h
zip_map f (v ∷ vs) (x ∷ xs) h = (h.0, zip_map f vs xs h.1)

-- ---- the world

-- a world has these sizes and these values of its tables
pub record IsWorldOf (sig : Sig) (copies : ℕ) (sizes values : List ℕ) (w : World) : Type 0 where
  pub fits : Fits sig w
  pub sizes_are : w.sizes ≡ sizes
  pub values_are : world_values w ≡ values
  pub copies_are : length w.copies ≡ copies

-- the tables cut out of the list of values, one after the other
abbrev pub world_for : Sig → ℕ → List ℕ → List ℕ → World
world_for sig copies sizes values =
    let n = length (flat_map (ranges_in sizes) (filter (is_like false) sig.symbols)) in
    record {
      sizes = sizes;
      fixed = tables_for sizes (filter (is_like false) sig.symbols) (take n values);
      copies = copies_for sizes (filter (is_like true) sig.symbols) copies (drop n values);
    }

pub built-is : (sig : Sig) (copies : ℕ) (sizes values : List ℕ) → length sizes ≡ sig.sorts → All (λ n. 1 ≤ n) sizes → 1 ≤ copies →
    length values ≡ length (cells sig sizes copies) →
    ((k : ℕ) → k < length values → slice_index values k < range_of sizes (symbol_at sig (slice_index_or (cells sig sizes copies) k no_cell).symbol)) →
    IsWorldOf sig copies sizes values (world_for sig copies sizes values)
built-is sig copies sizes values sorts positive some all in_range =
    let cs = cells sig sizes copies in
    let fixed = filter (is_like false) sig.symbols in
    let mutable_ones = filter (is_like true) sig.symbols in
    let first = flat_map (ranges_in sizes) fixed in
    let rest = ranges_copied sizes mutable_ones 0 copies in
    let zipped = subst (AllZip below values) (ranges_all sig sizes copies) (zip_map (range_at sig sizes) values cs (AllZip-each (λ v c. v < range_at sig sizes c) values cs 0 no_cell all in_range)) in
    let n = length first in
    let f = zip_take values first rest zipped in
    let r = zip_drop values first rest zipped in
    record {
      fits = record {
        sorts = sorts;
        nonempty = positive;
        fixed = tables_fit sizes fixed (take n values) f;
        some_copy = subst (λ m. 1 ≤ m) (sym (copies_number sizes mutable_ones copies (drop n values))) some;
        copies = copies_fit sizes mutable_ones 0 copies (drop n values) r;
      };
      sizes_are = refl;
      values_are =
          ap (λ l. l ++ flat_map table_values (copies_for sizes mutable_ones copies (drop n values))) (tables_values sizes fixed (take n values) f)
          ∙ ap (λ l. take n values ++ l) (copies_values sizes mutable_ones 0 copies (drop n values) r)
          ∙ take-append-drop n values;
      copies_are = copies_number sizes mutable_ones copies (drop n values);
    }

pub built : (sig : Sig) (copies : ℕ) (sizes values : List ℕ) → length sizes ≡ sig.sorts → All (λ n. 1 ≤ n) sizes → 1 ≤ copies →
    length values ≡ length (cells sig sizes copies) →
    ((k : ℕ) → k < length values → slice_index values k < range_of sizes (symbol_at sig (slice_index_or (cells sig sizes copies) k no_cell).symbol)) →
    (w : World) × IsWorldOf sig copies sizes values w
built sig copies sizes values sorts positive some all in_range = (world_for sig copies sizes values, built-is sig copies sizes values sorts positive some all in_range)
