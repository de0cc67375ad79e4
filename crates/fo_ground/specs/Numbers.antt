-- The atoms over a universe in the order of their variables, and the layout that this gives.
use Rattle.std.specs.Prelude.{ℕ, ◌+◌, ◌-◌, ◌*◌, ◌/◌, ◌%◌, cond, List, [], ◌++◌, map, take, length, slice_index}
use Rattle.std.specs.List.{range_with_len, flat_map}
use Rattle.fo_core.specs.declared.signature.Sig.{Sig}
use Rattle.fo_core.specs.Tables.{symbol_at, tuples}
use Rattle.fo_terms.specs.declared.terms.Universe.{Universe}
use Rattle.fo_terms.specs.Arranged.{earlier_applications}
use Rattle.fo_core.specs.TermCounts.{copies_of, term_counts}
use Rattle.fo_terms.specs.Universe.{sort_at}
use Rattle.fo_ground.specs.declared.grounded.Atom.{Atom}
use Rattle.fo_ground.specs.declared.grounded.Atom.TheVariants.{Same, Fact}
use Rattle.fo_ground.specs.declared.layout.Layout.{Layout}
use Rattle.fo_terms.specs.Blocks.{raised}
use Rattle.fo_core.specs.Tuples.{tuple_at}

module _ (sig : Sig) (copies : ℕ) (u : Universe) where
  -- how many ground terms a sort has
  abbrev pub count_of : ℕ → ℕ
  count_of s = slice_index (term_counts sig copies) s

  -- where they begin
  abbrev pub first_at : ℕ → ℕ
  first_at s = slice_index u.firsts s

  -- the equations of the term at p with itself and the later ones of its sort
  abbrev pub row_end : ℕ → ℕ
  row_end p = first_at (sort_at u.terms p) + count_of (sort_at u.terms p)

  abbrev pub row : ℕ → List Atom
  row p = map (λ q. Same p q) (range_with_len p (row_end p - p))

  abbrev pub rows : List Atom
  rows = flat_map row (range_with_len 0 (length u.terms))

  -- how many tuples of arguments a symbol has, in one copy and in all of them
  abbrev pub tuple_count : ℕ → ℕ
  tuple_count k = tuples (map count_of (symbol_at sig k).args)

  abbrev pub fact_count : ℕ → ℕ
  fact_count k = copies_of copies (symbol_at sig k) * tuple_count k

  -- a symbol in a copy of arguments, where copy and arguments are the digits of one number
  abbrev pub fact_at : ℕ → ℕ → Atom
  fact_at k j = Fact k (j / tuple_count k) (raised u.firsts (symbol_at sig k).args (tuple_at (map count_of (symbol_at sig k).args) (j % tuple_count k)))

  -- a relation in all its copies of all tuples
  abbrev pub facts_of : ℕ → List Atom
  facts_of k = cond (symbol_at sig k).relation (map (fact_at k) (range_with_len 0 (fact_count k))) []

  -- all atoms: the equations of terms of one sort, then the relations
  abbrev pub atoms_of : List Atom
  atoms_of = rows ++ flat_map facts_of (range_with_len 0 (length sig.symbols))

  -- where a relation's atoms begin
  abbrev pub fact_start : ℕ → ℕ
  fact_start k = length rows + length (flat_map facts_of (take k (range_with_len 0 (length sig.symbols))))

  -- where a function's ground terms begin
  abbrev pub term_start : ℕ → ℕ
  term_start k = first_at (symbol_at sig k).result + earlier_applications sig copies k

  abbrev pub symbol_start : ℕ → ℕ
  symbol_start k = cond (symbol_at sig k).relation (fact_start k) (term_start k)

  -- where a term's equations begin
  abbrev pub row_start : ℕ → ℕ
  row_start p = length (flat_map row (take p (range_with_len 0 (length u.terms))))

  abbrev pub layout_of : Layout
  layout_of = record {
    sig = sig;
    copies = copies;
    base = length atoms_of;
    sizes = term_counts sig copies;
    starts = map symbol_start (range_with_len 0 (length sig.symbols));
    same = map row_start (range_with_len 0 (length u.terms));
  }
