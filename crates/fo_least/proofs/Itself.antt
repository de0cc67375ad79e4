-- A world that meets a query meets each trial of its own sizes and values.
use Rattle.std.proofs.Common.{◌≡◌, ℕ, Bool, true, false, cond, ◌<◌, ◌≤◌, List, [], ◌∷◌, length, get_or, map, take, refl, sym, ap, subst, ◌∙◌, arith}
use Rattle.std.specs.Prelude.{slice_index, slice_index_or}
use Rattle.std.specs.List.{AllZip}
use Rattle.std.proofs.lemmas.List.{get_or-take, length-take}
use Rattle.fo_core.specs.declared.query.Query.{Query}
use Rattle.fo_core.specs.declared.signature.Sig.{Sig}
use Rattle.fo_core.specs.declared.signature.Symbol.{Symbol}
use Rattle.fo_core.specs.declared.world.World.{World}
use Rattle.fo_core.specs.Queries.{MeetsQuery}
use Rattle.fo_core.specs.Tables.{symbol_at, entry, range_of}
use Rattle.fo_core.specs.declared.cell.Cell.{Cell}
use Rattle.fo_core.specs.Asked.{no_cell}
use Rattle.fo_core.specs.Cells.{cells}
use Rattle.fo_core.specs.Least.{world_values}
use Rattle.fo_least.proofs.CellLemmas.{IsCell, cells-at}
use Rattle.fo_least.proofs.CellValues.{entry_at, values-length, value-at, entry-below}
use Rattle.fo_least.proofs.Injective.{naming-take}
use Rattle.fo_least.proofs.Naming.{IsNaming, named, named_value, IsEntry, HasValues, CanTry, MeetsTrial}

-- each element by its own number
abbrev pub own : ℕ → ℕ → ℕ
own s x = x

own-naming : (w : World) → IsNaming w w.sizes own
own-naming w = record { within = λ s x in_ lt. lt; covers = λ s y in_ lt. (y, lt, refl) }

named-own : (ns rs xs : List ℕ) → AllZip (λ x n. x < n) xs (map (slice_index ns) rs) → named own rs xs ≡ xs
named-own ns [] [] h = refl
named-own ns [] (x ∷ xs) h = absurd h
named-own ns (s ∷ rs) [] h = absurd h
named-own ns (s ∷ rs) (x ∷ xs) h = ap (λ ys. x ∷ ys) (named-own ns rs xs h.1)

value-own : (s : Symbol) (v : ℕ) → named_value own s v ≡ v
value-own s v = by_kind s.relation
  where
    by_kind : (b : Bool) → cond b v v ≡ v
    by_kind true = refl
    by_kind false = refl

module _ (sig : Sig) (q : Query) (w : World) (meets : MeetsQuery sig q w) (k : ℕ) where
  pub itself-sizes : MeetsTrial sig q (take k w.sizes) [] w
  itself-sizes = record { meets = meets; name = own; naming = naming-take w w.sizes own k (own-naming w); entries = λ j lt. absurd (omega arith) }

  taken : (j : ℕ) → j < length (take k (world_values w)) → (j < k) × (j < length (cells sig w.sizes q.copies))
  taken j lt = (
    omega (arith, length-take k (world_values w)),
    subst (λ n. j < length (cells sig w.sizes n)) meets.copies (omega (arith, length-take k (world_values w), values-length sig w meets.fits)),
  )

  value-here : (j : ℕ) → j < length (take k (world_values w)) → slice_index (take k (world_values w)) j ≡ entry_at sig w (slice_index_or (cells sig w.sizes q.copies) j no_cell)
  value-here j lt =
      get_or-take k (world_values w) j 0 (taken j lt).0
      ∙ value-at sig w meets.fits j (subst (λ n. j < length (cells sig w.sizes n)) (sym meets.copies) (taken j lt).1)
      ∙ ap (λ n. entry_at sig w (get_or (cells sig w.sizes n) j no_cell)) meets.copies

  own-values : HasValues sig w q.copies w.sizes own (take k (world_values w))
  own-values j lt = at (slice_index_or (cells sig w.sizes q.copies) j no_cell) (cells-at sig w.sizes q.copies j (taken j lt).1) (slice_index (take k (world_values w)) j) (value-here j lt)
    where
      at : (c : Cell) → IsCell sig w.sizes q.copies c → (v : ℕ) → v ≡ entry_at sig w c → IsEntry sig w own c v
      at c is v e = ap (entry sig w c.copy c.symbol) (named-own w.sizes (symbol_at sig c.symbol).args c.args is.args) ∙ sym e ∙ sym (value-own (symbol_at sig c.symbol) v)

  pub itself-values : MeetsTrial sig q w.sizes (take k (world_values w)) w
  itself-values = record { meets = meets; name = own; naming = own-naming w; entries = own-values }

  pub can_try_own_sizes : CanTry sig q.copies (take k w.sizes) []
  can_try_own_sizes = record { sorts = (let e = meets.fits.sorts in omega (arith, length-take k w.sizes)); all_sorts = λ j lt. absurd (omega arith); entries = omega arith; in_range = λ j lt. absurd (omega arith) }

  pub can_try_own_values : CanTry sig q.copies w.sizes (take k (world_values w))
  can_try_own_values = record {
    sorts = (let e = meets.fits.sorts in omega arith);
    all_sorts = λ j lt. meets.fits.sorts;
    entries = subst (λ n. length (take k (world_values w)) ≤ length (cells sig w.sizes n)) meets.copies (omega (arith, length-take k (world_values w), values-length sig w meets.fits));
    in_range = λ j lt. subst (λ v. v < range_of w.sizes (symbol_at sig (slice_index_or (cells sig w.sizes q.copies) j no_cell).symbol)) (sym (value-here j lt))
        (entry-below sig w meets.fits (slice_index_or (cells sig w.sizes q.copies) j no_cell) (subst (λ n. IsCell sig w.sizes n (slice_index_or (cells sig w.sizes q.copies) j no_cell)) (sym meets.copies) (cells-at sig w.sizes q.copies j (taken j lt).1)));
  }
