-- A world that meets a trial meets one with one more size, or one more value: there is always a next one.
use Rattle.std.proofs.Common.{◌≡◌, ℕ, Bool, true, false, cond, ltb, ◌⊎◌, inl, inr, ◌<◌, ◌≤◌, List, [], ◌∷◌, ◌++◌, length, get_or, map, refl, sym, subst, ◌∙◌, arith}
use Rattle.std.specs.Prelude.{slice_index, slice_index_or}
use Rattle.std.specs.List.{All, AllZip}
use Rattle.std.proofs.lemmas.Bool.{cases_lt}
use Rattle.std.proofs.lemmas.Bool.Decides.{nat_tests}
use Rattle.std.proofs.lemmas.List.{get_or_append_left, get_or_push, length_push}
use Rattle.std.proofs.lemmas.List.Elements.{All-head, All-tail}
use Rattle.fo_core.specs.declared.query.Query.{Query}
use Rattle.fo_core.specs.declared.signature.Sig.{Sig}
use Rattle.fo_core.specs.declared.signature.Symbol.{Symbol}
use Rattle.fo_core.specs.declared.world.World.{World}
use Rattle.fo_core.specs.Sorted.{IsSig, HasSorts}
use Rattle.fo_core.specs.Tables.{symbol_at, no_symbol, range_of, entry}
use Rattle.fo_core.specs.declared.cell.Cell.{Cell}
use Rattle.fo_core.specs.Asked.{no_cell}
use Rattle.fo_core.specs.Cells.{cells}
use Rattle.fo_least.proofs.CellLemmas.{IsCell, cells-at}
use Rattle.fo_least.proofs.CellValues.{entry-below}
use Rattle.fo_least.proofs.Naming.{IsNaming, named, named_value, IsEntry, HasValues, CanTry, MeetsTrial}

-- a place in a list with one more element is one in the list, or the new one
pub push-cases : (xs : List ℕ) (y k : ℕ) → k < length (xs ++ y ∷ []) → ((k < length xs) × (get_or (xs ++ y ∷ []) k 0 ≡ get_or xs k 0)) ⊎ ((k ≡ length xs) × (get_or (xs ++ y ∷ []) k 0 ≡ y))
push-cases xs y k lt = by_case (cases_lt k (length xs))
  where
    by_case : (k < length xs) ⊎ (length xs ≤ k) → ((k < length xs) × (get_or (xs ++ y ∷ []) k 0 ≡ get_or xs k 0)) ⊎ ((k ≡ length xs) × (get_or (xs ++ y ∷ []) k 0 ≡ y))
    by_case (inl below) = inl (below, get_or_append_left xs (y ∷ []) 0 k below)
    by_case (inr above) =
        let last : k ≡ length xs = omega (arith, length_push xs y) in
        inr (last, get_or_push xs y 0 k (sym last))

-- a naming of some sorts, and one of the next sort, make one of both
module _ (w : World) (sizes : List ℕ) (name : ℕ → ℕ → ℕ) (naming : IsNaming w sizes name) (n : ℕ) (next : ℕ → ℕ) where
  abbrev pub joined : ℕ → ℕ → ℕ
  joined s x = cond (ltb s (length sizes)) (name s x) (next x)

  joined-below : (s x : ℕ) → s < length sizes → joined s x ≡ name s x
  joined-below s x lt = grind (arith, nat_tests)

  joined-last : (s x : ℕ) → s ≡ length sizes → joined s x ≡ next x
  joined-last s x e = grind (arith, nat_tests)

  module _ (within : (x : ℕ) → x < n → next x < slice_index w.sizes (length sizes)) (covers : (y : ℕ) → y < slice_index w.sizes (length sizes) → (x : ℕ) × (x < n) × (next x ≡ y)) where
    joined-within : (s x : ℕ) → s < length (sizes ++ n ∷ []) → x < slice_index (sizes ++ n ∷ []) s → joined s x < slice_index w.sizes s
    joined-within s x in_ lt = by_case (push-cases sizes n s in_)
      where
        by_case : ((s < length sizes) × (get_or (sizes ++ n ∷ []) s 0 ≡ get_or sizes s 0)) ⊎ ((s ≡ length sizes) × (get_or (sizes ++ n ∷ []) s 0 ≡ n)) → joined s x < slice_index w.sizes s
        by_case (inl (below, e)) =
            let h = naming.within s x below (subst (λ m. x < m) e lt) in
            subst (λ y. y < slice_index w.sizes s) (sym (joined-below s x below)) h
        by_case (inr (last, e)) =
            let h = within x (subst (λ m. x < m) e lt) in
            subst (λ y. y < slice_index w.sizes s) (sym (joined-last s x last)) (subst (λ t. next x < slice_index w.sizes t) (sym last) h)

    joined-covers : (s y : ℕ) → s < length (sizes ++ n ∷ []) → y < slice_index w.sizes s → (x : ℕ) × (x < slice_index (sizes ++ n ∷ []) s) × (joined s x ≡ y)
    joined-covers s y in_ lt = by_case (push-cases sizes n s in_)
      where
        by_case : ((s < length sizes) × (get_or (sizes ++ n ∷ []) s 0 ≡ get_or sizes s 0)) ⊎ ((s ≡ length sizes) × (get_or (sizes ++ n ∷ []) s 0 ≡ n)) → (x : ℕ) × (x < slice_index (sizes ++ n ∷ []) s) × (joined s x ≡ y)
        by_case (inl (below, e)) =
            let c = naming.covers s y below lt in
            (c.0, subst (λ m. c.0 < m) (sym e) c.1, joined-below s c.0 below ∙ c.2)
        by_case (inr (last, e)) =
            let c = covers y (subst (λ t. y < slice_index w.sizes t) last lt) in
            (c.0, subst (λ m. c.0 < m) (sym e) c.1, joined-last s c.0 last ∙ c.2)

    pub joined-naming : IsNaming w (sizes ++ n ∷ []) joined
    joined-naming = record { within = joined-within; covers = joined-covers }

pub next_size : (sig : Sig) (q : Query) (sizes : List ℕ) (w : World) → MeetsTrial sig q sizes [] w → MeetsTrial sig q (sizes ++ slice_index w.sizes (length sizes) ∷ []) [] w
next_size sig q sizes w m = record {
  meets = m.meets;
  name = joined w sizes m.name m.naming (slice_index w.sizes (length sizes)) (λ x. x);
  naming = joined-naming w sizes m.name m.naming (slice_index w.sizes (length sizes)) (λ x. x) (λ x lt. lt) (λ y lt. (y, lt, refl));
  entries = λ k lt. absurd (omega arith);
}

pub can_try_size : (sig : Sig) (copies : ℕ) (sizes : List ℕ) (n : ℕ) → length sizes < sig.sorts → CanTry sig copies (sizes ++ n ∷ []) []
can_try_size sig copies sizes n lt = record { sorts = omega (arith, length_push sizes n); all_sorts = λ k below. absurd (omega arith); entries = omega arith; in_range = λ k below. absurd (omega arith) }

-- the sorts of a symbol's arguments are below the number of sorts, and so a function's
pub symbol-sorts : (sig : Sig) (k : ℕ) → IsSig sig → k < length sig.symbols → HasSorts sig.sorts (symbol_at sig k)
symbol-sorts sig k is lt = is.sorts k no_symbol lt

module _ (w : World) (sizes : List ℕ) (name : ℕ → ℕ → ℕ) (naming : IsNaming w sizes name) where
  pub named-below : (rs xs : List ℕ) → All (λ s. s < length sizes) rs → AllZip (λ x n. x < n) xs (map (slice_index sizes) rs) → AllZip (λ x n. x < n) (named name rs xs) (map (slice_index w.sizes) rs)
  named-below [] [] known h = tt
  named-below [] (x ∷ xs) known h = absurd h
  named-below (s ∷ rs) [] known h = absurd h
  named-below (s ∷ rs) (x ∷ xs) known h = (naming.within s x (All-head (λ s. s < length sizes) s rs known) h.0, named-below rs xs (All-tail (λ s. s < length sizes) s rs known) h.1)

  pub value-named : (s : Symbol) (e : ℕ) → (s.relation ≡ false → s.result < length sizes) → e < range_of w.sizes s → (v : ℕ) × (v < range_of sizes s) × (e ≡ named_value name s v)
  value-named s e known lt = by_kind s.relation known lt
    where
      by_kind : (b : Bool) → (b ≡ false → s.result < length sizes) → e < cond b 2 (slice_index w.sizes s.result) → (v : ℕ) × (v < cond b 2 (slice_index sizes s.result)) × (e ≡ cond b v (name s.result v))
      by_kind true known lt = (e, lt, refl)
      by_kind false known lt = let c = naming.covers s.result e (known refl) lt in (c.0, c.1, sym c.2)

-- the elements that are named at a place make a place in the world
pub named-cell : (sig : Sig) (copies : ℕ) (w : World) (sizes : List ℕ) (name : ℕ → ℕ → ℕ) → IsSig sig → IsNaming w sizes name → length sizes ≡ sig.sorts → length w.copies ≡ copies →
    (c : Cell) → IsCell sig sizes copies c → IsCell sig w.sizes (length w.copies) (record { symbol = c.symbol; copy = c.copy; args = named name (symbol_at sig c.symbol).args c.args })
named-cell sig copies w sizes name is naming all same c there = record {
  within = there.within;
  copy = subst (λ n. c.copy < cond (symbol_at sig c.symbol).mutable n 1) (sym same) there.copy;
  args = named-below w sizes name naming (symbol_at sig c.symbol).args c.args (subst (λ n. All (λ s. s < n) (symbol_at sig c.symbol).args) (sym all) (symbol-sorts sig c.symbol is there.within).args) there.args;
}

module _ (sig : Sig) (q : Query) (sizes values : List ℕ) (w : World) (is : IsSig sig) (m : MeetsTrial sig q sizes values w) (all : length sizes ≡ sig.sorts) (more : length values < length (cells sig sizes q.copies)) where
  abbrev cell : Cell
  cell = slice_index_or (cells sig sizes q.copies) (length values) no_cell

  there : IsCell sig sizes q.copies cell
  there = cells-at sig sizes q.copies (length values) more

  sorts : HasSorts (length sizes) (symbol_at sig cell.symbol)
  sorts = subst (λ n. HasSorts n (symbol_at sig cell.symbol)) (sym all) (symbol-sorts sig cell.symbol is there.within)

  abbrev its_named : Cell
  its_named = record { symbol = cell.symbol; copy = cell.copy; args = named m.name (symbol_at sig cell.symbol).args cell.args }

  in_world : IsCell sig w.sizes (length w.copies) its_named
  in_world = named-cell sig q.copies w sizes m.name is m.naming all m.meets.copies cell there

  value : (v : ℕ) × (v < range_of sizes (symbol_at sig cell.symbol)) × IsEntry sig w m.name cell v
  value = value-named w sizes m.name m.naming (symbol_at sig cell.symbol) (entry sig w cell.copy cell.symbol its_named.args) sorts.result (entry-below sig w m.meets.fits its_named in_world)

  with_value : (v : ℕ) → IsEntry sig w m.name cell v → HasValues sig w q.copies sizes m.name (values ++ v ∷ [])
  with_value v e k lt = by_case (push-cases values v k lt)
    where
      by_case : ((k < length values) × (get_or (values ++ v ∷ []) k 0 ≡ get_or values k 0)) ⊎ ((k ≡ length values) × (get_or (values ++ v ∷ []) k 0 ≡ v)) → IsEntry sig w m.name (slice_index_or (cells sig sizes q.copies) k no_cell) (get_or (values ++ v ∷ []) k 0)
      by_case (inl (below, same)) = subst (IsEntry sig w m.name (slice_index_or (cells sig sizes q.copies) k no_cell)) (sym same) (m.entries k below)
      by_case (inr (last, same)) =
          subst (IsEntry sig w m.name (slice_index_or (cells sig sizes q.copies) k no_cell)) (sym same)
          (subst (λ j. IsEntry sig w m.name (slice_index_or (cells sig sizes q.copies) j no_cell) v) (sym last) e)

  pub next_value : (v : ℕ) × (v < range_of sizes (symbol_at sig (slice_index_or (cells sig sizes q.copies) (length values) no_cell).symbol)) × MeetsTrial sig q sizes (values ++ v ∷ []) w
  next_value = (value.0, value.1, record { meets = m.meets; name = m.name; naming = m.naming; entries = with_value value.0 value.2 })

pub can_try_value : (sig : Sig) (copies : ℕ) (sizes values : List ℕ) (v : ℕ) → length sizes ≡ sig.sorts → length values < length (cells sig sizes copies) → CanTry sig copies sizes values →
    v < range_of sizes (symbol_at sig (slice_index_or (cells sig sizes copies) (length values) no_cell).symbol) → CanTry sig copies sizes (values ++ v ∷ [])
can_try_value sig copies sizes values v all more can lt = record { sorts = can.sorts; all_sorts = λ k below. all; entries = omega (arith, length_push values v); in_range = in_range }
  where
    in_range : (k : ℕ) → k < length (values ++ v ∷ []) → slice_index (values ++ v ∷ []) k < range_of sizes (symbol_at sig (slice_index_or (cells sig sizes copies) k no_cell).symbol)
    in_range k below = by_case (push-cases values v k below)
      where
        by_case : ((k < length values) × (get_or (values ++ v ∷ []) k 0 ≡ get_or values k 0)) ⊎ ((k ≡ length values) × (get_or (values ++ v ∷ []) k 0 ≡ v)) → slice_index (values ++ v ∷ []) k < range_of sizes (symbol_at sig (slice_index_or (cells sig sizes copies) k no_cell).symbol)
        by_case (inl (in_, same)) = subst (λ u. u < range_of sizes (symbol_at sig (slice_index_or (cells sig sizes copies) k no_cell).symbol)) (sym same) (can.in_range k in_)
        by_case (inr (last, same)) =
            subst (λ u. u < range_of sizes (symbol_at sig (slice_index_or (cells sig sizes copies) k no_cell).symbol)) (sym same)
            (subst (λ j. v < range_of sizes (symbol_at sig (slice_index_or (cells sig sizes copies) j no_cell).symbol)) (sym last) lt)
