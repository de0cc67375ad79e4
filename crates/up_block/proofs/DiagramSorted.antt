-- The diagram of a state is well-sorted.
use Rattle.std.proofs.Common.{◌≡◌, ℕ, ◌+◌, ◌<◌, ◌≤◌, Bool, true, false, cond, List, [], ◌∷◌, length, get_or, map, refl, sym, subst, ◌∙◌, arith}
use Rattle.std.specs.Prelude.{slice_index, nat_eq, nat_lt, ◌&&◌}
use Rattle.std.specs.List.{All, AllZip, range_with_len}
use Rattle.std.proofs.lemmas.Bool.{eqb-true}
use Rattle.std.proofs.lemmas.List.Elements.{All-nil, All-cons, All-head, All-tail, All-append}
use Rattle.fo_core.specs.declared.signature.Sig.{Sig}
use Rattle.fo_core.specs.declared.world.World.{World}
use Rattle.fo_core.specs.Runs.{AreElements}
use Rattle.fo_core.specs.Tables.{symbol_at, no_symbol, entry, arg_sizes}
use Rattle.fo_core.specs.Trials.{element_sorts}
use Rattle.fo_core.specs.Tuples.{all_tuples}
use Rattle.fo_core.proofs.ElementLemmas.{place-below, sorts-length, sorts-at, sorts-known}
use Rattle.fo_core.proofs.ListFacts.{all_flat, all_range, all_mapped}
use Rattle.up_diagram.specs.declared.cube.Flat.{Flat}
use Rattle.up_diagram.specs.declared.cube.Flat.TheVariants.{Differ, Fact, Value}
use Rattle.up_diagram.specs.Cubes.{HasSort, IsApplied, IsFlat, IsCube}
use Rattle.up_diagram.specs.Diagrams.{variable_of, variables_of, pair_at, differ_from, differ, fact_of, facts_of, diagram, CanDescribe}
use Rattle.up_diagram.proofs.Described.{tuple-elements, value-below, result-within}

module _ (sig : Sig) (w : World) (c : ℕ) (can : CanDescribe sig w c) where
  abbrev sorts : List ℕ
  sorts = element_sorts w.sizes

  variable_sort : (s x : ℕ) → s < length w.sizes → x < slice_index w.sizes s → HasSort sorts (variable_of w.sizes s x) s
  variable_sort s x lt below = record {
    within = omega (arith, place-below w.sizes s x lt below, sorts-length w.sizes);
    sort = sorts-at w.sizes s x lt below;
  }

  variable_sorts : (xs ss : List ℕ) → All (λ s. s < length w.sizes) ss → AreElements w.sizes xs ss → AllZip (HasSort sorts) (variables_of w.sizes ss xs) ss
  variable_sorts [] [] known h = tt
  variable_sorts [] (s ∷ ss) known h = absurd h
  variable_sorts (x ∷ xs) [] known h = absurd h
  variable_sorts (x ∷ xs) (s ∷ ss) known h = (
    variable_sort s x (All-head (λ s. s < length w.sizes) s ss known) h.0,
    variable_sorts xs ss (All-tail (λ s. s < length w.sizes) s ss known) h.1,
  )

  pair_flat : (i j : ℕ) → i < length sorts → j < length sorts → All (IsFlat sig sorts) (pair_at sorts i j)
  pair_flat i j first second = by_test (nat_lt i j) (nat_eq (slice_index sorts i) (slice_index sorts j)) refl
    where
      by_test : (a b : Bool) → nat_eq (slice_index sorts i) (slice_index sorts j) ≡ b → All (IsFlat sig sorts) (cond (a && b) (Differ i j ∷ []) [])
      by_test false b is = All-nil (IsFlat sig sorts)
      by_test true false is = All-nil (IsFlat sig sorts)
      by_test true true is =
          All-cons (IsFlat sig sorts) (Differ i j) []
          (record { within = first; sort = eqb-true (slice_index sorts i) (slice_index sorts j) is }, second) (All-nil (IsFlat sig sorts))

  differ_flat : All (IsFlat sig sorts) (differ sorts)
  differ_flat =
      all_flat (IsFlat sig sorts) (differ_from sorts) (range_with_len 0 (length sorts))
      (all_range (λ i. All (IsFlat sig sorts) (differ_from sorts i)) (length sorts)
      (λ i first. all_flat (IsFlat sig sorts) (pair_at sorts i) (range_with_len 0 (length sorts))
      (all_range (λ j. All (IsFlat sig sorts) (pair_at sorts i j)) (length sorts) (λ j second. pair_flat i j first second))))

  args_known : (k : ℕ) → k < length sig.symbols → All (λ s. s < length w.sizes) (symbol_at sig k).args
  args_known k lt = subst (λ n. All (λ s. s < n) (symbol_at sig k).args) (sym can.fits.sorts) (can.signature.sorts k no_symbol lt).args

  applied : (relation : Bool) (k : ℕ) (xs : List ℕ) → k < length sig.symbols → (symbol_at sig k).relation ≡ relation → AreElements w.sizes xs (symbol_at sig k).args →
      IsApplied sig sorts relation k (variables_of w.sizes (symbol_at sig k).args xs)
  applied relation k xs lt is elements = record {
    symbol = lt;
    kind = is;
    arguments = variable_sorts xs (symbol_at sig k).args (args_known k lt) elements;
  }

  fact_flat : (k : ℕ) (xs : List ℕ) → k < length sig.symbols → AreElements w.sizes xs (symbol_at sig k).args → IsFlat sig sorts (fact_of sig w c k xs)
  fact_flat k xs lt elements = by_kind (symbol_at sig k).relation refl
    where
      by_kind : (b : Bool) → (symbol_at sig k).relation ≡ b →
          IsFlat sig sorts (cond b (Fact (nat_eq (entry sig w c k xs) 1) k (variables_of w.sizes (symbol_at sig k).args xs))
          (Value k (variables_of w.sizes (symbol_at sig k).args xs) (variable_of w.sizes (symbol_at sig k).result (entry sig w c k xs))))
      by_kind true is = applied true k xs lt is elements
      by_kind false is = (
        applied false k xs lt is elements,
        variable_sort (symbol_at sig k).result (entry sig w c k xs)
            (result-within sig w c can.fits can.copy can.signature k lt is) (value-below sig w c can.fits can.copy k xs lt is elements),
      )

  facts_flat : (k : ℕ) → k < length sig.symbols → All (IsFlat sig sorts) (facts_of sig w c k)
  facts_flat k lt =
      all_mapped (IsFlat sig sorts) (fact_of sig w c k) (all_tuples (arg_sizes w.sizes (symbol_at sig k)))
      (λ i d less.
      fact_flat k (get_or (all_tuples (arg_sizes w.sizes (symbol_at sig k))) i d) lt
      (tuple-elements w.sizes (symbol_at sig k).args (arg_sizes w.sizes (symbol_at sig k)) (all_tuples (arg_sizes w.sizes (symbol_at sig k))) i d refl refl less))

  pub diagram-sorted : IsCube sig (diagram sig w c)
  diagram-sorted = record {
    sorts = let same = can.fits.sorts in sorts-known w.sizes sig.sorts (omega (arith, same));
    lits =
        All-append (IsFlat sig sorts) (differ sorts) _ differ_flat
        (all_flat (IsFlat sig sorts) (facts_of sig w c) (range_with_len 0 (length sig.symbols))
        (all_range (λ k. All (IsFlat sig sorts) (facts_of sig w c k)) (length sig.symbols) facts_flat));
  }
