-- The diagram of a state is well-sorted.
use Rattle.std.proofs.Common.{◌≡◌, ℕ, ◌<◌, Bool, true, false, cond, ◌&&◌, nat_eq, nat_lt, List, [], ◌∷◌, length, get_or, refl, sym, subst, arith, eqb-true}
use Rattle.std.specs.Prelude.{slice_index}
use Rattle.std.specs.List.{All, AllZip, flat_map, range_with_len}
use Rattle.std.proofs.lemmas.List.Elements.{All-nil, All-cons, All-head, All-tail, All-append}
use Rattle.fo_core.specs.declared.signature.Sig.{Sig}
use Rattle.fo_core.specs.declared.world.World.{World}
use Rattle.fo_core.specs.Runs.{AreElements}
use Rattle.fo_core.specs.Sorted.{IsSig}
use Rattle.fo_core.specs.Tables.{no_symbol, symbol_at, arg_sizes, entry, Fits}
use Rattle.fo_core.specs.Trials.{element_sorts}
use Rattle.fo_core.specs.Tuples.{all_tuples}
use Rattle.fo_core.proofs.ElementLemmas.{place-below, sorts-length, sorts-at, sorts-known}
use Rattle.fo_core.proofs.ListFacts.{all_flat, all_range, all_mapped}
use Rattle.up_diagram.specs.declared.cube.Flat.TheVariants.{Differ, Fact, Value}
use Rattle.up_diagram.specs.Cubes.{HasSort, IsApplied, IsFlat, IsCube}
use Rattle.up_diagram.specs.Diagrams.{variable_of, variables_of, pair_at, differ_from, differ, fact_of, facts_of, diagram}
use Rattle.up_diagram.proofs.Described.{tuple-elements, value-below, result-within}
use Rattle.up_machine.proofs.Lists.{second_true}

-- variables that differ have one sort
module _ (sig : Sig) (sorts : List ℕ) where
  pair_flat : (i j : ℕ) → i < length sorts → j < length sorts → All (IsFlat sig sorts) (pair_at sorts i j)
  pair_flat i j low high = by (nat_lt i j && nat_eq (slice_index sorts i) (slice_index sorts j)) refl
    where
      by : (b : Bool) → (nat_lt i j && nat_eq (slice_index sorts i) (slice_index sorts j)) ≡ b → All (IsFlat sig sorts) (cond b (Differ i j ∷ []) [])
      by true e =
          let same = eqb-true (slice_index sorts i) (slice_index sorts j) (second_true (nat_lt i j) (nat_eq (slice_index sorts i) (slice_index sorts j)) e) in
          All-cons (IsFlat sig sorts) (Differ i j) [] (record { within = low; sort = same }, high) (All-nil (IsFlat sig sorts))
      by false e = All-nil (IsFlat sig sorts)

  differ_flat : All (IsFlat sig sorts) (differ sorts)
  differ_flat =
      all_flat (IsFlat sig sorts) (differ_from sorts) (range_with_len 0 (length sorts))
      (all_range (λ i. All (IsFlat sig sorts) (differ_from sorts i)) (length sorts)
      (λ i low.
      all_flat (IsFlat sig sorts) (pair_at sorts i) (range_with_len 0 (length sorts))
      (all_range (λ j. All (IsFlat sig sorts) (pair_at sorts i j)) (length sorts) (λ j high. pair_flat i j low high))))

module _ (sig : Sig) (w : World) (c : ℕ) (known : IsSig sig) (fits : Fits sig w) (there : c < length w.copies) where
  abbrev sorts : List ℕ
  sorts = element_sorts w.sizes

  -- the variable of an element has its sort
  variable_sorted : (s x : ℕ) → s < length w.sizes → x < slice_index w.sizes s → HasSort sorts (variable_of w.sizes s x) s
  variable_sorted s x lt below = record {
    within = omega (arith, sorts-length w.sizes, place-below w.sizes s x lt below);
    sort = sorts-at w.sizes s x lt below;
  }

  variables_sorted : (ss xs : List ℕ) → All (λ s. s < sig.sorts) ss → AreElements w.sizes xs ss → AllZip (HasSort sorts) (variables_of w.sizes ss xs) ss
  variables_sorted [] [] low h = tt
  variables_sorted [] (x ∷ xs) low h = absurd h
  variables_sorted (s ∷ ss) [] low h = absurd h
  variables_sorted (s ∷ ss) (x ∷ xs) low h = (
    variable_sorted s x (subst (λ n. s < n) (sym fits.sorts) (All-head (λ s. s < sig.sorts) s ss low)) h.0,
    variables_sorted ss xs (All-tail (λ s. s < sig.sorts) s ss low) h.1,
  )

  fact_flat : (k : ℕ) → k < length sig.symbols → (xs : List ℕ) → AreElements w.sizes xs (symbol_at sig k).args → IsFlat sig sorts (fact_of sig w c k xs)
  fact_flat k lt xs elements = by (symbol_at sig k).relation refl
    where
      arguments : AllZip (HasSort sorts) (variables_of w.sizes (symbol_at sig k).args xs) (symbol_at sig k).args
      arguments = variables_sorted (symbol_at sig k).args xs (known.sorts k no_symbol lt).args elements

      applied : (b : Bool) → (symbol_at sig k).relation ≡ b → IsApplied sig sorts b k (variables_of w.sizes (symbol_at sig k).args xs)
      applied b e = record { symbol = lt; kind = e; arguments = arguments }

      by : (b : Bool) → (symbol_at sig k).relation ≡ b →
          IsFlat sig sorts (cond b (Fact (nat_eq (entry sig w c k xs) 1) k (variables_of w.sizes (symbol_at sig k).args xs))
          (Value k (variables_of w.sizes (symbol_at sig k).args xs) (variable_of w.sizes (symbol_at sig k).result (entry sig w c k xs))))
      by true e = applied true e
      by false e = (
        applied false e,
        variable_sorted (symbol_at sig k).result (entry sig w c k xs) (result-within sig w c fits there known k lt e) (value-below sig w c fits there k xs lt e elements),
      )

  facts_flat : (k : ℕ) → k < length sig.symbols → All (IsFlat sig sorts) (facts_of sig w c k)
  facts_flat k lt =
      let tuples = all_tuples (arg_sizes w.sizes (symbol_at sig k)) in
      all_mapped (IsFlat sig sorts) (fact_of sig w c k) tuples
      (λ i xs below. fact_flat k lt (get_or tuples i xs) (tuple-elements w.sizes (symbol_at sig k).args (arg_sizes w.sizes (symbol_at sig k)) tuples i xs refl refl below))

  pub diagram_sorted : IsCube sig (diagram sig w c)
  diagram_sorted = record {
    sorts = sorts-known w.sizes sig.sorts (omega (arith, fits.sorts));
    lits =
        All-append (IsFlat sig sorts) (differ sorts) (flat_map (facts_of sig w c) (range_with_len 0 (length sig.symbols))) (differ_flat sig sorts)
        (all_flat (IsFlat sig sorts) (facts_of sig w c) (range_with_len 0 (length sig.symbols))
        (all_range (λ k. All (IsFlat sig sorts) (facts_of sig w c k)) (length sig.symbols) facts_flat));
  }
