-- The queries that are asked are those of the settled numbers, in turn, and so those of the least world.
use Rattle.std.proofs.Common.{◌≡◌, ℕ, Bool, true, false, ◌⊎◌, inl, inr, ◌+◌, ◌-◌, ◌<◌, ◌≤◌, List, [], ◌∷◌, ◌++◌, length, take, refl, sym, ap, subst, ◌∙◌, arith}
use Rattle.std.specs.Prelude.{slice_index}
use Rattle.std.specs.List.{flat_map, range_with_len}
use Rattle.std.proofs.lemmas.Bool.{cases_lt}
use Rattle.std.proofs.lemmas.List.{append-nil, take_all, append_assoc, take-take, get_or-take}
use Rattle.fo_core.specs.declared.query.Query.{Query}
use Rattle.fo_core.specs.declared.signature.Sig.{Sig}
use Rattle.fo_core.specs.declared.world.World.{World}
use Rattle.fo_core.specs.Queries.{IsQuery}
use Rattle.fo_core.specs.Finds.{HasWorld, HasNoWorld}
use Rattle.fo_core.specs.Sorted.{IsSig}
use Rattle.fo_core.specs.Asked.{is_relation_at, IsNextSize, AreNextSizes, IsNextValue, AreNextValues, tried, size_trials, value_trials, queries_for, least_queries, IsAsked, at_first, for_size, for_value}
use Rattle.fo_core.specs.Cells.{cells}
use Rattle.fo_core.specs.Least.{world_values, IsLeast}
use Rattle.fo_core.specs.Trials.{trial}
use Rattle.fo_least.proofs.Beginnings.{Leads, leads-behind, leads-front, leads-range, leads-flat}
use Rattle.fo_least.proofs.CellValues.{values-length}
use Rattle.fo_least.proofs.LeastSettles.{least-sizes, least-values, sizes-only, values-only}
use Rattle.fo_core.proofs.ListFacts.{all_range}
use Rattle.fo_core.proofs.Pieces.{flat_map-agree}

module _ (sig : Sig) (q : Query) where
  -- the trials of the sizes of one sort, and of the values of one entry
  abbrev sizes_of : List ℕ → ℕ → List Query
  sizes_of sizes s = size_trials sig q (take s sizes) (slice_index sizes s)

  abbrev values_of : List ℕ → List ℕ → ℕ → List Query
  values_of sizes values k = value_trials sig q sizes (take k values) (tried sig q (is_relation_at sig q sizes k) (slice_index values k))

  -- those of a beginning are those of the whole
  sizes-begun : (sizes all : List ℕ) (n : ℕ) → sizes ≡ take n all → flat_map (sizes_of sizes) (range_with_len 0 n) ≡ flat_map (sizes_of all) (range_with_len 0 n)
  sizes-begun sizes all n e = flat_map-agree (sizes_of sizes) (sizes_of all) (range_with_len 0 n) (all_range (λ s. sizes_of sizes s ≡ sizes_of all s) n at)
    where
      at : (s : ℕ) → s < n → sizes_of sizes s ≡ sizes_of all s
      at s lt =
          ap (λ ns. size_trials sig q (take s ns) (slice_index ns s)) e
          ∙ ap (λ ns. size_trials sig q ns (slice_index (take n all) s)) (take-take s n all (omega arith))
          ∙ ap (size_trials sig q (take s all)) (get_or-take n all s 0 lt)

  values-begun : (sizes values all : List ℕ) (n : ℕ) → values ≡ take n all → flat_map (values_of sizes values) (range_with_len 0 n) ≡ flat_map (values_of sizes all) (range_with_len 0 n)
  values-begun sizes values all n e = flat_map-agree (values_of sizes values) (values_of sizes all) (range_with_len 0 n) (all_range (λ k. values_of sizes values k ≡ values_of sizes all k) n at)
    where
      at : (k : ℕ) → k < n → values_of sizes values k ≡ values_of sizes all k
      at k lt =
          ap (λ vs. values_of sizes vs k) e
          ∙ ap (λ vs. value_trials sig q sizes vs (tried sig q (is_relation_at sig q sizes k) (slice_index (take n all) k))) (take-take k n all (omega arith))
          ∙ ap (λ v. value_trials sig q sizes (take k all) (tried sig q (is_relation_at sig q sizes k) v)) (get_or-take n all k 0 lt)

  -- settled sizes, and settled values, begin all that are settled
  pub sizes-begin : (sizes all : List ℕ) → AreNextSizes sig q sizes → AreNextSizes sig q all → length sizes ≤ length all → sizes ≡ take (length sizes) all
  sizes-begin sizes all next next_all le =
      sym (take_all (length sizes) sizes (omega arith)) ∙ sizes-only sig q sizes all next next_all (length sizes) (omega arith) le

  pub values-begin : (sizes values all : List ℕ) → AreNextValues sig q sizes values → AreNextValues sig q sizes all → length values ≤ length all → values ≡ take (length values) all
  values-begin sizes values all next next_all le =
      sym (take_all (length values) values (omega arith)) ∙ values-only sig q sizes values all next next_all (length values) (omega arith) le

  -- the trials of the next size stand among those of the settled sizes
  module _ (sizes : List ℕ) (n : ℕ) (none : (m : ℕ) → m < n → HasNoWorld sig (trial sig q (sizes ++ (m + 1) ∷ []) [])) where
    abbrev tried_size : Query
    tried_size = trial sig q (sizes ++ (n + 1) ∷ []) []

    size-among : (size : ℕ) → IsNextSize sig q sizes size → n < size
    size-among size next = by_case (cases_lt n size)
      where
        by_case : (n < size) ⊎ (size ≤ n) → n < size
        by_case (inl lt) = lt
        by_case (inr le) =
            let some = next.positive in
            let e : (size - 1) + 1 ≡ size = omega arith in
            let has = subst (λ m. HasWorld sig (trial sig q (sizes ++ m ∷ []) [])) (sym e) next.some in
            absurd (none (size - 1) (omega arith) has.0 has.1)

    pub leads-size : (all values : List ℕ) → AreNextSizes sig q sizes → AreNextSizes sig q all → length sizes < length all →
        Leads (queries_for sig q sizes [] ++ size_trials sig q sizes n) tried_size (queries_for sig q all values)
    leads-size all values next next_all known =
        subst (λ qs. Leads ((q ∷ qs) ++ size_trials sig q sizes n) tried_size (queries_for sig q all values)) (sym (append-nil (flat_map (sizes_of sizes) (range_with_len 0 (length sizes)))))
        (subst (λ qs. Leads ((q ∷ qs) ++ size_trials sig q sizes n) tried_size (queries_for sig q all values)) (sym (sizes-begun sizes all (length sizes) begin))
        (leads-behind (q ∷ []) _ tried_size _
        (leads-front _ tried_size (flat_map (sizes_of all) (range_with_len 0 (length all))) (flat_map (values_of all values) (range_with_len 0 (length values)))
        (leads-flat (sizes_of all) (length sizes) (length all) (size_trials sig q sizes n) tried_size known here))))
      where
        begin : sizes ≡ take (length sizes) all
        begin = sizes-begin sizes all next next_all (omega (arith, known))

        among : n < slice_index all (length sizes)
        among = size-among (slice_index all (length sizes)) (subst (λ ns. IsNextSize sig q ns (slice_index all (length sizes))) (sym begin) (next_all (length sizes) known))

        here : Leads (size_trials sig q sizes n) tried_size (sizes_of all (length sizes))
        here =
            subst (λ ns. Leads (size_trials sig q sizes n) tried_size (size_trials sig q ns (slice_index all (length sizes)))) begin
            (leads-range (λ m. trial sig q (sizes ++ (m + 1) ∷ []) []) n (slice_index all (length sizes)) among)

  -- the trials of the next value stand among those of the settled values
  module _ (sizes values : List ℕ) (v : ℕ) (one : is_relation_at sig q sizes (length values) ≡ true → v ≡ 0) (none : (u : ℕ) → u < v → HasNoWorld sig (trial sig q sizes (values ++ u ∷ []))) where
    abbrev tried_value : Query
    tried_value = trial sig q sizes (values ++ v ∷ [])

    abbrev kind : Bool
    kind = is_relation_at sig q sizes (length values)

    value-among : (b : Bool) (value : ℕ) → (b ≡ true → v ≡ 0) → IsNextValue sig q b sizes values value → v < tried sig q b value
    value-among true value first next = let e = first refl in omega arith
    value-among false value first next = by_case (cases_lt value v)
      where
        by_case : (value < v) ⊎ (v ≤ value) → v < value + 1
        by_case (inl lt) = absurd (none value lt next.some.0 next.some.1)
        by_case (inr le) = omega arith

    pub leads-value : (all : List ℕ) → AreNextValues sig q sizes values → AreNextValues sig q sizes all → length values < length all →
        Leads (queries_for sig q sizes values ++ value_trials sig q sizes values v) tried_value (queries_for sig q sizes all)
    leads-value all next next_all known =
        subst (λ qs. Leads ((q ∷ (flat_map (sizes_of sizes) (range_with_len 0 (length sizes)) ++ qs)) ++ value_trials sig q sizes values v) tried_value (queries_for sig q sizes all))
        (sym (values-begun sizes values all (length values) begin))
        (leads-behind (q ∷ []) _ tried_value _
        (subst (λ qs. Leads qs tried_value (flat_map (sizes_of sizes) (range_with_len 0 (length sizes)) ++ flat_map (values_of sizes all) (range_with_len 0 (length all))))
        (sym (append_assoc (flat_map (sizes_of sizes) (range_with_len 0 (length sizes))) (flat_map (values_of sizes all) (range_with_len 0 (length values))) (value_trials sig q sizes values v)))
        (leads-behind (flat_map (sizes_of sizes) (range_with_len 0 (length sizes))) _ tried_value _
        (leads-flat (values_of sizes all) (length values) (length all) (value_trials sig q sizes values v) tried_value known here))))
      where
        begin : values ≡ take (length values) all
        begin = values-begin sizes values all next next_all (omega (arith, known))

        among : v < tried sig q kind (slice_index all (length values))
        among = value-among kind (slice_index all (length values)) one (subst (λ vs. IsNextValue sig q kind sizes vs (slice_index all (length values))) (sym begin) (next_all (length values) known))

        here : Leads (value_trials sig q sizes values v) tried_value (values_of sizes all (length values))
        here =
            subst (λ vs. Leads (value_trials sig q sizes values v) tried_value (value_trials sig q sizes vs (tried sig q kind (slice_index all (length values))))) begin
            (leads-range (λ u. trial sig q sizes (values ++ u ∷ [])) v (tried sig q kind (slice_index all (length values))) among)

-- each query that is asked stands among those of the least world, after those asked before it
pub asked_leads : (sig : Sig) (q : Query) (before : List Query) (p : Query) (w : World) → IsSig sig → IsQuery sig q → IsAsked sig q before p → IsLeast sig q w → (after : List Query) × (before ++ p ∷ after ≡ least_queries sig q w)
asked_leads sig q before p w is sorted asked least = at before p asked
  where
    own_sizes : AreNextSizes sig q w.sizes
    own_sizes = least-sizes sig q is sorted w least

    own_values : AreNextValues sig q w.sizes (world_values w)
    own_values = least-values sig q is sorted w least

    sorts : length w.sizes ≡ sig.sorts
    sorts = least.meets.fits.sorts

    at : (before : List Query) (p : Query) → IsAsked sig q before p → Leads before p (least_queries sig q w)
    at _ _ at_first = (_, refl)
    at _ _ (for_size sizes n some next more none) = leads-size sig q sizes n none w.sizes (world_values w) next own_sizes (omega (arith, sorts, more))
    at _ _ (for_value sizes values v some next all next_values more one none) =
        subst (λ ns. Leads (queries_for sig q sizes values ++ value_trials sig q sizes values v) (trial sig q sizes (values ++ v ∷ [])) (queries_for sig q ns (world_values w))) same
        (leads-value sig q sizes values v one none (world_values w) next_values (subst (λ ns. AreNextValues sig q ns (world_values w)) (sym same) own_values) known)
      where
        same : sizes ≡ w.sizes
        same = sizes-begin sig q sizes w.sizes next own_sizes (omega (arith, sorts, all)) ∙ take_all (length sizes) w.sizes (omega (arith, sorts, all))

        known : length values < length (world_values w)
        known =
            subst (λ n. length values < n)
            (ap (λ ns. length (cells sig ns q.copies)) same ∙ ap (λ n. length (cells sig w.sizes n)) (sym least.meets.copies) ∙ sym (values-length sig w least.meets.fits)) more
