-- The variables that name elements: of which sorts they are, and where their values stand.
use Rattle.std.proofs.Common.{◌≡◌, ℕ, zero, suc, ◌+◌, ◌<◌, ◌≤◌, ◌⊎◌, inl, inr, List, [], ◌∷◌, ◌++◌, length, get_or, map, take, refl, sym, ap, subst, ◌∙◌, arith, length-append, add-one, sum}
use Rattle.std.specs.Prelude.{slice_index, replicate}
use Rattle.std.specs.List.{All, flat_map, range_with_len}
use Rattle.std.proofs.lemmas.Bool.{cases_lt}
use Rattle.std.proofs.lemmas.List.{take_more, take_all, length-replicate, get_or-replicate, get_or_past}
use Rattle.std.proofs.lemmas.List.Concat.{flat_map-append, get_or-flat_map}
use Rattle.std.proofs.lemmas.List.Elements.{All-replicate}
use Rattle.std.proofs.lemmas.List.FromFn.{length-range_with_len, get_or-range_with_len, length-map-range_with_len, get_or-map-range_with_len}
use Rattle.std.proofs.lemmas.List.Sums.{sum_by_more, sum_by-take-le}
use Rattle.fo_core.specs.declared.world.World.{World}
use Rattle.fo_core.specs.Runs.{AreElements}
use Rattle.fo_core.proofs.Zips.{AllZip-at, AllZip-each, AllZip-length}
use Rattle.fo_core.specs.Trials.{element_sorts}
use Rattle.fo_core.proofs.ListFacts.{all_flat, all_range, zip_flat}

module _ (sizes : List ℕ) where
  -- lists of these lengths, one for each sort, joined end to end
  module _ (f : ℕ → List ℕ) (sized : (s : ℕ) → s < length sizes → length (f s) ≡ slice_index sizes s) where
    abbrev sorts : List ℕ
    sorts = range_with_len 0 (length sizes)

    sort-at : (s : ℕ) → s < length sizes → get_or sorts s 0 ≡ s
    sort-at s lt = get_or-range_with_len 0 (length sizes) s 0 lt ∙ (let e : 0 + s ≡ s = omega arith in e)

    sort-in : (s : ℕ) → s < length sizes → s < length sorts
    sort-in s lt = omega (arith, length-range_with_len 0 (length sizes))

    -- where the list of a sort begins
    begins : (s : ℕ) → s ≤ length sizes → length (flat_map f (take s sorts)) ≡ sum (take s sizes)
    begins zero le = refl
    begins (suc s) le =
        let lt : s < length sizes = omega arith in
        let before = begins s (omega arith) in
        let there : take (s + 1) sorts ≡ take s sorts ++ s ∷ [] = take_more sorts s 0 (sort-in s lt) ∙ ap (λ k. take s sorts ++ k ∷ []) (sort-at s lt) in
        let joined = ap length (ap (flat_map f) there ∙ flat_map-append f (take s sorts) (s ∷ [])) in
        let here : length (flat_map f (s ∷ [])) ≡ slice_index sizes s = length-append (f s) [] ∙ (let e : length (f s) + length {A = ℕ} [] ≡ slice_index sizes s = omega (arith, sized s lt) in e) in
        let more = sum_by_more (λ x. x) sizes s 0 lt in
        rw (← add-one) (joined ∙ length-append (flat_map f (take s sorts)) (flat_map f (s ∷ [])) ∙ (let e : length (flat_map f (take s sorts)) + length (flat_map f (s ∷ [])) ≡ sum (take s sizes) + slice_index sizes s = omega (arith, before, here) in e) ∙ sym more)

    pub all-length : length (flat_map f sorts) ≡ sum sizes
    all-length =
        let all_sorts : take (length sizes) sorts ≡ sorts = take_all (length sizes) sorts (omega (arith, length-range_with_len 0 (length sizes))) in
        ap (λ ss. length (flat_map f ss)) (sym all_sorts) ∙ begins (length sizes) (omega arith) ∙ ap sum (take_all (length sizes) sizes (omega arith))

    -- what stands at a place of it
    pub stands-at : (s x d : ℕ) → s < length sizes → x < slice_index sizes s → get_or (flat_map f sorts) (sum (take s sizes) + x) d ≡ get_or (f s) x d
    stands-at s x d lt below =
        subst (λ n. get_or (flat_map f sorts) (n + x) d ≡ get_or (f s) x d) (begins s (omega arith))
        (subst (λ k. get_or (flat_map f sorts) (length (flat_map f (take s sorts)) + x) d ≡ get_or (f k) x d) (sort-at s lt)
        (get_or-flat_map f sorts s x 0 d (sort-in s lt) (subst (λ k. x < length (f k)) (sym (sort-at s lt)) (omega (arith, sized s lt)))))

  -- the place of each element is below the number of all
  pub place-below : (s x : ℕ) → s < length sizes → x < slice_index sizes s → sum (take s sizes) + x < sum sizes
  place-below s x lt below = omega (arith, sum_by_more (λ x. x) sizes s 0 lt, sum_by-take-le (λ x. x) sizes (s + 1))

  pub sorts-length : length (element_sorts sizes) ≡ sum sizes
  sorts-length = all-length (λ s. replicate (slice_index sizes s) s) (λ s lt. length-replicate (slice_index sizes s) s)

  -- its variable is of its sort
  pub sorts-at : (s x : ℕ) → s < length sizes → x < slice_index sizes s → get_or (element_sorts sizes) (sum (take s sizes) + x) 0 ≡ s
  sorts-at s x lt below =
      stands-at (λ s. replicate (slice_index sizes s) s) (λ s lt. length-replicate (slice_index sizes s) s) s x 0 lt below
      ∙ get_or-replicate (slice_index sizes s) x s 0 below

  pub sorts-known : (n : ℕ) → length sizes ≤ n → All (λ s. s < n) (element_sorts sizes)
  sorts-known n le =
      all_flat (λ s. s < n) (λ s. replicate (slice_index sizes s) s) (range_with_len 0 (length sizes))
      (all_range (λ s. All (λ s. s < n) (replicate (slice_index sizes s) s)) (length sizes) (λ s lt. All-replicate (λ s. s < n) (slice_index sizes s) s (omega arith)))

  -- the named elements, sort by sort
  abbrev pub name_list : (ℕ → ℕ → ℕ) → List ℕ
  name_list name = flat_map (λ s. map (name s) (range_with_len 0 (slice_index sizes s))) (range_with_len 0 (length sizes))

  -- the variables can have these as their values
  module _ (w : World) (name : ℕ → ℕ → ℕ) where
    pub names-at : (s x : ℕ) → s < length sizes → x < slice_index sizes s → slice_index (name_list name) (sum (take s sizes) + x) ≡ name s x
    names-at s x lt below =
        stands-at (λ s. map (name s) (range_with_len 0 (slice_index sizes s))) (λ s lt. length-map-range_with_len (name s) 0 (slice_index sizes s)) s x 0 lt below
        ∙ get_or-map-range_with_len (name s) 0 (slice_index sizes s) x x 0 below (omega arith)

    pub names-elements : ((s x : ℕ) → s < length sizes → x < slice_index sizes s → name s x < slice_index w.sizes s) → AreElements w.sizes (name_list name) (element_sorts sizes)
    names-elements within =
        zip_flat (λ y s. y < slice_index w.sizes s) (λ s. map (name s) (range_with_len 0 (slice_index sizes s))) (λ s. replicate (slice_index sizes s) s) (range_with_len 0 (length sizes))
        (all_range (λ s. AreElements w.sizes (map (name s) (range_with_len 0 (slice_index sizes s))) (replicate (slice_index sizes s) s)) (length sizes) block)
      where
        block : (s : ℕ) → s < length sizes → AreElements w.sizes (map (name s) (range_with_len 0 (slice_index sizes s))) (replicate (slice_index sizes s) s)
        block s lt = AllZip-each (λ y s. y < slice_index w.sizes s) (map (name s) (range_with_len 0 (slice_index sizes s))) (replicate (slice_index sizes s) s) 0 0 (count ∙ sym (length-replicate (slice_index sizes s) s)) each
          where
            count : length (map (name s) (range_with_len 0 (slice_index sizes s))) ≡ slice_index sizes s
            count = length-map-range_with_len (name s) 0 (slice_index sizes s)

            each : (i : ℕ) → i < length (map (name s) (range_with_len 0 (slice_index sizes s))) → get_or (map (name s) (range_with_len 0 (slice_index sizes s))) i 0 < slice_index w.sizes (get_or (replicate (slice_index sizes s) s) i 0)
            each i below =
                let in_ : i < slice_index sizes s = omega (arith, count) in
                rw (get_or-map-range_with_len (name s) 0 (slice_index sizes s) i i 0 in_ (omega arith), get_or-replicate (slice_index sizes s) i s 0 in_) (within s i lt in_)

  -- values of the variables are elements of their sorts
  pub value-within : (w : World) (vs : List ℕ) → AreElements w.sizes vs (element_sorts sizes) → (s x : ℕ) → s < length sizes → x < slice_index sizes s → slice_index vs (sum (take s sizes) + x) < slice_index w.sizes s
  value-within w vs elements s x lt below =
      let in_ : sum (take s sizes) + x < length vs = omega (arith, AllZip-length (λ y s. y < slice_index w.sizes s) vs (element_sorts sizes) elements, sorts-length, place-below s x lt below) in
      subst (λ k. slice_index vs (sum (take s sizes) + x) < slice_index w.sizes k) (sorts-at s x lt below)
      (AllZip-at (λ y s. y < slice_index w.sizes s) vs (element_sorts sizes) (sum (take s sizes) + x) 0 0 elements in_)

  pub values-count : (w : World) (vs : List ℕ) → AreElements w.sizes vs (element_sorts sizes) → length vs ≡ sum sizes
  values-count w vs elements = AllZip-length (λ y s. y < slice_index w.sizes s) vs (element_sorts sizes) elements ∙ sorts-length

-- a sort that has an element is one of the sorts
pub sort_known : (sizes : List ℕ) (s x : ℕ) → x < slice_index sizes s → s < length sizes
sort_known sizes s x lt = by_case (cases_lt s (length sizes))
  where
    by_case : (s < length sizes) ⊎ (length sizes ≤ s) → s < length sizes
    by_case (inl h) = h
    by_case (inr h) = absurd (omega (arith, get_or_past sizes s 0 h))
