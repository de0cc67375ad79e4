-- The place of a tuple of elements, reckoned from the left.
use Rattle.std.proofs.Common.{◌≡◌, ℕ, ◌+◌, ◌*◌, ◌<◌, ◌≤◌, ◌^◌, List, [], ◌∷◌, length, get_or, map, drop, sym, subst, ◌∙◌, arith, inl, inr, ◌⊎◌}
use Rattle.std.specs.List.{All, AllZip}
use Rattle.std.specs.Prelude.{slice_index}
use Rattle.std.proofs.Math.ListN.{drop_of_length-le}
use Rattle.std.proofs.lemmas.Bool.{cases_lt}
use Rattle.std.proofs.lemmas.List.{get_or_past, get_or-map}
use Rattle.std.proofs.lemmas.List.Elements.{All-nil, All-cons, All-drop}
use Rattle.fo_core.specs.Tables.{tuples, place}
use Rattle.fo_core.specs.Runs.{AreElements}
use Rattle.fo_core.proofs.TableLemmas.{tuples-positive, place-lt}
use Rattle.fo_core.proofs.ValueLemmas.{horner, horner-le}
use Rattle.fo_core.proofs.Zips.{AllZip-length, AllZip-at}

-- sizes above some elements are at least 1
pub above_some : (xs ns : List ℕ) → AllZip (λ x n. x < n) xs ns → All (λ n. 1 ≤ n) ns
above_some [] [] h = All-nil (λ n. 1 ≤ n)
above_some [] (n ∷ ns) h = absurd h
above_some (x ∷ xs) [] h = absurd h
above_some (x ∷ xs) (n ∷ ns) h = All-cons (λ n. 1 ≤ n) n ns (omega (arith, h.0)) (above_some xs ns h.1)

-- elements of some sorts are below the sorts' sizes
pub elements-below : (sizes xs sorts : List ℕ) → AreElements sizes xs sorts → AllZip (λ x n. x < n) xs (map (slice_index sizes) sorts)
elements-below sizes [] [] h = tt
elements-below sizes [] (s ∷ sorts) h = absurd h
elements-below sizes (x ∷ xs) [] h = absurd h
elements-below sizes (x ∷ xs) (s ∷ sorts) h = (h.0, elements-below sizes xs sorts h.1)

module _ (xs ns : List ℕ) (below : AllZip (λ x n. x < n) xs ns) where
  same_length : length xs ≡ length ns
  same_length = AllZip-length (λ x n. x < n) xs ns below

  module _ (i acc : ℕ) (so_far : acc * tuples (drop i ns) + place (drop i ns) (drop i xs) ≡ place ns xs) where
    pub place_more : i < length xs → (acc * get_or ns i 0 + get_or xs i 0) * tuples (drop (i + 1) ns) + place (drop (i + 1) ns) (drop (i + 1) xs) ≡ place ns xs
    place_more lt = sym (horner ns xs i acc (omega (arith, same_length)) lt) ∙ so_far

    pub place_fits : i < length xs → tuples ns < 2 ^ 64 → acc * get_or ns i 0 + get_or xs i 0 < 2 ^ 64
    place_fits lt few =
        let sized : 1 ≤ tuples (drop (i + 1) ns) = tuples-positive (drop (i + 1) ns) (All-drop (λ n. 1 ≤ n) (i + 1) ns (above_some xs ns below)) in
        let le : acc * get_or ns i 0 + get_or xs i 0 ≤ place ns xs = horner-le _ _ _ _ (place_more lt) sized in
        let within : place ns xs < tuples ns = place-lt ns xs below in
        omega arith

    pub place_done : length xs ≤ i → acc ≡ place ns xs
    place_done le =
        let none : drop i ns ≡ [] = drop_of_length-le ns (omega (arith, same_length)) in
        omega (arith, subst (λ (ms : List ℕ). acc * tuples ms + place ms (drop i xs) ≡ place ns xs) none so_far)

module _ (sizes sorts xs : List ℕ) (elements : AreElements sizes xs sorts) where
  pub sort_count : length xs ≡ length sorts
  sort_count = AllZip-length (λ x s. x < slice_index sizes s) xs sorts elements

  pub sort_within : (i : ℕ) → i < length xs → get_or sorts i 0 < length sizes
  sort_within i lt = by_cases (cases_lt (get_or sorts i 0) (length sizes))
    where
      above : get_or xs i 0 < slice_index sizes (get_or sorts i 0)
      above = AllZip-at (λ x s. x < slice_index sizes s) xs sorts i 0 0 elements lt

      by_cases : (get_or sorts i 0 < length sizes) ⊎ (length sizes ≤ get_or sorts i 0) → get_or sorts i 0 < length sizes
      by_cases (inl h) = h
      by_cases (inr h) = absurd (omega (arith, above, get_or_past sizes (get_or sorts i 0) 0 h))

  pub size_at : (i : ℕ) → i < length xs → get_or (map (slice_index sizes) sorts) i 0 ≡ slice_index sizes (get_or sorts i 0)
  size_at i lt = get_or-map (slice_index sizes) sorts i 0 0 (omega (arith, sort_count))
