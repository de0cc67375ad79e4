-- What is said of a state, variable by variable: the variables of elements, and values in range.
use Rattle.std.proofs.Common.{◌≡◌, ℕ, zero, suc, false, cond, ◌+◌, ◌<◌, ◌≤◌, List, [], ◌∷◌, ◌++◌, length, get_or, map, take, refl, sym, ap, subst, ◌∙◌, arith, append_assoc, sum}
use Rattle.std.specs.Prelude.{slice_index}
use Rattle.std.specs.List.{All, AllZip, flat_map, range_with_len}
use Rattle.std.proofs.lemmas.List.{take_all}
use Rattle.std.proofs.lemmas.List.Elements.{All-head, All-tail}
use Rattle.std.proofs.lemmas.List.Sums.{sum_by-cons}
use Rattle.fo_core.specs.declared.signature.Sig.{Sig}
use Rattle.fo_core.specs.declared.world.World.{World}
use Rattle.fo_core.specs.Runs.{AreElements}
use Rattle.fo_core.specs.Sorted.{IsSig}
use Rattle.fo_core.specs.Tables.{symbol_at, no_symbol, entry, place, table_of, arg_sizes, range_of, Fits}
use Rattle.fo_core.proofs.Pieces.{flat_map_more}
use Rattle.fo_core.specs.Tuples.{all_tuples}
use Rattle.fo_core.proofs.PlaceLemmas.{elements-below, sort_count, sort_within}
use Rattle.fo_core.proofs.TupleLemmas.{tuples-below}
use Rattle.fo_core.proofs.Zips.{AllZip-at}
use Rattle.fo_core.proofs.TableLemmas.{table_is, place-lt}
use Rattle.fo_core.proofs.ElementLemmas.{place-below}
use Rattle.up_diagram.specs.Diagrams.{variable_of, variables_of, CanDescribe, AreFirsts}

-- one block more
module _ {X : Type 0} (f : ℕ → List X) (n : ℕ) (old before now : List X) where
  pub flat-step : before ≡ old ++ flat_map f (range_with_len 0 n) → now ≡ before ++ f n → now ≡ old ++ flat_map f (range_with_len 0 (n + 1))
  flat-step b e = e ∙ ap (λ xs. xs ++ f n) b ∙ append_assoc old (flat_map f (range_with_len 0 n)) (f n) ∙ ap (λ xs. old ++ xs) (sym (flat_map_more f n))

-- one variable more
variables-next : (sizes ss xs : List ℕ) (i : ℕ) → i < length ss → i < length xs →
    variables_of sizes (take (suc i) ss) (take (suc i) xs) ≡ variables_of sizes (take i ss) (take i xs) ++ variable_of sizes (get_or ss i 0) (get_or xs i 0) ∷ []
variables-next sizes [] xs i lt below = absurd (omega (arith, lt))
variables-next sizes (s ∷ ss) [] i lt below = absurd (omega (arith, below))
variables-next sizes (s ∷ ss) (x ∷ xs) zero lt below = refl
variables-next sizes (s ∷ ss) (x ∷ xs) (suc i) lt below = ap (λ vs. variable_of sizes s x ∷ vs) (variables-next sizes ss xs i (omega (arith, lt)) (omega (arith, below)))

pub variables-more : (sizes ss xs : List ℕ) (i : ℕ) → i < length ss → i < length xs →
    variables_of sizes (take (i + 1) ss) (take (i + 1) xs) ≡ variables_of sizes (take i ss) (take i xs) ++ variable_of sizes (get_or ss i 0) (get_or xs i 0) ∷ []
variables-more sizes ss xs i lt below =
    let e : suc i ≡ i + 1 = omega arith in
    subst (λ n. variables_of sizes (take n ss) (take n xs) ≡ variables_of sizes (take i ss) (take i xs) ++ variable_of sizes (get_or ss i 0) (get_or xs i 0) ∷ []) e
    (variables-next sizes ss xs i lt below)

module _ (sizes firsts : List ℕ) (first : AreFirsts sizes firsts) (ss xs : List ℕ) (elements : AreElements sizes xs ss) (i : ℕ) where
  pub variable-below : i < length xs → slice_index firsts (get_or ss i 0) + get_or xs i 0 < sum sizes
  variable-below lt =
      let within = sort_within sizes ss xs elements i lt in
      let below = AllZip-at (λ x s. x < slice_index sizes s) xs ss i 0 0 elements lt in
      omega (arith, first.each (get_or ss i 0) within, place-below sizes (get_or ss i 0) (get_or xs i 0) within below)

  pub variables-step : (list now : List ℕ) → i < length xs → list ≡ variables_of sizes (take i ss) (take i xs) → now ≡ list ++ (slice_index firsts (get_or ss i 0) + get_or xs i 0) ∷ [] → now ≡ variables_of sizes (take (i + 1) ss) (take (i + 1) xs)
  variables-step list now lt so_far e =
      e ∙ ap (λ vs. vs ++ (slice_index firsts (get_or ss i 0) + get_or xs i 0) ∷ []) so_far
      ∙ ap (λ n. variables_of sizes (take i ss) (take i xs) ++ (n + get_or xs i 0) ∷ []) (first.each (get_or ss i 0) (sort_within sizes ss xs elements i lt))
      ∙ sym (variables-more sizes ss xs i (omega (arith, lt, sort_count sizes ss xs elements)) lt)

  pub variables-done : (list : List ℕ) → length xs ≤ i → list ≡ variables_of sizes (take i ss) (take i xs) → list ≡ variables_of sizes ss xs
  variables-done list le so_far =
      so_far ∙ ap (λ ys. variables_of sizes ys (take i xs)) (take_all i ss (omega (arith, le, sort_count sizes ss xs elements))) ∙ ap (variables_of sizes ss) (take_all i xs le)

-- elements below the sizes of some sorts are elements of these
pub below-elements : (sizes xs sorts : List ℕ) → AllZip (λ x n. x < n) xs (map (slice_index sizes) sorts) → AreElements sizes xs sorts
below-elements sizes [] [] h = tt
below-elements sizes [] (s ∷ sorts) h = absurd h
below-elements sizes (x ∷ xs) [] h = absurd h
below-elements sizes (x ∷ xs) (s ∷ sorts) h = (h.0, below-elements sizes xs sorts h.1)

pub tuple-elements : (sizes sorts ns : List ℕ) (tuples : List (List ℕ)) (i : ℕ) (d : List ℕ) → tuples ≡ all_tuples ns → ns ≡ map (slice_index sizes) sorts → i < length tuples → AreElements sizes (get_or tuples i d) sorts
tuple-elements sizes sorts ns tuples i d e same lt =
    let all = e ∙ ap all_tuples same in
    let below = subst (All (λ xs. AllZip (λ x n. x < n) xs (map (slice_index sizes) sorts))) (sym all) (tuples-below (map (slice_index sizes) sorts)) in
    below-elements sizes (get_or tuples i d) sorts (below i d lt)

-- no more sorts than elements
pub sorts-few : (sizes : List ℕ) → All (λ n. 1 ≤ n) sizes → length sizes ≤ sum sizes
sorts-few [] h = omega arith
sorts-few (n ∷ sizes) h =
    let one = All-head (λ n. 1 ≤ n) n sizes h in
    let more = sorts-few sizes (All-tail (λ n. 1 ≤ n) n sizes h) in
    let e : sum (n ∷ sizes) ≡ n + sum sizes = sum_by-cons (λ x. x) n sizes in
    omega (arith, one, more, e)

module _ (sig : Sig) (w : World) (c : ℕ) (fits : Fits sig w) (copy : c < length w.copies) where
  -- a value is in its symbol's range
  pub entry-below : (k : ℕ) (xs : List ℕ) → k < length sig.symbols → AreElements w.sizes xs (symbol_at sig k).args → entry sig w c k xs < range_of w.sizes (symbol_at sig k)
  entry-below k xs within elements =
      let table = table_is sig w c k fits within (λ m. copy) in
      let at = place (arg_sizes w.sizes (symbol_at sig k)) xs in
      let lt : at < length (table_of sig w c k).values = subst (λ n. at < n) (sym table.total) (place-lt (arg_sizes w.sizes (symbol_at sig k)) xs (elements-below w.sizes xs (symbol_at sig k).args elements)) in
      table.in_range at 0 lt

  -- so a function's value is an element of the sort of its result
  pub value-below : (k : ℕ) (xs : List ℕ) → k < length sig.symbols → (symbol_at sig k).relation ≡ false → AreElements w.sizes xs (symbol_at sig k).args → entry sig w c k xs < slice_index w.sizes (symbol_at sig k).result
  value-below k xs within function elements = subst (λ b. entry sig w c k xs < cond b 2 (slice_index w.sizes (symbol_at sig k).result)) function (entry-below k xs within elements)

  pub result-within : IsSig sig → (k : ℕ) → k < length sig.symbols → (symbol_at sig k).relation ≡ false → (symbol_at sig k).result < length w.sizes
  result-within is k within function = let lt = (is.sorts k no_symbol within).result function in subst (λ n. (symbol_at sig k).result < n) (sym fits.sorts) lt

-- the variable of a function's value is one of them
pub value-variable : (sig : Sig) (w : World) (c : ℕ) (firsts : List ℕ) → CanDescribe sig w c → AreFirsts w.sizes firsts → (k : ℕ) (xs : List ℕ) → k < length sig.symbols → (symbol_at sig k).relation ≡ false → AreElements w.sizes xs (symbol_at sig k).args →
    slice_index firsts (symbol_at sig k).result + entry sig w c k xs < sum w.sizes
value-variable sig w c firsts can first k xs within function elements =
    let known = result-within sig w c can.fits can.copy can.signature k within function in
    let below = value-below sig w c can.fits can.copy k xs within function elements in
    omega (arith, first.each (symbol_at sig k).result known, place-below w.sizes (symbol_at sig k).result (entry sig w c k xs) known below)
