-- A slot as a number in mixed radix, reckoned from the left.
use Rattle.std.proofs.Common.{◌≡◌, ℕ, zero, suc, Bool, ◌+◌, ◌-◌, ◌*◌, ◌<◌, ◌≤◌, ◌^◌, min, max, List, [], ◌∷◌, length, get_or, map, drop, refl, sym, ap, subst, ◌∙◌, arith}
use Rattle.std.specs.List.{All, AllZip}
use Rattle.std.specs.Prelude.{slice_index}
use Rattle.std.proofs.Math.ListN.{drop_of_length-le}
use Rattle.std.proofs.lemmas.List.{get_or-map, length-map}
use Rattle.std.proofs.lemmas.List.Elements.{All-nil, All-cons, All-drop, AllZip-get_or, length_all_zip}
use Rattle.fo_core.specs.Tables.{symbol_at, tuples, place}
use Rattle.fo_core.specs.Sorted.{IsSymbol}
use Rattle.fo_core.proofs.TableLemmas.{tuples-positive}
use Rattle.fo_core.proofs.ValueLemmas.{horner, horner-le}
use Rattle.fo_terms.specs.declared.terms.Universe.{Universe}
use Rattle.fo_terms.specs.Universe.{IsOf, AreOf}
use Rattle.fo_ground.specs.declared.layout.Layout.{Layout}
use Rattle.fo_ground.specs.Layout.{first_of, size_of, locals, same_var, IsLaidOut}

positive : (xs ns : List ℕ) → AllZip (λ x n. x < n) xs ns → All (λ n. 1 ≤ n) ns
positive [] [] h = All-nil (λ n. 1 ≤ n)
positive [] (n ∷ ns) h = absurd h
positive (x ∷ xs) [] h = absurd h
positive (x ∷ xs) (n ∷ ns) h = All-cons (λ n. 1 ≤ n) n ns (omega (arith, h.0)) (positive xs ns h.1)

pub below_size : (p first size : ℕ) → first ≤ p → p < first + size → p - first < size
below_size p first size ge lt = omega arith

module _ (u : Universe) (lay : Layout) (r : IsLaidOut u lay) where
  pub sort-lt : (s p : ℕ) → IsOf u.terms s p → s < lay.sig.sorts
  sort-lt s p of = subst (λ s. s < lay.sig.sorts) of.1 (r.sorts p of.0)

  pub in_block : (s p : ℕ) → IsOf u.terms s p → (first_of u lay s ≤ p) × (p < first_of u lay s + size_of u lay s)
  in_block s p of = (r.blocks s p (sort-lt s p of)).0 of

  locals-length : (ps ss : List ℕ) → AreOf u.terms ps ss → length (locals u lay ss ps) ≡ length ps
  locals-length [] [] h = refl
  locals-length [] (s ∷ ss) h = absurd h
  locals-length (p ∷ ps) [] h = absurd h
  locals-length (p ∷ ps) (s ∷ ss) h = ap suc (locals-length ps ss h.1)

  locals-at : (ps ss : List ℕ) (i : ℕ) → AreOf u.terms ps ss → i < length ps → get_or (locals u lay ss ps) i 0 ≡ get_or ps i 0 - first_of u lay (get_or ss i 0)
  locals-at [] ss i h lt = absurd (omega arith)
  locals-at (p ∷ ps) [] i h lt = absurd h
  locals-at (p ∷ ps) (s ∷ ss) zero h lt = refl
  locals-at (p ∷ ps) (s ∷ ss) (suc i) h lt = locals-at ps ss i h.1 (omega arith)

  pub locals-lt : (ps ss : List ℕ) → AreOf u.terms ps ss → AllZip (λ x n. x < n) (locals u lay ss ps) (map (size_of u lay) ss)
  locals-lt [] [] h = tt
  locals-lt [] (s ∷ ss) h = absurd h
  locals-lt (p ∷ ps) [] h = absurd h
  locals-lt (p ∷ ps) (s ∷ ss) h = let b = in_block s p h.0 in (below_size p (first_of u lay s) (size_of u lay s) b.0 b.1, locals-lt ps ss h.1)

  module _ (relation : Bool) (k c : ℕ) (ps : List ℕ) (is : IsSymbol lay.sig lay.copies relation k c) (of : AreOf u.terms ps (symbol_at lay.sig k).args) where
    abbrev ss : List ℕ
    ss = (symbol_at lay.sig k).args

    abbrev sizes : List ℕ
    sizes = map (size_of u lay) ss

    abbrev ls : List ℕ
    ls = locals u lay ss ps

    -- the copy and the arguments as one number
    abbrev whole : ℕ
    whole = c * tuples sizes + place sizes ls

    pub same_length : length ps ≡ length ss
    same_length = length_all_zip (λ p s. IsOf u.terms s p) ps ss of

    pub of-at : (i : ℕ) → i < length ps → IsOf u.terms (get_or ss i 0) (get_or ps i 0)
    of-at i lt = AllZip-get_or (λ p s. IsOf u.terms s p) ps ss i 0 0 of lt

    pub block-at : (i : ℕ) → i < length ps → (get_or ss i 0 < lay.sig.sorts) × (first_of u lay (get_or ss i 0) ≤ get_or ps i 0) × (get_or ps i 0 < first_of u lay (get_or ss i 0) + size_of u lay (get_or ss i 0))
    block-at i lt = let o = of-at i lt in let b = in_block (get_or ss i 0) (get_or ps i 0) o in (sort-lt (get_or ss i 0) (get_or ps i 0) o, b.0, b.1)

    pub slot-lt : slice_index lay.starts k + (c * tuples sizes + place sizes ls) < 2 ^ 32
    slot-lt = r.slots relation k c ps is of

    pub start-lt : k < length lay.starts
    start-lt = subst (λ n. k < n) (sym r.starts) is.within

    module _ (i acc : ℕ) (so_far : acc * tuples (drop i sizes) + place (drop i sizes) (drop i ls) ≡ c * tuples sizes + place sizes ls) where
      pub more : i < length ps → (acc * size_of u lay (get_or ss i 0) + (get_or ps i 0 - first_of u lay (get_or ss i 0))) * tuples (drop (i + 1) sizes) + place (drop (i + 1) sizes) (drop (i + 1) ls) ≡ c * tuples sizes + place sizes ls
      more lt =
          let ns : i < length sizes = omega (arith, length-map ss (size_of u lay), same_length) in
          let xs : i < length ls = omega (arith, locals-length ps ss of) in
          let size : get_or sizes i 0 ≡ size_of u lay (get_or ss i 0) = get_or-map (size_of u lay) ss i 0 0 (omega (arith, same_length)) in
          let local = locals-at ps ss i of lt in
          let moved = horner sizes ls i acc ns xs in
          subst (λ n. (acc * n + (get_or ps i 0 - first_of u lay (get_or ss i 0))) * tuples (drop (i + 1) sizes) + place (drop (i + 1) sizes) (drop (i + 1) ls) ≡ whole) size
          (subst (λ x. (acc * get_or sizes i 0 + x) * tuples (drop (i + 1) sizes) + place (drop (i + 1) sizes) (drop (i + 1) ls) ≡ whole) local
          (sym moved ∙ so_far))

      pub fits : i < length ps → acc * size_of u lay (get_or ss i 0) + (get_or ps i 0 - first_of u lay (get_or ss i 0)) < 2 ^ 32
      fits lt =
          let sized : 1 ≤ tuples (drop (i + 1) sizes) = tuples-positive (drop (i + 1) sizes) (All-drop (λ n. 1 ≤ n) (i + 1) sizes (positive ls sizes (locals-lt ps ss of))) in
          let le : acc * size_of u lay (get_or ss i 0) + (get_or ps i 0 - first_of u lay (get_or ss i 0)) ≤ c * tuples sizes + place sizes ls = horner-le _ _ _ _ (more lt) sized in
          omega (arith, slot-lt)

      pub done : length ps ≤ i → acc ≡ c * tuples sizes + place sizes ls
      done le =
          let none : drop i sizes ≡ [] = drop_of_length-le sizes (omega (arith, length-map ss (size_of u lay), same_length)) in
          omega (arith, subst (λ ns. acc * tuples ns + place ns (drop i ls) ≡ whole) none so_far)

module _ (u : Universe) (lay : Layout) where
  -- the variable of an equation between the earlier and the later of two terms
  pub same_var-ordered : (low high : ℕ) → low ≤ high → same_var u lay low high ≡ slice_index lay.same low + (high - low)
  same_var-ordered low high le =
      let a : min low high ≡ low = omega arith in
      let b : max low high ≡ high = omega arith in
      ap (λ n. slice_index lay.same n + (max low high - n)) a ∙ ap (λ m. slice_index lay.same low + (m - low)) b

  -- it is that of the equation the other way round
  pub same_var-sym : (p q : ℕ) → same_var u lay p q ≡ same_var u lay q p
  same_var-sym p q =
      let a : min p q ≡ min q p = omega arith in
      let b : max p q ≡ max q p = omega arith in
      ap (λ n. slice_index lay.same n + (max p q - n)) a ∙ ap (λ m. slice_index lay.same (min q p) + (m - min q p)) b
