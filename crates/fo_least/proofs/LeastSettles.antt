-- The sizes and values of the least world are settled, and no others are.
use Rattle.std.proofs.Common.{◌≡◌, ℕ, zero, suc, Bool, true, false, cond, ◌⊎◌, inl, inr, ◌+◌, ◌<◌, ◌≤◌, List, [], ◌∷◌, ◌++◌, length, get_or, take, refl, sym, ap, subst, ◌∙◌, arith}
use Rattle.std.specs.Prelude.{slice_index, slice_index_or}
use Rattle.std.proofs.lemmas.Bool.{cases_lt}
use Rattle.std.proofs.lemmas.List.{take_more_same, length-take-le, get_or-take, get_or_append_left, get_or_push, length_push, length-append}
use Rattle.fo_core.specs.declared.query.Query.{Query}
use Rattle.fo_core.specs.declared.signature.Sig.{Sig}
use Rattle.fo_core.specs.declared.world.World.{World}
use Rattle.fo_core.specs.Queries.{IsQuery, MeetsQuery}
use Rattle.fo_core.specs.Finds.{HasNoWorld, HasWorld}
use Rattle.fo_core.specs.SortGraph.{ComesFirst}
use Rattle.fo_core.specs.Sorted.{IsSig}
use Rattle.fo_core.specs.Tables.{symbol_at, range_of}
use Rattle.fo_core.specs.Asked.{no_cell, is_relation_at, IsNextSize, AreNextSizes, IsNextTruth, IsNextValue, AreNextValues}
use Rattle.fo_core.specs.Cells.{cells}
use Rattle.fo_core.specs.Least.{world_values, numbers_of, IsLeast}
use Rattle.fo_core.specs.Trials.{trial}
use Rattle.fo_least.proofs.CellLemmas.{cells-at}
use Rattle.fo_least.proofs.CellValues.{values-length, value-at, entry-below}
use Rattle.fo_least.proofs.Injective.{next-apart}
use Rattle.fo_least.proofs.Isomorphic.{IsApart}
use Rattle.fo_least.proofs.Itself.{can_try_own_values}
use Rattle.fo_least.proofs.LeastLemmas.{own-size, own-value}
use Rattle.fo_least.proofs.Lexicographic.{first-at, first-behind}
use Rattle.fo_least.proofs.Naming.{CanTry, MeetsTrial}
use Rattle.fo_least.proofs.NextLemmas.{can_try_size, can_try_value}
use Rattle.fo_least.proofs.Pigeons.{sizes-covered}
use Rattle.fo_least.proofs.Renamed.{renamed, renamed-meets, renamed-values}
use Rattle.fo_least.proofs.TrialMeaning.{trial_means}

module _ (sig : Sig) (q : Query) (is : IsSig sig) (sorted : IsQuery sig q) (w : World) (least : IsLeast sig q w) where
  meets : MeetsQuery sig q w
  meets = least.meets

  -- a world of a size that is tried has no more elements, and so the least world hasn't
  size-below : (s n : ℕ) → s < length w.sizes → HasWorld sig (trial sig q (take s w.sizes ++ n ∷ []) []) → slice_index w.sizes s ≤ n
  size-below s n known (u, h) = at ((trial_means sig q (take s w.sizes ++ n ∷ []) [] is sorted can u).0 h)
    where
      sorts : length w.sizes ≡ sig.sorts
      sorts = meets.fits.sorts

      long : length (take s w.sizes) ≡ s
      long = length-take-le s w.sizes (omega arith)

      can : CanTry sig q.copies (take s w.sizes ++ n ∷ []) []
      can = can_try_size sig q.copies (take s w.sizes) n (omega (arith, sorts, long))

      at : MeetsTrial sig q (take s w.sizes ++ n ∷ []) [] u → slice_index w.sizes s ≤ n
      at t = omega (arith, first, last)
        where
          many : length (take s w.sizes ++ n ∷ []) ≡ s + 1
          many = length_push (take s w.sizes) n ∙ ap (λ m. m + 1) long

          as-many : length u.sizes ≡ length w.sizes
          as-many = t.meets.fits.sorts ∙ sym sorts

          here : (i : ℕ) → i < length w.sizes → get_or (numbers_of w) i 0 ≡ slice_index w.sizes i
          here i lt = get_or_append_left w.sizes (world_values w) 0 i lt

          there : (i : ℕ) → i < length w.sizes → get_or (numbers_of u) i 0 ≡ slice_index u.sizes i
          there i lt = get_or_append_left u.sizes (world_values u) 0 i (omega (arith, as-many))

          under : (i : ℕ) → i < s → get_or (numbers_of u) i 0 ≤ get_or (numbers_of w) i 0
          under i lt =
              let covered = sizes-covered u (take s w.sizes ++ n ∷ []) t.name i t.naming (omega (arith, many)) in
              let tried = get_or_append_left (take s w.sizes) (n ∷ []) 0 i (omega (arith, long)) in
              let taken = get_or-take s w.sizes i 0 lt in
              omega (arith, here i (omega arith), there i (omega arith))

          first : slice_index w.sizes s ≤ slice_index u.sizes s
          first =
              let r = first-at (numbers_of w) (numbers_of u) s (least.first u t.meets) (omega (arith, length-append w.sizes (world_values w))) under in
              omega (arith, here s known, there s known)

          last : slice_index u.sizes s ≤ n
          last =
              let covered = sizes-covered u (take s w.sizes ++ n ∷ []) t.name s t.naming (omega (arith, many)) in
              omega (arith, get_or_push (take s w.sizes) n 0 s long)

  pub least-sizes : AreNextSizes sig q w.sizes
  least-sizes s known = record {
    positive = meets.fits.nonempty s 0 known;
    some = (w, own-size sig q is sorted w meets (take s w.sizes) s known refl);
    fewer = λ m positive less u h. let le = size-below s m known (u, h) in absurd (omega arith);
  }

  values-many : length (world_values w) ≡ length (cells sig w.sizes q.copies)
  values-many = values-length sig w meets.fits ∙ ap (λ n. length (cells sig w.sizes n)) meets.copies

  -- a world of a value that is tried has one with this very value, and so the least world has none greater
  value-below : (k v : ℕ) → k < length (world_values w) → v < range_of w.sizes (symbol_at sig (slice_index_or (cells sig w.sizes q.copies) k no_cell).symbol) →
      HasWorld sig (trial sig q w.sizes (take k (world_values w) ++ v ∷ [])) → slice_index (world_values w) k ≤ v
  value-below k v lt in_ (u, h) = at ((trial_means sig q w.sizes (take k (world_values w) ++ v ∷ []) is sorted can u).0 h)
    where
      long : length (take k (world_values w)) ≡ k
      long = length-take-le k (world_values w) (omega arith)

      can : CanTry sig q.copies w.sizes (take k (world_values w) ++ v ∷ [])
      can = can_try_value sig q.copies w.sizes (take k (world_values w)) v meets.fits.sorts (omega (arith, long, values-many)) (can_try_own_values sig q w meets k)
          (subst (λ j. v < range_of w.sizes (symbol_at sig (slice_index_or (cells sig w.sizes q.copies) j no_cell).symbol)) (sym long) in_)

      many : length (take k (world_values w) ++ v ∷ []) ≡ k + 1
      many = length_push (take k (world_values w)) v ∙ ap (λ m. m + 1) long

      at : MeetsTrial sig q w.sizes (take k (world_values w) ++ v ∷ []) u → slice_index (world_values w) k ≤ v
      at t = compared (renamed sig q is sorted w.sizes (take k (world_values w) ++ v ∷ []) u t meets.fits.sorts) refl
          (renamed-meets sig q is sorted w.sizes (take k (world_values w) ++ v ∷ []) u t meets.fits.sorts apart)
          (renamed-values sig q is sorted w.sizes (take k (world_values w) ++ v ∷ []) u t meets.fits.sorts apart can)
        where
          apart : IsApart w.sizes t.name
          apart = next-apart sig q is sorted w.sizes (take k (world_values w) ++ v ∷ []) u (let e = meets.fits.sorts in omega arith) least-sizes t

          compared : (m : World) → m.sizes ≡ w.sizes → MeetsQuery sig q m → ((i : ℕ) → i < length (take k (world_values w) ++ v ∷ []) → slice_index (world_values m) i ≡ slice_index (take k (world_values w) ++ v ∷ []) i) → slice_index (world_values w) k ≤ v
          compared m same meets_m its =
              let behind = first-behind w.sizes (world_values w) (world_values m) (subst (λ ns. ComesFirst (numbers_of w) (ns ++ world_values m)) same (least.first m meets_m)) in
              let r = first-at (world_values w) (world_values m) k behind lt under in
              omega (arith, its k (omega (arith, many)), get_or_push (take k (world_values w)) v 0 k long)
            where
              under : (i : ℕ) → i < k → get_or (world_values m) i 0 ≤ get_or (world_values w) i 0
              under i below =
                  let tried = get_or_append_left (take k (world_values w)) (v ∷ []) 0 i (omega (arith, long)) in
                  let taken = get_or-take k (world_values w) i 0 below in
                  omega (arith, its i (omega (arith, many)))

  pub least-values : AreNextValues sig q w.sizes (world_values w)
  least-values k lt = by_kind (is_relation_at sig q w.sizes k) refl in_range
    where
      in_range : slice_index (world_values w) k < range_of w.sizes (symbol_at sig (slice_index_or (cells sig w.sizes q.copies) k no_cell).symbol)
      in_range =
          let e = value-at sig w meets.fits k (omega (arith, values-length sig w meets.fits)) in
          let there = cells-at sig w.sizes (length w.copies) k (omega (arith, values-length sig w meets.fits)) in
          subst (λ n. slice_index (world_values w) k < range_of w.sizes (symbol_at sig (slice_index_or (cells sig w.sizes n) k no_cell).symbol)) meets.copies
          (subst (λ v. v < range_of w.sizes (symbol_at sig (slice_index_or (cells sig w.sizes (length w.copies)) k no_cell).symbol)) (sym e) (entry-below sig w meets.fits (slice_index_or (cells sig w.sizes (length w.copies)) k no_cell) there))

      own : HasWorld sig (trial sig q w.sizes (take k (world_values w) ++ slice_index (world_values w) k ∷ []))
      own = (w, own-value sig q is sorted w meets w.sizes (take k (world_values w)) k lt refl refl)

      none : (u : ℕ) → u < slice_index (world_values w) k → HasNoWorld sig (trial sig q w.sizes (take k (world_values w) ++ u ∷ []))
      none u less m h = let le = value-below k u lt (omega (arith, in_range)) (m, h) in absurd (omega arith)

      by_kind : (b : Bool) → is_relation_at sig q w.sizes k ≡ b → slice_index (world_values w) k < cond (is_relation_at sig q w.sizes k) 2 (slice_index w.sizes (symbol_at sig (slice_index_or (cells sig w.sizes q.copies) k no_cell).symbol).result) →
          IsNextValue sig q b w.sizes (take k (world_values w)) (slice_index (world_values w) k)
      by_kind false kind in_ = record { some = own; lesser = none }
      by_kind true kind in_ = by_value (cases_lt 0 (slice_index (world_values w) k))
        where
          below : slice_index (world_values w) k < 2
          below = subst (λ b. slice_index (world_values w) k < cond b 2 (slice_index w.sizes (symbol_at sig (slice_index_or (cells sig w.sizes q.copies) k no_cell).symbol).result)) kind in_

          by_value : (0 < slice_index (world_values w) k) ⊎ (slice_index (world_values w) k ≤ 0) → IsNextTruth sig q w.sizes (take k (world_values w)) (slice_index (world_values w) k)
          by_value (inl some) = let one : slice_index (world_values w) k ≡ 1 = omega (arith, below) in inr (one, none 0 some)
          by_value (inr le) =
              let e : slice_index (world_values w) k ≡ 0 = omega arith in
              inl (e, subst (λ v. HasWorld sig (trial sig q w.sizes (take k (world_values w) ++ v ∷ []))) e own)

  -- the sizes and values of the least world are the settled ones
  pub least_settles : AreNextSizes sig q w.sizes × AreNextValues sig q w.sizes (world_values w)
  least_settles = (least-sizes, least-values)

-- there is one next size, and one next value
module _ (sig : Sig) (q : Query) where
  size-only : (sizes : List ℕ) (m n : ℕ) → IsNextSize sig q sizes m → IsNextSize sig q sizes n → m ≡ n
  size-only sizes m n a b = by_order (cases_lt m n) (cases_lt n m)
    where
      by_order : (m < n) ⊎ (n ≤ m) → (n < m) ⊎ (m ≤ n) → m ≡ n
      by_order (inl lt) _ = absurd (b.fewer m a.positive lt a.some.0 a.some.1)
      by_order (inr _) (inl lt) = absurd (a.fewer n b.positive lt b.some.0 b.some.1)
      by_order (inr ge) (inr le) = omega arith

  value-only : (r : Bool) (sizes values : List ℕ) (u v : ℕ) → IsNextValue sig q r sizes values u → IsNextValue sig q r sizes values v → u ≡ v
  value-only true sizes values u v (inl (e, a)) (inl (f, b)) = e ∙ sym f
  value-only true sizes values u v (inl (e, a)) (inr (f, b)) = absurd (b a.0 a.1)
  value-only true sizes values u v (inr (e, a)) (inl (f, b)) = absurd (a b.0 b.1)
  value-only true sizes values u v (inr (e, a)) (inr (f, b)) = e ∙ sym f
  value-only false sizes values u v a b = by_order (cases_lt u v) (cases_lt v u)
    where
      by_order : (u < v) ⊎ (v ≤ u) → (v < u) ⊎ (u ≤ v) → u ≡ v
      by_order (inl lt) _ = absurd (b.lesser u lt a.some.0 a.some.1)
      by_order (inr _) (inl lt) = absurd (a.lesser v lt b.some.0 b.some.1)
      by_order (inr ge) (inr le) = omega arith

  -- so of two lists of settled sizes the one begins with the other
  pub sizes-only : (xs ys : List ℕ) → AreNextSizes sig q xs → AreNextSizes sig q ys → (k : ℕ) → k ≤ length xs → k ≤ length ys → take k xs ≡ take k ys
  sizes-only xs ys a b zero below within = refl
  sizes-only xs ys a b (suc k) below within =
      let same = sizes-only xs ys a b k (omega arith) (omega arith) in
      let e : k + 1 ≡ suc k = omega arith in
      subst (λ j. take j xs ≡ take j ys) e
      (take_more_same xs ys k 0 (omega arith) (omega arith) same
      (size-only (take k ys) (slice_index xs k) (slice_index ys k) (subst (λ ns. IsNextSize sig q ns (slice_index xs k)) same (a k (omega arith))) (b k (omega arith))))

  pub values-only : (sizes xs ys : List ℕ) → AreNextValues sig q sizes xs → AreNextValues sig q sizes ys → (k : ℕ) → k ≤ length xs → k ≤ length ys → take k xs ≡ take k ys
  values-only sizes xs ys a b zero below within = refl
  values-only sizes xs ys a b (suc k) below within =
      let same = values-only sizes xs ys a b k (omega arith) (omega arith) in
      let e : k + 1 ≡ suc k = omega arith in
      subst (λ j. take j xs ≡ take j ys) e
      (take_more_same xs ys k 0 (omega arith) (omega arith) same
      (value-only (is_relation_at sig q sizes k) sizes (take k ys) (slice_index xs k) (slice_index ys k) (subst (λ vs. IsNextValue sig q (is_relation_at sig q sizes k) sizes vs (slice_index xs k)) same (a k (omega arith))) (b k (omega arith))))
