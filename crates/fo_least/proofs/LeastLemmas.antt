-- The world with the settled sizes and values is the least, and there is no other.
use Rattle.std.proofs.Common.{◌≡◌, ℕ, ◌⊎◌, inl, inr, ◌+◌, ◌<◌, ◌≤◌, List, [], ◌∷◌, ◌++◌, length, take, refl, sym, ap, subst, ◌∙◌, arith}
use Rattle.std.specs.Prelude.{slice_index}
use Rattle.std.proofs.lemmas.Bool.{cases_lt}
use Rattle.std.proofs.lemmas.List.{take_more}
use Rattle.fo_core.specs.declared.query.Query.{Query}
use Rattle.fo_core.specs.declared.signature.Sig.{Sig}
use Rattle.fo_core.specs.declared.world.World.{World}
use Rattle.fo_core.specs.Queries.{IsQuery, MeetsQuery}
use Rattle.fo_core.specs.SortGraph.{ComesFirst}
use Rattle.fo_core.specs.Sorted.{IsSig}
use Rattle.fo_core.specs.Tables.{Fits}
use Rattle.fo_core.specs.Asked.{is_relation_at, AreNextSizes, AreNextValues}
use Rattle.fo_core.specs.Cells.{cells}
use Rattle.fo_core.specs.Least.{world_values, numbers_of, IsLeast}
use Rattle.fo_core.specs.Trials.{trial}
use Rattle.fo_least.proofs.CellValues.{values-length}
use Rattle.fo_least.proofs.Injective.{next-apart}
use Rattle.fo_least.proofs.Isomorphic.{meets-described}
use Rattle.fo_least.proofs.Itself.{itself-sizes, itself-values, can_try_own_sizes, can_try_own_values}
use Rattle.fo_least.proofs.Lexicographic.{first-by, first-append}
use Rattle.fo_least.proofs.Naming.{MeetsTrial}
use Rattle.fo_least.proofs.Settled.{lesser-none, settled-world}
use Rattle.fo_least.proofs.TrialMeaning.{trial_means}
use Rattle.fo_core.specs.Finds.{HasWorld}

module _ (sig : Sig) (q : Query) (is : IsSig sig) (sorted : IsQuery sig q) (v : World) (meets : MeetsQuery sig q v) where
  -- a world meets the trials of its own numbers
  pub own-size : (sizes : List ℕ) (k : ℕ) → k < length v.sizes → sizes ≡ take k v.sizes → MeetsQuery sig (trial sig q (sizes ++ slice_index v.sizes k ∷ []) []) v
  own-size sizes k lt e =
      subst (λ ns. MeetsQuery sig (trial sig q ns []) v) (take_more v.sizes k 0 lt ∙ ap (λ ns. ns ++ slice_index v.sizes k ∷ []) (sym e))
      ((trial_means sig q (take (k + 1) v.sizes) [] is sorted (can_try_own_sizes sig q v meets (k + 1)) v).1 (itself-sizes sig q v meets (k + 1)))

  pub own-value : (sizes values : List ℕ) (k : ℕ) → k < length (world_values v) → sizes ≡ v.sizes → values ≡ take k (world_values v) → MeetsQuery sig (trial sig q sizes (values ++ slice_index (world_values v) k ∷ [])) v
  own-value sizes values k lt same e =
      subst (λ ns. MeetsQuery sig (trial sig q ns (values ++ slice_index (world_values v) k ∷ [])) v) (sym same)
      (subst (λ vs. MeetsQuery sig (trial sig q v.sizes vs) v) (take_more (world_values v) k 0 lt ∙ ap (λ vs. vs ++ slice_index (world_values v) k ∷ []) (sym e))
      ((trial_means sig q v.sizes (take (k + 1) (world_values v)) is sorted (can_try_own_values sig q v meets (k + 1)) v).1 (itself-values sig q v meets (k + 1))))

  -- so none of them is less than the settled one after the same settled ones
  pub size-above : (sizes : List ℕ) (k : ℕ) → AreNextSizes sig q sizes → k < length sizes → k < length v.sizes → take k sizes ≡ take k v.sizes → slice_index sizes k ≤ slice_index v.sizes k
  size-above sizes k next lt lt_v e = by_case (cases_lt (slice_index v.sizes k) (slice_index sizes k))
    where
      by_case : (slice_index v.sizes k < slice_index sizes k) ⊎ (slice_index sizes k ≤ slice_index v.sizes k) → slice_index sizes k ≤ slice_index v.sizes k
      by_case (inr le) = le
      by_case (inl less) = absurd ((next k lt).fewer (slice_index v.sizes k) (meets.fits.nonempty k 0 lt_v) less v (own-size (take k sizes) k lt_v e))

  pub value-above : (sizes values : List ℕ) (k : ℕ) → AreNextValues sig q sizes values → k < length values → k < length (world_values v) → sizes ≡ v.sizes → take k values ≡ take k (world_values v) → slice_index values k ≤ slice_index (world_values v) k
  value-above sizes values k next lt lt_v same e = by_case (cases_lt (slice_index (world_values v) k) (slice_index values k))
    where
      by_case : (slice_index (world_values v) k < slice_index values k) ⊎ (slice_index values k ≤ slice_index (world_values v) k) → slice_index values k ≤ slice_index (world_values v) k
      by_case (inr le) = le
      by_case (inl less) = absurd (lesser-none sig q (is_relation_at sig q sizes k) sizes (take k values) (slice_index values k) (slice_index (world_values v) k) (next k lt) less v (own-value sizes (take k values) k lt_v same e))

-- worlds with the same sizes have the same number of values
pub same-length : (sig : Sig) (m v : World) → Fits sig m → Fits sig v → m.sizes ≡ v.sizes → length m.copies ≡ length v.copies → length (world_values m) ≡ length (world_values v)
same-length sig m v fits_m fits_v sizes copies =
    values-length sig m fits_m ∙ ap (λ ns. length (cells sig ns (length m.copies))) sizes ∙ ap (λ n. length (cells sig v.sizes n)) copies ∙ sym (values-length sig v fits_v)

-- the world with the settled sizes and values is the least
pub least_world : (sig : Sig) (q : Query) (m : World) → IsSig sig → IsQuery sig q → HasWorld sig q → AreNextSizes sig q m.sizes → AreNextValues sig q m.sizes (world_values m) → Fits sig m → length m.copies ≡ q.copies → IsLeast sig q m
least_world sig q m is sorted some next_sizes next_values fits copies = record { meets = described (settled-world sig q is sorted m.sizes fits.sorts (world_values m) within some next_sizes next_values).1; first = first }
  where
    within : length (world_values m) ≤ length (cells sig m.sizes q.copies)
    within = subst (λ n. length (world_values m) ≤ length (cells sig m.sizes n)) copies (omega (arith, values-length sig m fits))

    described : ((w : World) × MeetsTrial sig q m.sizes (world_values m) w) → MeetsQuery sig q m
    described (w, t) = meets-described sig q m.sizes (world_values m) m w sorted t (next-apart sig q is sorted m.sizes (world_values m) w (let e = fits.sorts in omega arith) next_sizes t) fits refl refl copies

    first : (v : World) → MeetsQuery sig q v → ComesFirst (numbers_of m) (numbers_of v)
    first v meets =
        let sorts : length m.sizes ≡ length v.sizes = fits.sorts ∙ sym meets.fits.sorts in
        first-append m.sizes v.sizes (world_values m) (world_values v) sorts
        (first-by m.sizes v.sizes sorts (λ k lt e. size-above sig q is sorted v meets m.sizes k next_sizes lt (omega arith) e))
        (λ same.
        let long = same-length sig m v fits meets.fits same (copies ∙ sym meets.copies) in
        first-by (world_values m) (world_values v) long (λ k lt e. value-above sig q is sorted v meets m.sizes (world_values m) k next_values lt (omega arith) same e))
