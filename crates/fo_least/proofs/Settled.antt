-- Where sizes and values are settled one by one, some world has them all.
use Rattle.std.proofs.Common.{◌≡◌, ℕ, zero, suc, Bool, true, false, cond, ◌⊎◌, inl, inr, ◌+◌, ◌<◌, ◌≤◌, List, [], ◌∷◌, ◌++◌, length, take, refl, sym, ap, subst, ◌∙◌, arith}
use Rattle.std.specs.Prelude.{slice_index, slice_index_or}
use Rattle.std.proofs.lemmas.Bool.{cases_lt}
use Rattle.std.proofs.lemmas.List.{take_more, take_all, length-take, length-take-le}
use Rattle.fo_core.specs.declared.query.Query.{Query}
use Rattle.fo_core.specs.declared.signature.Sig.{Sig}
use Rattle.fo_core.specs.declared.world.World.{World}
use Rattle.fo_core.specs.Queries.{IsQuery, MeetsQuery}
use Rattle.fo_core.specs.Finds.{HasNoWorld, HasWorld}
use Rattle.fo_core.specs.Sorted.{IsSig}
use Rattle.fo_core.specs.Tables.{symbol_at, range_of}
use Rattle.fo_core.specs.Asked.{no_cell, is_relation_at, AreNextSizes, IsNextValue, AreNextValues}
use Rattle.fo_core.specs.Cells.{cells}
use Rattle.fo_core.specs.Trials.{trial}
use Rattle.fo_least.proofs.Naming.{CanTry, MeetsTrial}
use Rattle.fo_least.proofs.NextLemmas.{can_try_size, next_value, can_try_value}
use Rattle.fo_least.proofs.TrialMeaning.{trial_means}

-- no world has a value less than the one that is settled
pub lesser-none : (sig : Sig) (q : Query) (b : Bool) (sizes values : List ℕ) (v u : ℕ) → IsNextValue sig q b sizes values v → u < v → HasNoWorld sig (trial sig q sizes (values ++ u ∷ []))
lesser-none sig q true sizes values v u (inl (e, some)) lt = absurd (omega arith)
lesser-none sig q true sizes values v u (inr (e, none)) lt = let is : 0 ≡ u = omega arith in subst (λ u. HasNoWorld sig (trial sig q sizes (values ++ u ∷ []))) is none
lesser-none sig q false sizes values v u next lt = next.lesser u lt

module _ (sig : Sig) (q : Query) (is : IsSig sig) (sorted : IsQuery sig q) (sizes : List ℕ) where
  -- some world has these numbers
  abbrev pub Has : List ℕ → Type 0
  Has values = (w : World) × MeetsTrial sig q sizes values w

  pub can_try_sizes : length sizes ≤ sig.sorts → CanTry sig q.copies sizes []
  can_try_sizes le = record { sorts = le; all_sorts = λ k below. absurd (omega arith); entries = omega arith; in_range = λ k below. absurd (omega arith) }

  pub sizes-world : length sizes ≤ sig.sorts → HasWorld sig q → AreNextSizes sig q sizes → Has []
  sizes-world le some next = subst (λ ns. (w : World) × MeetsTrial sig q ns [] w) (take_all (length sizes) sizes (omega arith)) (to (length sizes) (omega arith))
    where
      to : (k : ℕ) → k ≤ length sizes → (w : World) × MeetsTrial sig q (take k sizes) [] w
      to zero below = (
        some.0,
        record {
          meets = some.1;
          name = λ s x. x;
          naming = record { within = λ s x in_ lt. absurd (omega arith); covers = λ s y in_ lt. absurd (omega arith) };
          entries = λ k lt. absurd (omega arith);
        },
      )
      to (suc k) below =
          let in_ : k < length sizes = omega arith in
          let found = (next k in_).some in
          let can = can_try_size sig q.copies (take k sizes) (slice_index sizes k) (omega (arith, length-take k sizes)) in
          let t = (trial_means sig q (take k sizes ++ slice_index sizes k ∷ []) [] is sorted can found.0).0 found.1 in
          let e : k + 1 ≡ suc k = omega arith in
          (found.0, subst (λ ns. MeetsTrial sig q ns [] found.0) (sym (take_more sizes k 0 in_) ∙ ap (λ j. take j sizes) e) t)

  module _ (all : length sizes ≡ sig.sorts) where
    -- one more value
    module _ (values : List ℕ) (can : CanTry sig q.copies sizes values) (more : length values < length (cells sig sizes q.copies)) (w : World) (t : MeetsTrial sig q sizes values w) where
      abbrev range : ℕ
      range = range_of sizes (symbol_at sig (slice_index_or (cells sig sizes q.copies) (length values) no_cell).symbol)

      abbrev result_size : ℕ
      result_size = slice_index sizes (symbol_at sig (slice_index_or (cells sig sizes q.copies) (length values) no_cell).symbol).result

      abbrev Settles : ℕ → Type 0
      Settles v = (v < range) × Has (values ++ v ∷ [])

      found : (v : ℕ) → v < range → HasWorld sig (trial sig q sizes (values ++ v ∷ [])) → Settles v
      found v lt has = (lt, (has.0, (trial_means sig q sizes (values ++ v ∷ []) is sorted (can_try_value sig q.copies sizes values v all more can lt) has.0).0 has.1))

      itself : (v : ℕ) × (v < range) × MeetsTrial sig q sizes (values ++ v ∷ []) w
      itself = next_value sig q sizes values w is t all more

      not_in : (v : ℕ) → itself.0 ≡ v → ¬ HasNoWorld sig (trial sig q sizes (values ++ v ∷ []))
      not_in v e none =
          none w (subst (λ v. MeetsQuery sig (trial sig q sizes (values ++ v ∷ [])) w) e
          ((trial_means sig q sizes (values ++ itself.0 ∷ []) is sorted (can_try_value sig q.copies sizes values itself.0 all more can itself.1) w).1 itself.2))

      step : (b : Bool) (v : ℕ) → is_relation_at sig q sizes (length values) ≡ b → IsNextValue sig q b sizes values v → Settles v
      step true v kind (inl (e, has)) =
          subst Settles (sym e) (found 0 (subst (λ b. 0 < cond b 2 result_size) (sym kind) (omega arith)) has)
      step true v kind (inr (e, none)) =
          let below : itself.0 < 2 = subst (λ b. itself.0 < cond b 2 result_size) kind itself.1 in
          by_zero (cases_lt 0 itself.0) below
        where
          by_zero : (0 < itself.0) ⊎ (itself.0 ≤ 0) → itself.0 < 2 → Settles v
          by_zero (inl some) below = let same : itself.0 ≡ v = omega arith in subst Settles same (itself.1, (w, itself.2))
          by_zero (inr le) below = let same : itself.0 ≡ 0 = omega arith in absurd (not_in 0 same none)
      step false v kind next = by_range (cases_lt v range)
        where
          by_range : (v < range) ⊎ (range ≤ v) → Settles v
          by_range (inl lt) = found v lt next.some
          by_range (inr le) = absurd (not_in itself.0 refl (next.lesser itself.0 (let below = itself.1 in omega arith)))

    pub values-world : (values : List ℕ) → length values ≤ length (cells sig sizes q.copies) → Has [] → AreNextValues sig q sizes values → (k : ℕ) → k ≤ length values → CanTry sig q.copies sizes (take k values) × Has (take k values)
    values-world values le some next zero below = (can_try_sizes (omega arith), some)
    values-world values le some next (suc k) below = on (values-world values le some next k (omega arith))
      where
        on : CanTry sig q.copies sizes (take k values) × Has (take k values) → CanTry sig q.copies sizes (take (suc k) values) × Has (take (suc k) values)
        on (can, (w, t)) =
            let long : length (take k values) ≡ k = length-take-le k values (omega arith) in
            let more : length (take k values) < length (cells sig sizes q.copies) = omega arith in
            let r = step (take k values) can more w t (is_relation_at sig q sizes (length (take k values))) (slice_index values k) refl
            (subst (λ j. IsNextValue sig q (is_relation_at sig q sizes j) sizes (take k values) (slice_index values k)) (sym long) (next k (omega arith))) in
            let e : k + 1 ≡ suc k = omega arith in
            let is_taken : take k values ++ slice_index values k ∷ [] ≡ take (suc k) values = sym (take_more values k 0 (omega arith)) ∙ ap (λ j. take j values) e in
            (subst (CanTry sig q.copies sizes) is_taken (can_try_value sig q.copies sizes (take k values) (slice_index values k) all more can r.0), subst Has is_taken r.1)

    -- all of them
    pub settled-world : (values : List ℕ) → length values ≤ length (cells sig sizes q.copies) → HasWorld sig q → AreNextSizes sig q sizes → AreNextValues sig q sizes values → CanTry sig q.copies sizes values × Has values
    settled-world values le some next_sizes next_values =
        subst (λ vs. CanTry sig q.copies sizes vs × Has vs) (take_all (length values) values (omega arith))
        (values-world values le (sizes-world (omega arith) some next_sizes) next_values (length values) (omega arith))
