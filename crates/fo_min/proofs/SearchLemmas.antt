-- How the search for the least world goes on.
use Rattle.std.proofs.Common.{◌≡◌, ℕ, Bool, true, false, ◌⊎◌, inl, inr, ◌+◌, ◌-◌, ◌<◌, ◌≤◌, List, [], ◌∷◌, ◌++◌, length, take, get_or, refl, sym, ap, subst, ◌∙◌, below_more, arith}
use Rattle.std.specs.Prelude.{slice_index}
use Rattle.std.specs.List.{All, flat_map, range_with_len}
use Rattle.std.proofs.lemmas.List.{take-append-le, take_all}
use Rattle.std.proofs.lemmas.List.Elements.{All-nil, All-cons, All-push, All-append, All-from_get_or}
use Rattle.fo_core.specs.declared.query.Query.{Query}
use Rattle.fo_core.specs.declared.signature.Sig.{Sig}
use Rattle.fo_core.specs.declared.signature.Symbol.{Symbol}
use Rattle.fo_core.specs.declared.world.World.{World}
use Rattle.fo_core.specs.Finds.{CanSearch, HasNoWorld, HasWorld, IsLight}
use Rattle.fo_core.specs.Queries.{IsQuery, MeetsQuery}
use Rattle.fo_core.specs.QueryWeight.{query_weight}
use Rattle.fo_core.specs.Sorted.{IsSig, HasSorts}
use Rattle.fo_core.specs.Tables.{symbol_at, Fits}
use Rattle.fo_core.specs.declared.cell.Cell.{Cell}
use Rattle.fo_core.specs.Asked.{is_relation_at, IsNextSize, AreNextSizes, IsNextValue, AreNextValues, tried, size_trials, value_trials, queries_for, IsAsked, at_first, for_size, for_value}
use Rattle.fo_core.specs.Cells.{cells}
use Rattle.fo_core.specs.Least.{world_values}
use Rattle.fo_core.specs.Trials.{trial}
use Rattle.fo_least.proofs.LeastLemmas.{least_world}
use Rattle.fo_core.proofs.ListFacts.{all_flat, all_range}
use Rattle.fo_least.proofs.Naming.{CanTry, MeetsTrial}
use Rattle.fo_least.proofs.NextLemmas.{push-cases, next_size, can_try_size, next_value, can_try_value, symbol-sorts}
use Rattle.fo_least.proofs.Settled.{settled-world}
use Rattle.fo_least.proofs.TrialMeaning.{trial_means, trial_is_query, trial_rises}
use Rattle.fo_min.specs.declared.found.Excess.{Excess}
use Rattle.fo_min.specs.declared.found.Least.TheVariants.{Model}
use Rattle.fo_min.specs.declared.search.Answer.{Answer}
use Rattle.fo_min.specs.declared.search.Answer.TheVariants as Answers
use Rattle.fo_min.specs.declared.search.Numbers.{Numbers}
use Rattle.fo_min.specs.declared.search.Numbers.TheVariants as All_of
use Rattle.fo_min.specs.declared.search.Entries.{Entries}
use Rattle.fo_min.specs.declared.search.NextSize.TheVariants as Sizes
use Rattle.fo_min.specs.declared.search.Sizes.{Sizes as AllSizes}
use Rattle.fo_min.specs.declared.search.Sizes.TheVariants as Every
use Rattle.fo_min.specs.declared.search.Search.{Search}
use Rattle.fo_min.specs.Cut.{AreInRange}
use Rattle.fo_min.specs.Found.{IsExcess, IsFoundLeast}
use Rattle.fo_min.specs.Search.{sig_of, query_of, IsSearch, sorts_of, HasSizes, IsQueryAnswer, IsSettled, AreSettled, IsSizeAnswer, IsAbove, IsSizeFound, AreSizesFound, AreValuesFound, AreEntries, is_relation_next, range_at, range_next, AreValuesSettled, IsValueAnswer}
use Rattle.fo_core.proofs.Pieces.{map_more}

-- what holds of each element of a list, after those before it, and of one more
pub each-more : (P : ℕ → List ℕ → ℕ → Type 0) (xs : List ℕ) (y : ℕ) → ((k : ℕ) → k < length xs → P k (take k xs) (get_or xs k 0)) → P (length xs) xs y →
    (k : ℕ) → k < length (xs ++ y ∷ []) → P k (take k (xs ++ y ∷ [])) (get_or (xs ++ y ∷ []) k 0)
each-more P xs y each last k lt = by_case (push-cases xs y k lt)
  where
    by_case : ((k < length xs) × (get_or (xs ++ y ∷ []) k 0 ≡ get_or xs k 0)) ⊎ ((k ≡ length xs) × (get_or (xs ++ y ∷ []) k 0 ≡ y)) → P k (take k (xs ++ y ∷ [])) (get_or (xs ++ y ∷ []) k 0)
    by_case (inl (below, same)) =
        let before : take k (xs ++ y ∷ []) ≡ take k xs = take-append-le k xs (y ∷ []) (omega arith) in
        subst (λ ys. P k ys (get_or (xs ++ y ∷ []) k 0)) (sym before) (subst (P k (take k xs)) (sym same) (each k below))
    by_case (inr (at_end, same)) =
        let before : take k (xs ++ y ∷ []) ≡ xs = take-append-le k xs (y ∷ []) (omega arith) ∙ take_all k xs (omega arith) in
        subst (λ ys. P k ys (get_or (xs ++ y ∷ []) k 0)) (sym before) (subst (P k xs) (sym same) (subst (λ j. P j xs y) (sym at_end) last))

module _ (sig : Sig) (q : Query) (limit : ℕ) (is : IsSig sig) (sorted : IsQuery sig q) where
  abbrev AreLight : List Query → Type 0
  AreLight = All (IsLight sig limit)

  -- all that was asked is light
  pub light-queries : (sizes values : List ℕ) → IsSettled sig q limit sizes values → AreLight (queries_for sig q sizes values)
  light-queries sizes values s =
      let of_size : ℕ → List Query = λ k. size_trials sig q (take k sizes) (slice_index sizes k) in
      let of_value : ℕ → List Query = λ k. value_trials sig q sizes (take k values) (tried sig q (is_relation_at sig q sizes k) (slice_index values k)) in
      All-append (IsLight sig limit) (q ∷ flat_map of_size (range_with_len 0 (length sizes))) (flat_map of_value (range_with_len 0 (length values)))
      (All-cons (IsLight sig limit) q (flat_map of_size (range_with_len 0 (length sizes))) s.light
      (all_flat (IsLight sig limit) of_size (range_with_len 0 (length sizes)) (all_range (λ k. AreLight (of_size k)) (length sizes) s.light_sizes)))
      (all_flat (IsLight sig limit) of_value (range_with_len 0 (length values)) (all_range (λ k. AreLight (of_value k)) (length values) s.light_values))

  -- nothing is settled at first
  pub settled-start : HasWorld sig q → IsLight sig limit q → IsSettled sig q limit [] []
  settled-start some light = record {
    some = some;
    next_sizes = λ k lt. absurd (omega arith);
    next_values = λ k lt. absurd (omega arith);
    light = light;
    light_sizes = λ k lt. absurd (omega arith);
    light_values = λ k lt. absurd (omega arith);
  }

  can-start : CanTry sig q.copies [] []
  can-start = record { sorts = omega arith; all_sorts = λ k lt. absurd (omega arith); entries = omega arith; in_range = λ k lt. absurd (omega arith) }

  pub world-start : (w : World) → MeetsQuery sig q w → MeetsQuery sig (trial sig q [] []) w
  world-start w meets = (trial_means sig q [] [] is sorted can-start w).1 (record {
    meets = meets;
    name = λ s x. x;
    naming = record { within = λ s x in_ lt. absurd (omega arith); covers = λ s y in_ lt. absurd (omega arith) };
    entries = λ k lt. absurd (omega arith);
  })

  -- ---- sizes

  module _ (sizes : List ℕ) (more : length sizes < sig.sorts) where
    pub size-is-query : (n : ℕ) → IsQuery sig (trial sig q (sizes ++ n ∷ []) [])
    size-is-query n = trial_is_query sig q (sizes ++ n ∷ []) [] is sorted (can_try_size sig q.copies sizes n more)

    can_try : CanTry sig q.copies sizes []
    can_try = record { sorts = omega arith; all_sorts = λ k lt. absurd (omega arith); entries = omega arith; in_range = λ k lt. absurd (omega arith) }

    -- one size more that no world has
    pub size-lights : (m : ℕ) → AreLight (size_trials sig q sizes m) → IsLight sig limit (trial sig q (sizes ++ (m + 1) ∷ []) []) → AreLight (size_trials sig q sizes (m + 1))
    size-lights m before here =
        subst AreLight (sym (map_more (λ m. trial sig q (sizes ++ (m + 1) ∷ []) []) m))
        (All-push (IsLight sig limit) (size_trials sig q sizes m) (trial sig q (sizes ++ (m + 1) ∷ []) []) before here)

    -- the size that the world has is tried at last
    pub size-bound : (w : World) → MeetsQuery sig (trial sig q sizes []) w → ¬ ((j : ℕ) → j < slice_index w.sizes (length sizes) → HasNoWorld sig (trial sig q (sizes ++ (j + 1) ∷ []) []))
    size-bound w meets none =
        let n = slice_index w.sizes (length sizes) in
        let t = next_size sig q sizes w ((trial_means sig q sizes [] is sorted can_try w).0 meets) in
        let met : MeetsQuery sig (trial sig q (sizes ++ n ∷ []) []) w = (trial_means sig q (sizes ++ n ∷ []) [] is sorted (can_try_size sig q.copies sizes n more) w).1 t in
        let within : length sizes < length w.sizes = omega (arith, meets.fits.sorts) in
        let positive : 1 ≤ n = meets.fits.nonempty (length sizes) 0 within in
        let lt : n - 1 < n = omega arith in
        let e : n - 1 + 1 ≡ n = omega arith in
        none (n - 1) lt w (subst (λ m. MeetsQuery sig (trial sig q (sizes ++ m ∷ []) []) w) (sym e) met)

    module _ (s : IsSettled sig q limit sizes []) (m : ℕ) (none : (j : ℕ) → j < m → HasNoWorld sig (trial sig q (sizes ++ (j + 1) ∷ []) [])) (lights : AreLight (size_trials sig q sizes m)) where
      next-is : HasWorld sig (trial sig q (sizes ++ (m + 1) ∷ []) []) → IsNextSize sig q sizes (m + 1)
      next-is some = record { positive = omega arith; some = some; fewer = fewer }
        where
          fewer : (k : ℕ) → 1 ≤ k → k < m + 1 → HasNoWorld sig (trial sig q (sizes ++ k ∷ []) [])
          fewer k one lt =
              let below : k - 1 < m = omega arith in
              let e : k - 1 + 1 ≡ k = omega arith in
              subst (λ k. HasNoWorld sig (trial sig q (sizes ++ k ∷ []) [])) e (none (k - 1) below)

      pub size-found : (w : World) → MeetsQuery sig (trial sig q (sizes ++ (m + 1) ∷ []) []) w → IsLight sig limit (trial sig q (sizes ++ (m + 1) ∷ []) []) →
          IsSettled sig q limit (sizes ++ (m + 1) ∷ []) []
      size-found w meets light = record {
        some = s.some;
        next_sizes = each-more (λ k ns n. IsNextSize sig q ns n) sizes (m + 1) s.next_sizes (next-is (w, meets));
        next_values = λ k lt. absurd (omega arith);
        light = s.light;
        light_sizes = each-more (λ k ns n. AreLight (size_trials sig q ns n)) sizes (m + 1) s.light_sizes (size-lights m lights light);
        light_values = λ k lt. absurd (omega arith);
      }

      pub size-excess : (x : Excess) → (x.query ≡ trial sig q (sizes ++ (m + 1) ∷ []) []) × (x.weight ≡ query_weight sig (trial sig q (sizes ++ (m + 1) ∷ []) [])) × (limit < x.weight) → IsExcess sig q limit x
      size-excess x (e, weight, above) = record {
        before = queries_for sig q sizes [] ++ size_trials sig q sizes m;
        asked = subst (IsAsked sig q (queries_for sig q sizes [] ++ size_trials sig q sizes m)) (sym e) (for_size sizes m s.some s.next_sizes more none);
        light = All-append (IsLight sig limit) (queries_for sig q sizes []) (size_trials sig q sizes m) (light-queries sizes [] s) lights;
        weight = weight ∙ ap (query_weight sig) (sym e);
        above = above;
      }

  -- ---- values

  module _ (sizes values : List ℕ) (all : length sizes ≡ sig.sorts) (more : length values < length (cells sig sizes q.copies)) (s : IsSettled sig q limit sizes values) where
    settled : CanTry sig q.copies sizes values × ((w : World) × MeetsTrial sig q sizes values w)
    settled = settled-world sig q is sorted sizes all values (omega arith) s.some s.next_sizes s.next_values

    can_try_next : (v : ℕ) → v < range_at sig q sizes (length values) → CanTry sig q.copies sizes (values ++ v ∷ [])
    can_try_next v lt = can_try_value sig q.copies sizes values v all more settled.0 lt

    pub value-is-query : (v : ℕ) → v < range_at sig q sizes (length values) → IsQuery sig (trial sig q sizes (values ++ v ∷ []))
    value-is-query v lt = trial_is_query sig q sizes (values ++ v ∷ []) is sorted (can_try_next v lt)

    -- one value more that no world has
    pub value-lights : (v : ℕ) → AreLight (value_trials sig q sizes values v) → IsLight sig limit (trial sig q sizes (values ++ v ∷ [])) → AreLight (value_trials sig q sizes values (v + 1))
    value-lights v before here =
        subst AreLight (sym (map_more (λ v. trial sig q sizes (values ++ v ∷ [])) v))
        (All-push (IsLight sig limit) (value_trials sig q sizes values v) (trial sig q sizes (values ++ v ∷ [])) before here)

    -- some value in range is had
    pub value-bound : ¬ ((u : ℕ) → u < range_at sig q sizes (length values) → HasNoWorld sig (trial sig q sizes (values ++ u ∷ [])))
    value-bound none =
        let found = next_value sig q sizes values settled.1.0 is settled.1.1 all more in
        none found.0 found.1 settled.1.0 ((trial_means sig q sizes (values ++ found.0 ∷ []) is sorted (can_try_next found.0 found.1) settled.1.0).1 found.2)

    pub value-settled : (v : ℕ) → IsNextValue sig q (is_relation_at sig q sizes (length values)) sizes values v →
        AreLight (value_trials sig q sizes values (tried sig q (is_relation_at sig q sizes (length values)) v)) → IsSettled sig q limit sizes (values ++ v ∷ [])
    value-settled v next lights = record {
      some = s.some;
      next_sizes = s.next_sizes;
      next_values = each-more (λ k vs u. IsNextValue sig q (is_relation_at sig q sizes k) sizes vs u) values v s.next_values next;
      light = s.light;
      light_sizes = s.light_sizes;
      light_values = each-more (λ k vs u. AreLight (value_trials sig q sizes vs (tried sig q (is_relation_at sig q sizes k) u))) values v s.light_values lights;
    }

    pub value-excess : (v : ℕ) → (is_relation_at sig q sizes (length values) ≡ true → v ≡ 0) → ((u : ℕ) → u < v → HasNoWorld sig (trial sig q sizes (values ++ u ∷ []))) →
        AreLight (value_trials sig q sizes values v) → (x : Excess) →
        (x.query ≡ trial sig q sizes (values ++ v ∷ [])) × (x.weight ≡ query_weight sig (trial sig q sizes (values ++ v ∷ []))) × (limit < x.weight) → IsExcess sig q limit x
    value-excess v zero_if none lights x (e, weight, above) = record {
      before = queries_for sig q sizes values ++ value_trials sig q sizes values v;
      asked = subst (IsAsked sig q (queries_for sig q sizes values ++ value_trials sig q sizes values v)) (sym e)
          (for_value sizes values v s.some s.next_sizes all s.next_values more zero_if none);
      light = All-append (IsLight sig limit) (queries_for sig q sizes values) (value_trials sig q sizes values v) (light-queries sizes values s) lights;
      weight = weight ∙ ap (query_weight sig) (sym e);
      above = above;
    }

    -- a relation's one trial
    module _ (kind : is_relation_at sig q sizes (length values) ≡ true) where
      one-light : (b : Bool) (v : ℕ) → b ≡ true → IsLight sig limit (trial sig q sizes (values ++ 0 ∷ [])) → AreLight (value_trials sig q sizes values (tried sig q b v))
      one-light b v e light =
          subst (λ b. AreLight (value_trials sig q sizes values (tried sig q b v))) (sym e)
          (All-cons (IsLight sig limit) (trial sig q sizes (values ++ 0 ∷ [])) [] light (All-nil (IsLight sig limit)))

      pub truth-met : (w : World) → MeetsQuery sig (trial sig q sizes (values ++ 0 ∷ [])) w → IsLight sig limit (trial sig q sizes (values ++ 0 ∷ [])) → IsSettled sig q limit sizes (values ++ 0 ∷ [])
      truth-met w meets light =
          value-settled 0 (subst (λ b. IsNextValue sig q b sizes values 0) (sym kind) (inl (refl, (w, meets)))) (one-light (is_relation_at sig q sizes (length values)) 0 kind light)

      pub truth-none : HasNoWorld sig (trial sig q sizes (values ++ 0 ∷ [])) → IsLight sig limit (trial sig q sizes (values ++ 0 ∷ [])) → IsSettled sig q limit sizes (values ++ 1 ∷ [])
      truth-none none light =
          value-settled 1 (subst (λ b. IsNextValue sig q b sizes values 1) (sym kind) (inr (refl, none))) (one-light (is_relation_at sig q sizes (length values)) 1 kind light)

    -- a function's trials
    module _ (kind : is_relation_at sig q sizes (length values) ≡ false) where
      pub element-met : (v : ℕ) (w : World) → ((u : ℕ) → u < v → HasNoWorld sig (trial sig q sizes (values ++ u ∷ []))) → AreLight (value_trials sig q sizes values v) →
          MeetsQuery sig (trial sig q sizes (values ++ v ∷ [])) w → IsLight sig limit (trial sig q sizes (values ++ v ∷ [])) → IsSettled sig q limit sizes (values ++ v ∷ [])
      element-met v w none lights meets light =
          value-settled v (subst (λ b. IsNextValue sig q b sizes values v) (sym kind) (record { some = (w, meets); lesser = none }))
          (subst (λ b. AreLight (value_trials sig q sizes values (tried sig q b v))) (sym kind) (value-lights v lights light))

  -- ---- the world

  module _ (sizes values : List ℕ) (all : length sizes ≡ sig.sorts) (each : length values ≡ length (cells sig sizes q.copies)) (s : IsSettled sig q limit sizes values) where
    pub sizes-positive : All (λ n. 1 ≤ n) sizes
    sizes-positive = All-from_get_or (λ n. 1 ≤ n) sizes 0 (λ k lt. (s.next_sizes k lt).positive)

    pub values-in-range : AreInRange sig q.copies sizes values
    values-in-range = (settled-world sig q is sorted sizes all values (omega arith) s.some s.next_sizes s.next_values).0.in_range

    pub world-found : (w : World) → Fits sig w → length w.copies ≡ q.copies → w.sizes ≡ sizes → world_values w ≡ values → IsFoundLeast sig q limit (Model w)
    world-found w fits copies sizes_are values_are =
        let next_sizes : AreNextSizes sig q w.sizes = subst (AreNextSizes sig q) (sym sizes_are) s.next_sizes in
        let next_values : AreNextValues sig q w.sizes (world_values w) =
        subst (λ ns. AreNextValues sig q ns (world_values w)) (sym sizes_are) (subst (AreNextValues sig q sizes) (sym values_are) s.next_values) in (
          least_world sig q w is sorted s.some next_sizes next_values fits copies,
          subst (λ ns. AreLight (queries_for sig q ns (world_values w))) (sym sizes_are) (subst (λ vs. AreLight (queries_for sig q sizes vs)) (sym values_are) (light-queries sizes values s)),
        )

-- ---- answers

module _ (sig : Sig) (before limit : ℕ) (same : before ≡ limit) (p : Query) (a : Answer) (h : IsQueryAnswer sig before p a) where
  at : (b : Answer) → a ≡ b → IsQueryAnswer sig limit p b
  at b e = subst (IsQueryAnswer sig limit p) e (subst (λ n. IsQueryAnswer sig n p a) same h)

  pub answer-met : (w : World) → a ≡ Answers.Met w → MeetsQuery sig p w × IsLight sig limit p
  answer-met w e = at (Answers.Met w) e

  pub answer-none : a ≡ Answers.Nothing → HasNoWorld sig p × IsLight sig limit p
  answer-none e = at Answers.Nothing e

  pub answer-over : (x : Excess) → a ≡ Answers.Over x → (x.query ≡ p) × (x.weight ≡ query_weight sig p) × (limit < x.weight)
  answer-over x e = at (Answers.Over x) e

-- ---- the next size, in a search

-- a trial of a size can be asked where the query can be
pub can-ask-size : (s : Search) → IsSearch s → (sizes : List ℕ) → length sizes < sorts_of s → (n : ℕ) →
    CanSearch s.sys.now s.order.now (trial (sig_of s) (query_of s) (sizes ++ n ∷ []) [])
can-ask-size s can sizes more n = record {
  sig = can.sig;
  query = size-is-query (sig_of s) (query_of s) 0 can.sig can.query sizes more n;
  rises = trial_rises (sig_of s) (query_of s) (sizes ++ n ∷ []) [] s.order.now.numbers can.rises;
}

-- no world has this size after these
abbrev pub HasNoSize : Search → List ℕ → ℕ → Type 0
HasNoSize s sizes n = HasNoWorld (sig_of s) (trial (sig_of s) (query_of s) (sizes ++ n ∷ []) [])

-- the first m trials are light
abbrev pub AreLightSizes : Search → ℕ → List ℕ → ℕ → Type 0
AreLightSizes s limit sizes m = All (IsLight (sig_of s) limit) (size_trials (sig_of s) (query_of s) sizes m)

-- a world that has the sizes has one of those that are tried
pub some-size : (s : Search) (limit : ℕ) → IsSearch s → (sizes : List ℕ) → length sizes < sorts_of s → (w : World) → HasSizes s sizes w →
    ¬ ((j : ℕ) → j < slice_index w.sizes (length sizes) → HasNoSize s sizes (j + 1))
some-size s limit can sizes more w has = size-bound (sig_of s) (query_of s) limit can.sig can.query sizes more w has

-- an answer to a trial whose like before were answered that there is no world
module _ (s : Search) (limit : ℕ) (can : IsSearch s) (sizes : List ℕ) (more : length sizes < sorts_of s) (settled : AreSettled s limit sizes [])
    (m : ℕ) (none : (j : ℕ) → j < m → HasNoSize s sizes (j + 1)) (light : AreLightSizes s limit sizes m)
    (before : ℕ) (same : before ≡ limit) (a : Answer) (h : IsSizeAnswer s before sizes (m + 1) a) where
  abbrev tried_size : Query
  tried_size = trial (sig_of s) (query_of s) (sizes ++ (m + 1) ∷ []) []

  pub met-size : (w : World) → a ≡ Answers.Met w → IsSizeFound s limit sizes (Sizes.Found (m + 1) w)
  met-size w e =
      let met = answer-met (sig_of s) before limit same tried_size a h w e in
      (size-found (sig_of s) (query_of s) limit can.sig can.query sizes more settled m none light w met.0 met.1, met.0)

  pub no-size : a ≡ Answers.Nothing → ((j : ℕ) → j < m + 1 → HasNoSize s sizes (j + 1)) × AreLightSizes s limit sizes (m + 1)
  no-size e =
      let missing = answer-none (sig_of s) before limit same tried_size a h e in
      (below_more (λ j. HasNoSize s sizes (j + 1)) m none missing.0, size-lights (sig_of s) (query_of s) limit can.sig can.query sizes more m light missing.1)

  pub over-size : (x : Excess) → a ≡ Answers.Over x → IsAbove s limit x
  over-size x e =
      size-excess (sig_of s) (query_of s) limit can.sig can.query sizes more settled m none light x
      (answer-over (sig_of s) before limit same tried_size a h x e)

-- ---- the next value, in a search whose sizes are settled

-- there is a next entry
pub some-entry : (e : Entries) → AreEntries e → (values : List ℕ) → length values < length e.cells.now →
    length values < length (cells (sig_of e.search) e.sizes.now (query_of e.search).copies)
some-entry e are values more = subst (λ (cs : List Cell). length values < length cs) are.all more

-- no world has this value after these
abbrev pub HasNoValue : Entries → List ℕ → ℕ → Type 0
HasNoValue e values v = HasNoWorld (sig_of e.search) (trial (sig_of e.search) (query_of e.search) e.sizes.now (values ++ v ∷ []))

-- the first v trials are light
abbrev pub AreLightValues : Entries → ℕ → List ℕ → ℕ → Type 0
AreLightValues e limit values v = All (IsLight (sig_of e.search) limit) (value_trials (sig_of e.search) (query_of e.search) e.sizes.now values v)

module _ (e : Entries) (limit : ℕ) (are : AreEntries e) (values : List ℕ) (more : length values < length e.cells.now) (settled : AreValuesSettled e limit values) where
  abbrev own_sig : Sig
  own_sig = sig_of e.search

  abbrev own_query : Query
  own_query = query_of e.search

  abbrev own_sizes : List ℕ
  own_sizes = e.sizes.now

  abbrev tried_value : ℕ → Query
  tried_value v = trial own_sig own_query own_sizes (values ++ v ∷ [])

  next : length values < length (cells own_sig own_sizes own_query.copies)
  next = some-entry e are values more

  -- a trial of a value can be asked where the query can be
  pub can-ask-value : (v : ℕ) → v < range_next e values → CanSearch e.search.sys.now e.search.order.now (tried_value v)
  can-ask-value v in_range = record {
    sig = are.can.sig;
    query = value-is-query own_sig own_query limit are.can.sig are.can.query own_sizes values are.sorts next settled v in_range;
    rises = trial_rises own_sig own_query own_sizes (values ++ v ∷ []) e.search.order.now.numbers are.can.rises;
  }

  -- some world has one of the values that are tried
  pub some-value : ¬ ((u : ℕ) → u < range_next e values → HasNoValue e values u)
  some-value = value-bound own_sig own_query limit are.can.sig are.can.query own_sizes values are.sorts next settled

  -- an answer to a trial whose like before were answered that there is no world
  module _ (v : ℕ) (none : (u : ℕ) → u < v → HasNoValue e values u) (light : AreLightValues e limit values v) (before : ℕ) (same : before ≡ limit) (a : Answer) (h : IsValueAnswer e before values v a) where
    pub met-element : is_relation_next e values ≡ false → (w : World) → a ≡ Answers.Met w → AreValuesSettled e limit (values ++ v ∷ [])
    met-element function w is =
        let met = answer-met own_sig before limit same (tried_value v) a h w is in
        element-met own_sig own_query limit are.can.sig are.can.query own_sizes values are.sorts next settled function v w none light met.0 met.1

    pub no-element : a ≡ Answers.Nothing → ((u : ℕ) → u < v + 1 → HasNoValue e values u) × AreLightValues e limit values (v + 1)
    no-element is =
        let missing = answer-none own_sig before limit same (tried_value v) a h is in (
          below_more (HasNoValue e values) v none missing.0,
          value-lights own_sig own_query limit are.can.sig are.can.query own_sizes values are.sorts next settled v light missing.1,
        )

    pub over-value : (is_relation_next e values ≡ true → v ≡ 0) → (x : Excess) → a ≡ Answers.Over x → IsAbove e.search limit x
    over-value one x is =
        value-excess own_sig own_query limit are.can.sig are.can.query own_sizes values are.sorts next settled v one none light x
        (answer-over own_sig before limit same (tried_value v) a h x is)

  -- an answer to the one trial of a relation's value
  module _ (relation : is_relation_next e values ≡ true) (a : Answer) (h : IsValueAnswer e limit values 0 a) where
    pub met-truth : (w : World) → a ≡ Answers.Met w → AreValuesSettled e limit (values ++ 0 ∷ [])
    met-truth w is =
        let met = answer-met own_sig limit limit refl (tried_value 0) a h w is in
        truth-met own_sig own_query limit are.can.sig are.can.query own_sizes values are.sorts next settled relation w met.0 met.1

    pub no-truth : a ≡ Answers.Nothing → AreValuesSettled e limit (values ++ 1 ∷ [])
    no-truth is =
        let missing = answer-none own_sig limit limit refl (tried_value 0) a h is in
        truth-none own_sig own_query limit are.can.sig are.can.query own_sizes values are.sorts next settled relation missing.0 missing.1

    pub over-truth : (x : Excess) → a ≡ Answers.Over x → IsAbove e.search limit x
    over-truth x is = over-value 0 (λ u lt. absurd (omega arith)) (All-nil (IsLight own_sig limit)) limit refl a h (λ _. refl) x is

-- the first query is above the limit
pub first-excess : (sig : Sig) (q p : Query) (limit : ℕ) (x : Excess) → p ≡ q → (x.query ≡ p) × (x.weight ≡ query_weight sig p) × (limit < x.weight) → IsExcess sig q limit x
first-excess sig q p limit x same (e, weight, above) = record {
  before = [];
  asked = subst (IsAsked sig q []) (sym (e ∙ same)) at_first;
  light = All-nil (IsLight sig limit);
  weight = weight ∙ ap (query_weight sig) (sym e);
  above = above;
}

-- the sizes, and the values, that were found are settled
pub sizes-found : (s : Search) (limit : ℕ) (a : AllSizes) (sizes : List ℕ) (w : World) → a ≡ Every.Found sizes w → AreSizesFound s limit a → AreSettled s limit sizes [] × (length sizes ≡ sorts_of s) × HasSizes s sizes w
sizes-found s limit a sizes w e h = subst (AreSizesFound s limit) e h

pub values-found : (s : Search) (before limit : ℕ) (a : Numbers) (lent sizes values : List ℕ) → before ≡ limit → lent ≡ sizes → a ≡ All_of.Found values → AreValuesFound s before lent a →
    AreSettled s limit sizes values × (length values ≡ length (cells (sig_of s) sizes (query_of s).copies))
values-found s before limit a lent sizes values same alike e h =
    subst (AreValuesFound s limit sizes) e (subst (λ ns. AreValuesFound s limit ns a) alike (subst (λ n. AreValuesFound s n lent a) same h))

pub lent-in-range : (sig : Sig) (copies : ℕ) (lent sizes lent_values values : List ℕ) → lent ≡ sizes → lent_values ≡ values → AreInRange sig copies sizes values → AreInRange sig copies lent lent_values
lent-in-range sig copies lent sizes lent_values values s v h = subst (λ ns. AreInRange sig copies ns lent_values) (sym s) (subst (AreInRange sig copies sizes) (sym v) h)

-- a function's values are of a sort of the signature
pub result-sort : (sig : Sig) (sorts k : ℕ) (s : Symbol) → IsSig sig → k < length sig.symbols → sorts ≡ sig.sorts → s ≡ symbol_at sig k → s.relation ≡ false → s.result < sorts
result-sort sig sorts k s is within all e function =
    let has : HasSorts sorts s = subst (λ n. HasSorts n s) (sym all) (subst (HasSorts sig.sorts) (sym e) (symbol-sorts sig k is within)) in
    has.result function

-- what is false isn't true
pub not_true : (b : Bool) (P : Type 0) → b ≡ false → b ≡ true → P
not_true b P is_false is_true = let e : false ≡ true = sym is_false ∙ is_true in cc
