-- One step of the search: the next element of a sort gets an image.
use Rattle.std.proofs.Common.{◌≡◌, ℕ, zero, suc, ◌+◌, ◌-◌, ◌*◌, ◌<◌, ◌≤◌, List, [], ◌∷◌, ◌++◌, length, get_or, set, take, refl, sym, ap, subst, ◌∙◌, arith, inl, inr, ◌⊎◌, length-append}
use Rattle.std.specs.List.{Contains, concat, sum}
use Rattle.std.specs.Prelude.{slice_index}
use Rattle.std.proofs.lemmas.Bool.{cases_lt, cases_eq, cases_order}
use Rattle.std.proofs.lemmas.List.{get_or-set_same, get_or-set_other, length-set, get_or_append_left, get_or_push, get_or_default, get_or_past, take_at}
use Rattle.std.proofs.lemmas.List.Sums.{get_or-le-sum_by}
use Rattle.fo_core.specs.declared.signature.Sig.{Sig}
use Rattle.fo_core.specs.declared.world.World.{World}
use Rattle.fo_core.specs.Tables.{symbol_at, entry}
use Rattle.fo_core.specs.Embedding.{image, IsEmbedding}
use Rattle.fo_core.specs.Runs.{AreElements}
use Rattle.fo_core.specs.SortGraph.{ComesFirst}
use Rattle.fo_embed.specs.Compared.{CanCompare, IsFirstEmbedding}
use Rattle.fo_embed.specs.Placing.{images_of, placed, with_image, AreDistinct, IsPart, AllAgree}
use Rattle.fo_embed.specs.Searching.{Begin, IsFilledTo, IsBegun, HasNoneBehind, HasNoneWith, IsFirstBehind}
use Rattle.fo_embed.proofs.Placed.{placed-at}
use Rattle.fo_embed.proofs.Comparing.{injections-of, embedding-of}
use Rattle.fo_embed.proofs.Begun.{begin-self, begin-empty, begin-image, begin-images, begin-more, begin-less}
use Rattle.fo_embed.proofs.Ordered.{comes-self, comes-before, begun-full}

size-le : (sizes : List ℕ) (s : ℕ) → slice_index sizes s ≤ sum sizes
size-le sizes s = by_cases (cases_lt s (length sizes))
  where
    by_cases : (s < length sizes) ⊎ (length sizes ≤ s) → slice_index sizes s ≤ sum sizes
    by_cases (inl lt) = get_or-le-sum_by (λ x. x) sizes s 0 lt
    by_cases (inr le) = omega (arith, get_or_past sizes s 0 le)

-- a list of distinct numbers with a new one behind
distinct-push : (xs : List ℕ) (y : ℕ) → AreDistinct xs → ((i : ℕ) → i < length xs → ¬ (slice_index xs i ≡ y)) → AreDistinct (xs ++ y ∷ [])
distinct-push xs y h new i j lt lt' e = by_cases (cases_lt i (length xs)) (cases_lt j (length xs))
  where
    few : length (xs ++ y ∷ []) ≡ length xs + 1
    few = length-append xs (y ∷ [])

    front : (k : ℕ) → k < length xs → slice_index (xs ++ y ∷ []) k ≡ slice_index xs k
    front k in_ = get_or_append_left xs (y ∷ []) 0 k in_

    last : (k : ℕ) → k < length (xs ++ y ∷ []) → length xs ≤ k → slice_index (xs ++ y ∷ []) k ≡ y
    last k in_ le = get_or_push xs y 0 k (omega (arith, few, in_, le))

    by_cases : (i < length xs) ⊎ (length xs ≤ i) → (j < length xs) ⊎ (length xs ≤ j) → i ≡ j
    by_cases (inl a) (inl b) = h i j a b (sym (front i a) ∙ e ∙ front j b)
    by_cases (inl a) (inr b) = absurd (new i a (sym (front i a) ∙ e ∙ last j lt' b))
    by_cases (inr a) (inl b) = absurd (new j b (sym (front j b) ∙ sym e ∙ last i lt a))
    by_cases (inr a) (inr b) = omega (arith, few, lt, lt')

-- the images with one more
same-sort : (maps : List (List ℕ)) (s y : ℕ) → s < length maps → images_of (with_image maps s y) s ≡ images_of maps s ++ y ∷ []
same-sort maps s y lt = get_or-set_same maps s (images_of maps s ++ y ∷ []) [] lt

other-sort : (maps : List (List ℕ)) (s y t : ℕ) → (t ≡ s → ⊥) → images_of (with_image maps s y) t ≡ images_of maps t
other-sort maps s y t ne = get_or-set_other maps s t (images_of maps s ++ y ∷ []) [] ne

module _ (from to : List ℕ) (maps : List (List ℕ)) (s y : ℕ) (part : IsPart from to maps) (within : s < length maps) (more : length (images_of maps s) < slice_index from s) where
  grown : images_of (with_image maps s y) s ≡ images_of maps s ++ y ∷ []
  grown = same-sort maps s y within

  one-more : length (images_of maps s ++ y ∷ []) ≡ length (images_of maps s) + 1
  one-more = length-append (images_of maps s) (y ∷ [])

  -- what holds of the images of the sort with one more, and of those of the others, holds of all
  by_sort : (P : ℕ → List ℕ → Type 0) → P s (images_of maps s ++ y ∷ []) → ((t : ℕ) → P t (images_of maps t)) → (t : ℕ) → P t (images_of (with_image maps s y) t)
  by_sort P here there t = by_cases (cases_eq t s)
    where
      by_cases : (t ≡ s) ⊎ (t ≡ s → ⊥) → P t (images_of (with_image maps s y) t)
      by_cases (inl e) = subst (λ t. P t (images_of (with_image maps s y) t)) (sym e) (subst (P s) (sym grown) here)
      by_cases (inr ne) = subst (P t) (sym (other-sort maps s y t ne)) (there t)

  pub part-more : y < slice_index to s → ((i : ℕ) → i < length (images_of maps s) → ¬ (image maps s i ≡ y)) → IsPart from to (with_image maps s y)
  part-more below new = record {
    one_each = length-set maps s (images_of maps s ++ y ∷ []) ∙ part.one_each;
    some = by_sort (λ t xs. length xs ≤ slice_index from t) (omega (arith, one-more, more)) part.some;
    in_range = by_sort (λ t xs. (x : ℕ) → x < length xs → slice_index xs x < slice_index to t) pushed part.in_range;
    injective = by_sort (λ t xs. AreDistinct xs) (distinct-push (images_of maps s) y (part.injective s) new) part.injective;
  }
    where
      pushed : (x : ℕ) → x < length (images_of maps s ++ y ∷ []) → slice_index (images_of maps s ++ y ∷ []) x < slice_index to s
      pushed x lt = by_cases (cases_lt x (length (images_of maps s)))
        where
          by_cases : (x < length (images_of maps s)) ⊎ (length (images_of maps s) ≤ x) → slice_index (images_of maps s ++ y ∷ []) x < slice_index to s
          by_cases (inl in_) = subst (λ z. z < slice_index to s) (sym (get_or_append_left (images_of maps s) (y ∷ []) 0 x in_)) (part.in_range s x in_)
          by_cases (inr le) = subst (λ z. z < slice_index to s) (sym (get_or_push (images_of maps s) y 0 x (omega (arith, one-more, lt, le)))) below

  pub filled-more : IsFilledTo from maps s → IsFilledTo from (with_image maps s y) s
  filled-more f = record {
    full = λ t lt. ap length (other-sort maps s y t (λ e. absurd (omega (arith, lt, e)))) ∙ f.full t lt;
    empty = λ t lt. other-sort maps s y t (λ e. absurd (omega (arith, lt, e))) ∙ f.empty t lt;
  }

module _ (sig : Sig) (v : World) (c : ℕ) (w : World) (d : ℕ) (h : CanCompare sig v c w d) where
  -- where an embedding goes on with maps, the tables agree as far as these go
  pub agree-part : (maps other : List (List ℕ)) → IsPart v.sizes w.sizes maps → Begin maps other → IsEmbedding sig v c w d other → AllAgree sig v c w d maps
  agree-part maps other part begins m k lt xs e =
      let elements = all-elements xs (symbol_at sig k).args e in
      let same = begin-images maps other begins (symbol_at sig k).args xs e in
      record {
        relation = λ is. ap (entry sig w d k) same ∙ m.relations k xs lt is elements;
        function = λ is in_. ap (entry sig w d k) same ∙ m.functions k xs lt is elements ∙ begin-image maps other (symbol_at sig k).result (entry sig v c k xs) begins in_;
      }
    where
      all-elements : (xs ss : List ℕ) → AreElements (placed maps) xs ss → AreElements v.sizes xs ss
      all-elements [] [] a = a
      all-elements [] (s ∷ ss) a = absurd a
      all-elements (x ∷ xs) [] a = absurd a
      all-elements (x ∷ xs) (s ∷ ss) a = (omega (arith, subst (λ n. x < n) (placed-at maps s) a.0, part.some s), all-elements xs ss a.1)

  -- an embedding that goes on with maps has more images of a sort that isn't full
  other-length : (other : List (List ℕ)) → IsEmbedding sig v c w d other → (s : ℕ) → s < length v.sizes → length (images_of other s) ≡ slice_index v.sizes s
  other-length other m s lt = m.injections.total s lt

  module _ (maps : List (List ℕ)) (s : ℕ) (begun : IsBegun sig v c w d maps s) where
    full-to : (other : List (List ℕ)) → IsEmbedding sig v c w d other → (t : ℕ) → t < s → length (images_of other t) ≡ length (images_of maps t)
    full-to other m t lt = other-length other m t (omega (arith, lt, begun.sort, begun.part.one_each)) ∙ sym (begun.filled.full t lt)

    -- all elements have images
    pub is-first : s ≡ length maps → IsFirstBehind sig v c w d maps maps
    is-first e = record {
      embeds = embedding-of sig v c w d h maps (injections-of sig v c w d h maps begun.part full) begun.agree;
      begins = begin-self maps;
      first = λ other b m. subst (λ zs. ComesFirst (concat maps) (concat zs)) (sym (begun-full maps other b (λ t lt. full-to other m t (omega (arith, e, lt))))) (comes-self (concat maps));
    }
      where
        full : (t : ℕ) → t < length v.sizes → length (images_of maps t) ≡ slice_index v.sizes t
        full t lt = begun.filled.full t (omega (arith, lt, e, begun.part.one_each))

    -- all elements of the sort have images
    pub next-sort : s < length maps → length (images_of maps s) ≡ slice_index v.sizes s → IsBegun sig v c w d maps (s + 1)
    next-sort lt e = record {
      part = begun.part;
      agree = begun.agree;
      filled = record { full = full; empty = λ t lt. begun.filled.empty t (omega (arith, lt)) };
      sort = omega (arith, lt);
    }
      where
        full : (t : ℕ) → t < s + 1 → length (images_of maps t) ≡ slice_index v.sizes t
        full t lt = by_cases (cases_eq t s)
          where
            by_cases : (t ≡ s) ⊎ (t ≡ s → ⊥) → length (images_of maps t) ≡ slice_index v.sizes t
            by_cases (inl same) = subst (λ t. length (images_of maps t) ≡ slice_index v.sizes t) (sym same) e
            by_cases (inr ne) = begun.filled.full t (omega (arith, lt, ne))

    module _ (within : s < length maps) (more : length (images_of maps s) < slice_index v.sizes s) where
      other-more : (other : List (List ℕ)) → IsEmbedding sig v c w d other → length (images_of maps s) < length (images_of other s)
      other-more other m = subst (λ n. length (images_of maps s) < n) (sym (other-length other m s (omega (arith, within, begun.part.one_each)))) more

      -- an image that another element has serves no embedding
      pub none-twice : (i y : ℕ) → i < length (images_of maps s) → image maps s i ≡ y → HasNoneWith sig v c w d maps s y
      none-twice i y lt e other begins is m =
          let sort : s < length v.sizes = omega (arith, within, begun.part.one_each) in
          let size = other-length other m s sort in
          let next : length (images_of maps s) < slice_index v.sizes s = more in
          let low : i < slice_index v.sizes s = omega (arith, lt, next) in
          let same : i ≡ length (images_of maps s) = m.injections.injective s i (length (images_of maps s)) sort low next (begin-image maps other s i begins lt ∙ e ∙ sym is) in
          absurd (omega (arith, same, lt))

      module _ (y : ℕ) where
        -- nor does one with which the tables don't agree
        pub none-agree : IsPart v.sizes w.sizes (with_image maps s y) → ¬ AllAgree sig v c w d (with_image maps s y) → HasNoneWith sig v c w d maps s y
        none-agree part fails other begins is m = fails (agree-part (with_image maps s y) other part (begin-more maps other s y begins within (other-more other m) is) m)

        pub begun-more : IsPart v.sizes w.sizes (with_image maps s y) → AllAgree sig v c w d (with_image maps s y) → IsBegun sig v c w d (with_image maps s y) s
        begun-more part agree = record {
          part = part;
          agree = agree;
          filled = filled-more v.sizes w.sizes maps s y begun.part within more begun.filled;
          sort = omega (arith, within, part.one_each, begun.part.one_each);
        }

        pub none-with : HasNoneBehind sig v c w d (with_image maps s y) → HasNoneWith sig v c w d maps s y
        none-with none other begins is m = none other (begin-more maps other s y begins within (other-more other m) is) m

        -- what is first with the image is first, where none has a smaller one
        pub first-with : (found : List (List ℕ)) → ((z : ℕ) → z < y → HasNoneWith sig v c w d maps s z) → IsFirstBehind sig v c w d (with_image maps s y) found → IsFirstBehind sig v c w d maps found
        first-with found before f = record { embeds = f.embeds; begins = less.0; first = first }
          where
            less : Begin maps found × (length (images_of maps s) < length (images_of found s)) × (image found s (length (images_of maps s)) ≡ y)
            less = begin-less maps found s y within f.begins

            first : (other : List (List ℕ)) → Begin maps other → IsEmbedding sig v c w d other → ComesFirst (concat found) (concat other)
            first other begins m = by_order (cases_order (image other s (length (images_of maps s))) y)
              where
                z : ℕ
                z = image other s (length (images_of maps s))

                by_order : (image other s (length (images_of maps s)) ≡ y) ⊎ ((image other s (length (images_of maps s)) < y) ⊎ (y < image other s (length (images_of maps s)))) → ComesFirst (concat found) (concat other)
                by_order (inl same) = f.first other (begin-more maps other s y begins within (other-more other m) same) m
                by_order (inr (inl lt)) = absurd (before (image other s (length (images_of maps s))) lt other begins refl m)
                by_order (inr (inr gt)) =
                    comes-before maps found other s less.0 begins within (full-to found f.embeds) (full-to other m) less.1 (other-more other m)
                    (subst (λ a. a < image other s (length (images_of maps s))) (sym less.2) gt)

      -- no embedding where no image serves
      pub none-left : (n : ℕ) → slice_index w.sizes s ≤ n → ((y : ℕ) → y < n → HasNoneWith sig v c w d maps s y) → HasNoneBehind sig v c w d maps
      none-left n le none other begins m =
          let below = m.injections.in_range s (length (images_of maps s)) (omega (arith, within, begun.part.one_each)) more in
          none (image other s (length (images_of maps s))) (omega (arith, below, le)) other begins refl m

  -- maps without images
  module _ (maps : List (List ℕ)) (sorts : length maps ≡ length v.sizes) (none : (t : ℕ) → images_of maps t ≡ []) where
    pub part-empty : IsPart v.sizes w.sizes maps
    part-empty = record {
      one_each = sorts;
      some = λ t. omega (arith, ap length (none t));
      in_range = λ t x lt. absurd (omega (arith, ap length (none t), lt));
      injective = λ t i j lt lt' e. absurd (omega (arith, ap length (none t), lt));
    }

    pub begun-empty : AllAgree sig v c w d maps → IsBegun sig v c w d maps 0
    begun-empty agree = record { part = part-empty; agree = agree; filled = record { full = λ t lt. absurd (omega (arith, lt)); empty = λ t lt. none t }; sort = omega arith }

    begins-all : (other : List (List ℕ)) → IsEmbedding sig v c w d other → Begin maps other
    begins-all other m = begin-empty maps other none (m.injections.one_each ∙ sym sorts)

    pub none-disagree : ¬ AllAgree sig v c w d maps → (other : List (List ℕ)) → ¬ IsEmbedding sig v c w d other
    none-disagree fails other m = fails (agree-part maps other part-empty (begins-all other m) m)

    pub none-at-all : HasNoneBehind sig v c w d maps → (other : List (List ℕ)) → ¬ IsEmbedding sig v c w d other
    none-at-all fails other m = fails other (begins-all other m) m

    pub first-of-all : (found : List (List ℕ)) → IsFirstBehind sig v c w d maps found → IsFirstEmbedding sig v c w d found
    first-of-all found f = record { embeds = f.embeds; first = λ other m. f.first other (begins-all other m) m }

-- an image that is given and taken off again
pub put-back : (maps : List (List ℕ)) (s : ℕ) (xs : List ℕ) → s < length maps → xs ≡ images_of maps s → (y : ℕ) → set (with_image maps s y) s xs ≡ maps
put-back [] s xs lt e y = absurd (omega (arith, lt))
put-back (m ∷ maps) zero xs lt e y = ap (λ zs. zs ∷ maps) e
put-back (m ∷ maps) (suc s) xs lt e y = ap (λ zs. m ∷ zs) (put-back maps s xs (omega (arith, lt)) e y)

pub new-image : (maps : List (List ℕ)) (s y : ℕ) (items : List ℕ) → items ≡ images_of maps s → ¬ Contains items y → (i : ℕ) → i < length (images_of maps s) → ¬ (image maps s i ≡ y)
new-image maps s y items e none i lt is =
    let within : i < length items = subst (λ xs. i < length xs) (sym e) lt in
    none (i, within, get_or_default items i y 0 within ∙ ap (λ xs. get_or xs i 0) e ∙ is)

pub taken-back : (maps : List (List ℕ)) (s y : ℕ) (d : List ℕ) → s < length maps → take (length (get_or (with_image maps s y) s d) - 1) (get_or (with_image maps s y) s d) ≡ images_of maps s
taken-back maps s y d lt =
    ap (λ xs. take (length xs - 1) xs) (get_or-set_same maps s (images_of maps s ++ y ∷ []) d lt)
    ∙ take_at (images_of maps s) (y ∷ []) (length (images_of maps s ++ y ∷ []) - 1) (omega (arith, length-append (images_of maps s) (y ∷ [])))

-- the next sort leaves less to do
pub next-falls : (sizes : List ℕ) (n s x y : ℕ) → s < n → (n - (s + 1)) * (sum sizes + 1) + (slice_index sizes (s + 1) - x) < (n - s) * (sum sizes + 1) + y
next-falls sizes n s x y lt =
    let size : slice_index sizes (s + 1) ≤ sum sizes = size-le sizes (s + 1) in
    let count : n - s ≡ suc (n - (s + 1)) = omega (arith, lt) in
    let more : suc (n - (s + 1)) * (sum sizes + 1) ≡ (n - (s + 1)) * (sum sizes + 1) + (sum sizes + 1) = omega arith in
    subst (λ k. (n - (s + 1)) * (sum sizes + 1) + (slice_index sizes (s + 1) - x) < k * (sum sizes + 1) + y) (sym count) (omega (arith, size, more))
