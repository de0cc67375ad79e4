-- A state meets the diagram of a copy exactly where the copy embeds in the state.
use Rattle.std.proofs.Common.{◌≡◌, ℕ, zero, suc, true, false, Bool, cond, ◌&&◌, ◌↔◌, ◌-◌, ◌<◌, ◌≤◌, ◌⊎◌, inl, inr, List, [], ◌∷◌, length, get_or, map, take, refl, sym, ap, ap₂, subst, ◌∙◌, arith, sum, nat_eq, nat_lt}
use Rattle.std.specs.Prelude.{slice_index}
use Rattle.std.specs.List.{All, AllZip, flat_map, range_with_len}
use Rattle.std.proofs.lemmas.Bool.{cases_lt, cases_order, eqb-true, eq-eqb, ltb-true, lt-ltb}
use Rattle.std.proofs.lemmas.Bool.Decides.{eqb_tells}
use Rattle.std.proofs.lemmas.List.Elements.{All-nil, All-cons, All-head, All-append}
use Rattle.std.proofs.lemmas.List.FromFn.{length-map-range_with_len, get_or-map-range_with_len}
use Rattle.std.proofs.lemmas.List.Sums.{sum_by-cons}
use Rattle.fo_core.specs.declared.signature.Sig.{Sig}
use Rattle.fo_core.specs.declared.world.World.{World}
use Rattle.fo_core.specs.Embedding.{image, images, IsEmbedding}
use Rattle.fo_core.specs.Runs.{AreElements}
use Rattle.fo_core.specs.Tables.{symbol_at, entry, arg_sizes, Fits}
use Rattle.fo_core.specs.Trials.{element_sorts}
use Rattle.fo_core.specs.Tuples.{all_tuples}
use Rattle.fo_core.proofs.ListFacts.{all_left, all_right, all_map, all_mapped, all_flat, all_range, range_all, all_as}
use Rattle.fo_core.proofs.PlaceLemmas.{elements-below}
use Rattle.fo_core.proofs.TupleLemmas.{tuples-below, tuple-found}
use Rattle.fo_core.proofs.ElementLemmas.{sort_known, place-below, sorts-length, sorts-at, name_list, names-at, names-elements, value-within}
use Rattle.up_diagram.specs.declared.cube.Flat.{Flat}
use Rattle.up_diagram.specs.declared.cube.Flat.TheVariants.{Differ, Fact, Value}
use Rattle.up_diagram.specs.Cubes.{chosen, HasSign, IsTrueFlat, Meets}
use Rattle.up_diagram.specs.Diagrams.{variable_of, variables_of, pair_at, differ_from, differ, fact_of, facts_of, diagram}
use Rattle.up_diagram.proofs.Described.{below-elements, entry-below, value-below}

-- each variable is that of an element
found-variable : (sizes : List ℕ) (i : ℕ) → i < sum sizes → (s : ℕ) × (x : ℕ) × (s < length sizes) × (x < slice_index sizes s) × (variable_of sizes s x ≡ i)
found-variable [] i lt = absurd (omega (arith, lt))
found-variable (n ∷ sizes) i lt = by_cases (cases_lt i n) (λ below. found-variable sizes (i - n) below)
  where
    by_cases : (i < n) ⊎ (n ≤ i) → (i - n < sum sizes → (s : ℕ) × (x : ℕ) × (s < length sizes) × (x < slice_index sizes s) × (variable_of sizes s x ≡ i - n)) →
        (s : ℕ) × (x : ℕ) × (s < length (n ∷ sizes)) × (x < slice_index (n ∷ sizes) s) × (variable_of (n ∷ sizes) s x ≡ i)
    by_cases (inl h) more = (0, i, omega arith, h, omega arith)
    by_cases (inr h) more =
        let f = more (omega (arith, sum_by-cons (λ x. x) n sizes, lt, h)) in
        (suc f.0, f.1, omega (arith, f.2), f.3, omega (arith, f.4, h, sum_by-cons (λ x. x) n (take f.0 sizes)))

flat_all : {X Y : Type 0} (P : Y → Type 0) (f : X → List Y) (xs : List X) → All P (flat_map f xs) → All (λ x. All P (f x)) xs
flat_all P f [] h = All-nil (λ x. All P (f x))
flat_all P f (x ∷ xs) h = All-cons (λ x. All P (f x)) x xs (all_left P (f x) (flat_map f xs) h) (flat_all P f xs (all_right P (f x) (flat_map f xs) h))

-- what is said of a pair
module _ (P : Flat → Type 0) (a b : Bool) (lit : Flat) where
  pair-said : a ≡ true → b ≡ true → All P (cond (a && b) (lit ∷ []) []) → P lit
  pair-said first second h =
      let both : (a && b) ≡ true = ap (λ t. t && b) first ∙ second in
      All-head P lit [] (subst (λ t. All P (cond t (lit ∷ []) [])) both h)

pair-true : (P : Flat → Type 0) (a b : Bool) (lit : Flat) → (a ≡ true → b ≡ true → P lit) → All P (cond (a && b) (lit ∷ []) [])
pair-true P true true lit h = All-cons P lit [] (h refl refl) (All-nil P)
pair-true P true false lit h = All-nil P
pair-true P false b lit h = All-nil P

-- one truth value, said of another
sign-same : (a b : ℕ) → b ≡ a → HasSign (nat_eq a 1) (b ≡ 1)
sign-same a b e = by_cases (eqb_tells a 1)
  where
    by_cases : ((nat_eq a 1 ≡ true) × (a ≡ 1)) ⊎ ((nat_eq a 1 ≡ false) × (a ≡ 1 → ⊥)) → HasSign (nat_eq a 1) (b ≡ 1)
    by_cases (inl t) = subst (λ s. HasSign s (b ≡ 1)) (sym t.0) (e ∙ t.1)
    by_cases (inr f) = subst (λ s. HasSign s (b ≡ 1)) (sym f.0) (λ one. f.1 (sym e ∙ one))

zero-else : (b : ℕ) → b < 2 → ¬ (b ≡ 1) → b ≡ 0
zero-else zero lt other = refl
zero-else (suc zero) lt other = absurd (other refl)
zero-else (suc (suc b)) lt other = absurd (omega (arith, lt))

same-sign : (a b : ℕ) → a < 2 → b < 2 → HasSign (nat_eq a 1) (b ≡ 1) → b ≡ a
same-sign a b low less h = by_cases (eqb_tells a 1)
  where
    by_cases : ((nat_eq a 1 ≡ true) × (a ≡ 1)) ⊎ ((nat_eq a 1 ≡ false) × (a ≡ 1 → ⊥)) → b ≡ a
    by_cases (inl t) = subst (λ s. HasSign s (b ≡ 1)) t.0 h ∙ sym t.1
    by_cases (inr f) = zero-else b less (subst (λ s. HasSign s (b ≡ 1)) f.0 h) ∙ sym (zero-else a low f.1)

-- maps that give each element the image of this name
module _ (sizes : List ℕ) (name : ℕ → ℕ → ℕ) where
  abbrev table : List (List ℕ)
  table = map (λ s. map (name s) (range_with_len 0 (slice_index sizes s))) (range_with_len 0 (length sizes))

  table-length : length table ≡ length sizes
  table-length = length-map-range_with_len (λ s. map (name s) (range_with_len 0 (slice_index sizes s))) 0 (length sizes)

  table-at : (s : ℕ) → s < length sizes → get_or table s [] ≡ map (name s) (range_with_len 0 (slice_index sizes s))
  table-at s lt = get_or-map-range_with_len (λ s. map (name s) (range_with_len 0 (slice_index sizes s))) 0 (length sizes) s s [] lt (omega arith)

  table-total : (s : ℕ) → s < length sizes → length (get_or table s []) ≡ slice_index sizes s
  table-total s lt = ap length (table-at s lt) ∙ length-map-range_with_len (name s) 0 (slice_index sizes s)

  table-image : (s x : ℕ) → s < length sizes → x < slice_index sizes s → image table s x ≡ name s x
  table-image s x lt below = ap (λ (ys : List ℕ). get_or ys x 0) (table-at s lt) ∙ get_or-map-range_with_len (name s) 0 (slice_index sizes s) x x 0 below (omega arith)

images-elements : (sizes others : List ℕ) (maps : List (List ℕ)) → ((s x : ℕ) → s < length sizes → x < slice_index sizes s → image maps s x < slice_index others s) →
    (ss ys : List ℕ) → AreElements sizes ys ss → AreElements others (images maps ss ys) ss
images-elements sizes others maps within [] [] h = tt
images-elements sizes others maps within [] (y ∷ ys) h = absurd h
images-elements sizes others maps within (s ∷ ss) [] h = absurd h
images-elements sizes others maps within (s ∷ ss) (y ∷ ys) h = (within s y (sort_known sizes s y h.0) h.0, images-elements sizes others maps within ss ys h.1)

module _ (sig : Sig) (w v : World) (c d : ℕ) (fits : Fits sig w) (copy : c < length w.copies) where
  -- what a symbol says of a tuple, where it is a relation, or a function
  abbrev fact_by : Bool → ℕ → List ℕ → Flat
  fact_by b k ys =
      cond b
      (Fact (nat_eq (entry sig w c k ys) 1) k (variables_of w.sizes (symbol_at sig k).args ys))
      (Value k (variables_of w.sizes (symbol_at sig k).args ys) (variable_of w.sizes (symbol_at sig k).result (entry sig w c k ys)))

  -- the variables' values are the elements' images
  module _ (xs : List ℕ) (maps : List (List ℕ)) (same : (s x : ℕ) → s < length w.sizes → x < slice_index w.sizes s → slice_index xs (variable_of w.sizes s x) ≡ image maps s x) where
    chosen-images : (ss ys : List ℕ) → AreElements w.sizes ys ss → chosen xs (variables_of w.sizes ss ys) ≡ images maps ss ys
    chosen-images [] [] h = refl
    chosen-images [] (y ∷ ys) h = absurd h
    chosen-images (s ∷ ss) [] h = absurd h
    chosen-images (s ∷ ss) (y ∷ ys) h = ap₂ (λ z zs. z ∷ zs) (same s y (sort_known w.sizes s y h.0) h.0) (chosen-images ss ys h.1)

    module _ (k : ℕ) (within : k < length sig.symbols) (ys : List ℕ) (elements : AreElements w.sizes ys (symbol_at sig k).args) where
      chosen-are : chosen xs (variables_of w.sizes (symbol_at sig k).args ys) ≡ images maps (symbol_at sig k).args ys
      chosen-are = chosen-images (symbol_at sig k).args ys elements

      value-image : (symbol_at sig k).relation ≡ false → slice_index xs (variable_of w.sizes (symbol_at sig k).result (entry sig w c k ys)) ≡ image maps (symbol_at sig k).result (entry sig w c k ys)
      value-image function =
          let below = value-below sig w c fits copy k ys within function elements in
          same (symbol_at sig k).result (entry sig w c k ys) (sort_known w.sizes (symbol_at sig k).result (entry sig w c k ys) below) below

      fact-true : IsEmbedding sig w c v d maps → IsTrueFlat sig v d xs (fact_of sig w c k ys)
      fact-true h = by_kind (symbol_at sig k).relation refl
        where
          by_kind : (b : Bool) → (symbol_at sig k).relation ≡ b → IsTrueFlat sig v d xs (fact_by b k ys)
          by_kind true e =
              subst (λ zs. HasSign (nat_eq (entry sig w c k ys) 1) (entry sig v d k zs ≡ 1)) (sym chosen-are)
              (sign-same (entry sig w c k ys) (entry sig v d k (images maps (symbol_at sig k).args ys)) (h.relations k ys within e elements))
          by_kind false e = ap (λ zs. entry sig v d k zs) chosen-are ∙ h.functions k ys within e elements ∙ sym (value-image e)

      module _ (said : IsTrueFlat sig v d xs (fact_of sig w c k ys)) where
        relation-kept : Fits sig v → d < length v.copies → ((s x : ℕ) → s < length w.sizes → x < slice_index w.sizes s → image maps s x < slice_index v.sizes s) → (symbol_at sig k).relation ≡ true →
            entry sig v d k (images maps (symbol_at sig k).args ys) ≡ entry sig w c k ys
        relation-kept fits_to copy_to into e =
            same-sign (entry sig w c k ys) (entry sig v d k (images maps (symbol_at sig k).args ys))
            (subst (λ b. entry sig w c k ys < cond b 2 (slice_index w.sizes (symbol_at sig k).result)) e (entry-below sig w c fits copy k ys within elements))
            (subst (λ b. entry sig v d k (images maps (symbol_at sig k).args ys) < cond b 2 (slice_index v.sizes (symbol_at sig k).result)) e
            (entry-below sig v d fits_to copy_to k (images maps (symbol_at sig k).args ys) within (images-elements w.sizes v.sizes maps into (symbol_at sig k).args ys elements)))
            (subst (λ zs. HasSign (nat_eq (entry sig w c k ys) 1) (entry sig v d k zs ≡ 1)) chosen-are (subst (λ b. IsTrueFlat sig v d xs (fact_by b k ys)) e said))

        function-kept : (symbol_at sig k).relation ≡ false → entry sig v d k (images maps (symbol_at sig k).args ys) ≡ image maps (symbol_at sig k).result (entry sig w c k ys)
        function-kept e =
            ap (λ zs. entry sig v d k zs) (sym chosen-are) ∙ subst (λ b. IsTrueFlat sig v d xs (fact_by b k ys)) e said ∙ value-image e

  -- two elements of a sort have variables that differ
  module _ (xs : List ℕ) where
    abbrev IsTrue : Flat → Type 0
    IsTrue = IsTrueFlat sig v d xs

    abbrev sorts : List ℕ
    sorts = element_sorts w.sizes

    differ-true : ((i j : ℕ) → i < length sorts → j < length sorts → i < j → slice_index sorts i ≡ slice_index sorts j → IsTrue (Differ i j)) → All IsTrue (differ sorts)
    differ-true apart =
        all_flat IsTrue (differ_from sorts) (range_with_len 0 (length sorts)) (all_range (λ i. All IsTrue (differ_from sorts i)) (length sorts) (λ i lt.
        all_flat IsTrue (pair_at sorts i) (range_with_len 0 (length sorts)) (all_range (λ j. All IsTrue (pair_at sorts i j)) (length sorts) (λ j less.
        pair-true IsTrue (nat_lt i j) (nat_eq (slice_index sorts i) (slice_index sorts j)) (Differ i j) (λ first second. apart i j lt less (ltb-true i j first) (eqb-true (slice_index sorts i) (slice_index sorts j) second))))))

    differ-said : All IsTrue (differ sorts) → (i j : ℕ) → i < length sorts → j < length sorts → i < j → slice_index sorts i ≡ slice_index sorts j → IsTrue (Differ i j)
    differ-said h i j lt less before e =
        let of_first = range_all (λ i. All IsTrue (differ_from sorts i)) (length sorts) (flat_all IsTrue (differ_from sorts) (range_with_len 0 (length sorts)) h) i lt in
        let of_both = range_all (λ j. All IsTrue (pair_at sorts i j)) (length sorts) (flat_all IsTrue (pair_at sorts i) (range_with_len 0 (length sorts)) of_first) j less in
        pair-said IsTrue (nat_lt i j) (nat_eq (slice_index sorts i) (slice_index sorts j)) (Differ i j) (lt-ltb i j before) (eq-eqb (slice_index sorts i) (slice_index sorts j) e) of_both

    facts-true : ((k : ℕ) → k < length sig.symbols → (ys : List ℕ) → AreElements w.sizes ys (symbol_at sig k).args → IsTrue (fact_of sig w c k ys)) → All IsTrue (flat_map (facts_of sig w c) (range_with_len 0 (length sig.symbols)))
    facts-true each =
        all_flat IsTrue (facts_of sig w c) (range_with_len 0 (length sig.symbols)) (all_range (λ k. All IsTrue (facts_of sig w c k)) (length sig.symbols) (λ k lt.
        all_mapped IsTrue (fact_of sig w c k) (all_tuples (arg_sizes w.sizes (symbol_at sig k)))
        (all_as (λ ys. AllZip (λ x n. x < n) ys (arg_sizes w.sizes (symbol_at sig k))) (λ ys. IsTrue (fact_of sig w c k ys)) (all_tuples (arg_sizes w.sizes (symbol_at sig k)))
        (λ ys below. each k lt ys (below-elements w.sizes ys (symbol_at sig k).args below)) (tuples-below (arg_sizes w.sizes (symbol_at sig k))))))

    facts-said : All IsTrue (flat_map (facts_of sig w c) (range_with_len 0 (length sig.symbols))) → (k : ℕ) → k < length sig.symbols → (ys : List ℕ) → AreElements w.sizes ys (symbol_at sig k).args → IsTrue (fact_of sig w c k ys)
    facts-said h k lt ys elements =
        let of_symbol = range_all (λ k. All IsTrue (facts_of sig w c k)) (length sig.symbols) (flat_all IsTrue (facts_of sig w c) (range_with_len 0 (length sig.symbols)) h) k lt in
        let of_each = all_map IsTrue (fact_of sig w c k) (all_tuples (arg_sizes w.sizes (symbol_at sig k))) of_symbol in
        let at = tuple-found (arg_sizes w.sizes (symbol_at sig k)) ys (elements-below w.sizes ys (symbol_at sig k).args elements) in
        subst (λ ys. IsTrue (fact_of sig w c k ys)) at.2 (of_each at.0 ys at.1)

  -- where the copy embeds, the images meet the diagram
  module _ (maps : List (List ℕ)) (h : IsEmbedding sig w c v d maps) where
    abbrev values : List ℕ
    values = name_list w.sizes (image maps)

    value-is : (s x : ℕ) → s < length w.sizes → x < slice_index w.sizes s → slice_index values (variable_of w.sizes s x) ≡ image maps s x
    value-is = names-at w.sizes v (image maps)

    apart : (s x t y : ℕ) → s < length w.sizes → x < slice_index w.sizes s → y < slice_index w.sizes t → s ≡ t → variable_of w.sizes s x < variable_of w.sizes t y → ¬ (slice_index values (variable_of w.sizes s x) ≡ slice_index values (variable_of w.sizes t y))
    apart s x t y lt below less e before same =
        let below_too : y < slice_index w.sizes s = subst (λ t. y < slice_index w.sizes t) (sym e) less in
        let later : variable_of w.sizes s x < variable_of w.sizes s y = subst (λ t. variable_of w.sizes s x < variable_of w.sizes t y) (sym e) before in
        let equal : slice_index values (variable_of w.sizes s x) ≡ slice_index values (variable_of w.sizes s y) = subst (λ t. slice_index values (variable_of w.sizes s x) ≡ slice_index values (variable_of w.sizes t y)) (sym e) same in
        let one = h.injections.injective s x y lt below below_too (sym (value-is s x lt below) ∙ equal ∙ value-is s y lt below_too) in
        absurd (omega (arith, later, one))

    distinct : (i j : ℕ) → i < length (element_sorts w.sizes) → j < length (element_sorts w.sizes) → i < j → slice_index (element_sorts w.sizes) i ≡ slice_index (element_sorts w.sizes) j → IsTrueFlat sig v d values (Differ i j)
    distinct i j lt less before e =
        let count = sorts-length w.sizes in
        let f = found-variable w.sizes i (omega (arith, lt, count)) in
        let g = found-variable w.sizes j (omega (arith, less, count)) in
        let sort_first = ap (slice_index (element_sorts w.sizes)) (sym f.4) ∙ sorts-at w.sizes f.0 f.1 f.2 f.3 in
        let sort_second = ap (slice_index (element_sorts w.sizes)) (sym g.4) ∙ sorts-at w.sizes g.0 g.1 g.2 g.3 in
        λ same. apart f.0 f.1 g.0 g.1 f.2 f.3 g.3 (sym sort_first ∙ e ∙ sort_second) (omega (arith, f.4, g.4, before))
        (ap (slice_index values) f.4 ∙ same ∙ ap (slice_index values) (sym g.4))

    embedded-meets : Meets sig v d (diagram sig w c)
    embedded-meets = (
      values,
      names-elements w.sizes v (image maps) h.injections.in_range,
      All-append (IsTrueFlat sig v d values) (differ (element_sorts w.sizes)) (flat_map (facts_of sig w c) (range_with_len 0 (length sig.symbols)))
          (differ-true values distinct)
          (facts-true values (λ k within ys elements. fact-true values maps value-is k within ys elements h)),
    )

  -- where the diagram is met, the variables' values are the images
  module _ (fits_to : Fits sig v) (copy_to : d < length v.copies) (xs : List ℕ) (elements : AreElements v.sizes xs (element_sorts w.sizes)) (lits : All (IsTrueFlat sig v d xs) (diagram sig w c).lits) where
    abbrev read : ℕ → ℕ → ℕ
    read s x = slice_index xs (variable_of w.sizes s x)

    abbrev maps : List (List ℕ)
    maps = table w.sizes read

    image-is : (s x : ℕ) → s < length w.sizes → x < slice_index w.sizes s → slice_index xs (variable_of w.sizes s x) ≡ image maps s x
    image-is s x lt below = sym (table-image w.sizes read s x lt below)

    differing : (s x y : ℕ) → s < length w.sizes → x < slice_index w.sizes s → y < slice_index w.sizes s → x < y → ¬ (image maps s x ≡ image maps s y)
    differing s x y lt below less before same =
        let count = sorts-length w.sizes in
        let pair =
        differ-said xs (all_left (IsTrueFlat sig v d xs) (differ (element_sorts w.sizes)) (flat_map (facts_of sig w c) (range_with_len 0 (length sig.symbols))) lits)
        (variable_of w.sizes s x) (variable_of w.sizes s y)
        (omega (arith, count, place-below w.sizes s x lt below)) (omega (arith, count, place-below w.sizes s y lt less)) (omega (arith, before))
        (sorts-at w.sizes s x lt below ∙ sym (sorts-at w.sizes s y lt less)) in
        pair (image-is s x lt below ∙ same ∙ sym (image-is s y lt less))

    one-image : (s x y : ℕ) → s < length w.sizes → x < slice_index w.sizes s → y < slice_index w.sizes s → image maps s x ≡ image maps s y → x ≡ y
    one-image s x y lt below less same = by_order (cases_order x y)
      where
        by_order : (x ≡ y) ⊎ ((x < y) ⊎ (y < x)) → x ≡ y
        by_order (inl e) = e
        by_order (inr (inl before)) = absurd (differing s x y lt below less before same)
        by_order (inr (inr after)) = absurd (differing s y x lt less below after (sym same))

    into : (s x : ℕ) → s < length w.sizes → x < slice_index w.sizes s → image maps s x < slice_index v.sizes s
    into s x lt below = subst (λ y. y < slice_index v.sizes s) (image-is s x lt below) (value-within w.sizes v xs elements s x lt below)

    said : (k : ℕ) → k < length sig.symbols → (ys : List ℕ) → AreElements w.sizes ys (symbol_at sig k).args → IsTrueFlat sig v d xs (fact_of sig w c k ys)
    said = facts-said xs (all_right (IsTrueFlat sig v d xs) (differ (element_sorts w.sizes)) (flat_map (facts_of sig w c) (range_with_len 0 (length sig.symbols))) lits)

    met-embeds : IsEmbedding sig w c v d maps
    met-embeds = record {
      injections = record { one_each = table-length w.sizes read; total = table-total w.sizes read; in_range = into; injective = one-image };
      relations = λ k ys within e of_sorts. relation-kept xs maps image-is k within ys of_sorts (said k within ys of_sorts) fits_to copy_to into e;
      functions = λ k ys within e of_sorts. function-kept xs maps image-is k within ys of_sorts (said k within ys of_sorts) e;
    }

pub met_where_embedded : (sig : Sig) (w v : World) (c d : ℕ) → Fits sig w → c < length w.copies → Fits sig v → d < length v.copies →
    Meets sig v d (diagram sig w c) ↔ ((maps : List (List ℕ)) × IsEmbedding sig w c v d maps)
met_where_embedded sig w v c d fits copy fits_to copy_to = (
  λ m. (table w.sizes (λ s x. slice_index m.0 (variable_of w.sizes s x)), met-embeds sig w v c d fits copy fits_to copy_to m.0 m.1 m.2),
  λ e. embedded-meets sig w v c d fits copy e.0 e.1,
)

-- a copy embeds in itself
module _ (sig : Sig) (w : World) (c : ℕ) (fits : Fits sig w) (copy : c < length w.copies) where
  abbrev pub selves : List (List ℕ)
  selves = table w.sizes (λ s x. x)

  self-is : (s x : ℕ) → s < length w.sizes → x < slice_index w.sizes s → image selves s x ≡ x
  self-is = table-image w.sizes (λ s x. x)

  selves-are : (ss ys : List ℕ) → AreElements w.sizes ys ss → images selves ss ys ≡ ys
  selves-are [] [] h = refl
  selves-are [] (y ∷ ys) h = absurd h
  selves-are (s ∷ ss) [] h = absurd h
  selves-are (s ∷ ss) (y ∷ ys) h = ap₂ (λ z zs. z ∷ zs) (self-is s y (sort_known w.sizes s y h.0) h.0) (selves-are ss ys h.1)

  pub embeds_in_itself : IsEmbedding sig w c w c selves
  embeds_in_itself = record {
    injections = record {
      one_each = table-length w.sizes (λ s x. x);
      total = table-total w.sizes (λ s x. x);
      in_range = λ s x lt below. subst (λ y. y < slice_index w.sizes s) (sym (self-is s x lt below)) below;
      injective = λ s x y lt below less e. sym (self-is s x lt below) ∙ e ∙ self-is s y lt less;
    };
    relations = λ k ys within e elements. ap (λ zs. entry sig w c k zs) (selves-are (symbol_at sig k).args ys elements);
    functions = λ k ys within e elements.
        let below = value-below sig w c fits copy k ys within e elements in
        ap (λ zs. entry sig w c k zs) (selves-are (symbol_at sig k).args ys elements)
        ∙ sym (self-is (symbol_at sig k).result (entry sig w c k ys) (sort_known w.sizes (symbol_at sig k).result (entry sig w c k ys) below) below);
  }

  pub own_diagram_met : Meets sig w c (diagram sig w c)
  own_diagram_met = embedded-meets sig w w c c fits copy selves embeds_in_itself
