-- Cubes that have lost literals: they stay well-sorted, and losing one literal and then an earlier one
-- leaves no more than losing the earlier one alone.
use Rattle.std.proofs.Common.{◌≡◌, ℕ, zero, suc, inl, true, ◌+◌, ◌<◌, ◌≤◌, List, [], ◌∷◌, ◌++◌, length, get_or, map, take, drop, refl, sym, ap, ap₂, subst, ◌∙◌, arith}
use Rattle.std.specs.Prelude.{slice_index, nat_eq}
use Rattle.std.specs.List.{All, AllZip, filter, list_any, range_with_len}
use Rattle.std.proofs.lemmas.List.{get_or_default, get_or-map, length-map, map-append, map-id}
use Rattle.std.proofs.lemmas.List.Elements.{All-append, All-take, All-drop, All-head, All-tail, All-cons, All-nil, filter_passes}
use Rattle.std.proofs.lemmas.List.FromFn.{length-range_with_len, get_or-range_with_len, take-map-range_with_len}
use Rattle.std.proofs.lemmas.Bool.{eq-eqb, eqb-true}
use Rattle.std.proofs.lemmas.List.Folds.{list_any-from_Any, Any-from_list_any}
use Rattle.fo_core.proofs.ListFacts.{all_mapped, all_map, all_left}
use Rattle.fo_core.proofs.TableLemmas.{filtered_at}
use Rattle.up_diagram.specs.declared.cube.Flat.{Flat}
use Rattle.up_diagram.specs.declared.cube.Flat.TheVariants.{Differ, Fact, Value}
use Rattle.up_diagram.specs.declared.cube.Cube.{Cube}
use Rattle.up_diagram.specs.Cubes.{HasSort, HasPlaces, variables_in, is_used, new_place, renamed, tightened, without}
use Rattle.up_diagram.specs.Covers.{IsAlike, HasLiteral, Covers}
use Rattle.up_diagram.proofs.Covered.{last_of_all}
use Rattle.up_diagram.proofs.Leaving.{without_covers}

-- lists without the element at a place
abbrev gone : {X : Type 0} → ℕ → List X → List X
gone k xs = take k xs ++ drop (suc k) xs

module _ {X : Type 0} (P : X → Type 0) where
  gone-all : (k : ℕ) (xs : List X) → All P xs → All P (gone k xs)
  gone-all k xs h = All-append P (take k xs) (drop (suc k) xs) (All-take P k xs h) (All-drop P (suc k) xs h)

  -- what holds of all but one holds of all but this and a later one
  gone-both : (j k : ℕ) (xs : List X) → j < k → All P (gone j xs) → All P (gone j (gone k xs))
  gone-both j zero xs lt h = absurd (omega (arith, lt))
  gone-both zero (suc k) [] lt h = All-nil P
  gone-both (suc j) (suc k) [] lt h = All-nil P
  gone-both zero (suc k) (x ∷ xs) lt h = gone-all k xs h
  gone-both (suc j) (suc k) (x ∷ xs) lt h =
      All-cons P x (gone j (gone k xs)) (All-head P x (gone j xs) h)
      (gone-both j k xs (omega (arith, lt)) (All-tail P x (gone j xs) h))

gone-map : {X Y : Type 0} (f : X → Y) (k : ℕ) (xs : List X) → gone k (map f xs) ≡ map f (gone k xs)
gone-map f zero [] = refl
gone-map f (suc k) [] = refl
gone-map f zero (x ∷ xs) = refl
gone-map f (suc k) (x ∷ xs) = ap (λ ys. f x ∷ ys) (gone-map f k xs)

-- variables of literals, with other names
variables_renamed : (f : ℕ → ℕ) (lit : Flat) → variables_in (renamed f lit) ≡ map f (variables_in lit)
variables_renamed f (Differ i j) = refl
variables_renamed f (Fact sign r variables) = refl
variables_renamed f (Value g variables v) = sym (map-append f variables (v ∷ []))

map_through : (h p f : ℕ → ℕ) (vs : List ℕ) → All (λ v. h (p v) ≡ f v) vs → map h (map p vs) ≡ map f vs
map_through h p f [] e = refl
map_through h p f (v ∷ vs) e =
    ap₂ (λ u us. u ∷ us) (All-head (λ v. h (p v) ≡ f v) v vs e)
    (map_through h p f vs (All-tail (λ v. h (p v) ≡ f v) v vs e))

renamed_through : (h p f : ℕ → ℕ) (lit : Flat) → All (λ v. h (p v) ≡ f v) (variables_in lit) →
    renamed h (renamed p lit) ≡ renamed f lit
renamed_through h p f (Differ i j) e = ap₂ Differ (e 0 i (omega arith)) (e 1 j (omega arith))
renamed_through h p f (Fact sign r variables) e = ap (λ vs. Fact sign r vs) (map_through h p f variables e)
renamed_through h p f (Value s variables v) e =
    ap₂ (λ vs u. Value s vs u) (map_through h p f variables (all_left (λ v. h (p v) ≡ f v) variables (v ∷ []) e))
    (last_of_all (λ v. h (p v) ≡ f v) variables v e)

zip_maps : (R : ℕ → ℕ → Type 0) (f g : ℕ → ℕ) (vs : List ℕ) → All (λ v. R (f v) (g v)) vs → AllZip R (map f vs) (map g vs)
zip_maps R f g [] h = tt
zip_maps R f g (v ∷ vs) h = (All-head (λ v. R (f v) (g v)) v vs h, zip_maps R f g vs (All-tail (λ v. R (f v) (g v)) v vs h))

slice_map : (f : ℕ → ℕ) (xs : List ℕ) (k : ℕ) → k < length xs → slice_index (map f xs) k ≡ f (slice_index xs k)
slice_map f xs k lt = get_or-map f xs k 0 0 lt

take_range : (v n : ℕ) → v ≤ n → take v (range_with_len 0 n) ≡ range_with_len 0 v
take_range v n le = ap (take v) (sym (map-id (range_with_len 0 n))) ∙ take-map-range_with_len (λ k. k) 0 n v le ∙ map-id (range_with_len 0 v)

-- the used variables below n
abbrev used : List Flat → ℕ → List ℕ
used lits n = filter (is_used lits) (range_with_len 0 n)

-- the place of a used variable is one of theirs, and it stands there
abbrev Stands : List Flat → ℕ → ℕ → Type 0
Stands lits n v = (new_place lits v < length (used lits n)) × (slice_index (used lits n) (new_place lits v) ≡ v)

stands : (lits : List Flat) (n v : ℕ) → v < n → is_used lits v ≡ true → Stands lits n v
stands lits n v lt is =
    let e : 0 + v ≡ v = omega arith in
    let there : v < length (range_with_len 0 n) = omega (arith, lt, length-range_with_len 0 n) in
    let at : get_or (range_with_len 0 n) v 0 ≡ v = get_or-range_with_len 0 n v 0 lt ∙ e in
    let before : take v (range_with_len 0 n) ≡ range_with_len 0 v = take_range v n (omega (arith, lt)) in
    let r = filtered_at (is_used lits) (range_with_len 0 n) v 0 there (ap (is_used lits) at ∙ is) in (
      subst (λ vs. length (filter (is_used lits) vs) < length (used lits n)) before r.0,
      subst (λ vs. slice_index (used lits n) (length (filter (is_used lits) vs)) ≡ v) before (r.1 ∙ at),
    )

-- a variable of one of the literals is used
is_of_one : (lits : List Flat) (k : ℕ) (lit : Flat) → k < length lits → (i v : ℕ) → i < length (variables_in (get_or lits k lit)) →
    is_used lits (get_or (variables_in (get_or lits k lit)) i v) ≡ true
is_of_one lits k lit lt i v less =
    let u = get_or (variables_in (get_or lits k lit)) i v in
    let stands : list_any (nat_eq u) (variables_in (get_or lits k lit)) ≡ true =
    list_any-from_Any (nat_eq u) (variables_in (get_or lits k lit)) (i, u, less, get_or_default (variables_in (get_or lits k lit)) i u v less, eq-eqb u u refl) in
    list_any-from_Any (λ one. list_any (nat_eq u) (variables_in one)) lits (k, get_or lits k lit, lt, get_or_default lits k (get_or lits k lit) lit lt, stands)

-- what holds of all variables of all literals holds of each that is used
of_used : (P : ℕ → Type 0) (lits : List Flat) → All (λ lit. All P (variables_in lit)) lits → (u : ℕ) → is_used lits u ≡ true → P u
of_used P lits h u is =
    let found = Any-from_list_any (λ lit. list_any (nat_eq u) (variables_in lit)) lits is in
    let at = Any-from_list_any (nat_eq u) (variables_in found.1) found.4 in
    let all : All P (variables_in found.1) = subst (λ lit. All P (variables_in lit)) found.3 (h found.0 found.1 found.2) in
    let here : P at.1 = subst P at.3 (all at.0 at.1 at.2) in
    subst P (sym (eqb-true u at.1 at.4)) here

-- all variables of the literals stand at their places
each_stands : (cube : Cube) → HasPlaces cube → All (λ lit. All (Stands cube.lits (length cube.sorts)) (variables_in lit)) cube.lits
each_stands cube places k lit lt i v less =
    stands cube.lits (length cube.sorts) (get_or (variables_in (get_or cube.lits k lit)) i v) (places k lit lt i v less)
    (is_of_one cube.lits k lit lt i v less)

alike_self : (lit : Flat) → IsAlike lit lit
alike_self (Differ i j) = inl refl
alike_self (Fact sign r variables) = refl
alike_self (Value f variables v) = refl

alike_one : (lits : List Flat) → All (HasLiteral lits) lits
alike_one lits k lit lt = (k, get_or lits k lit, lt, get_or_default lits k (get_or lits k lit) lit lt, alike_self (get_or lits k lit))

-- A cube without the variables that stand in no literal covers another, where its variables have images
-- of their sorts there, and its literals become some of the other's.
module _ (cube other : Cube) (f : ℕ → ℕ) (places : HasPlaces cube)
    (sorts : All (λ lit. All (λ v. HasSort other.sorts (f v) (slice_index cube.sorts v)) (variables_in lit)) cube.lits)
    (literals : All (λ lit. HasLiteral other.lits (renamed f lit)) cube.lits) where
  abbrev own : List ℕ
  own = used cube.lits (length cube.sorts)

  image_at : (v : ℕ) → Stands cube.lits (length cube.sorts) v → slice_index (map f own) (new_place cube.lits v) ≡ f v
  image_at v s = slice_map f own (new_place cube.lits v) s.0 ∙ ap f s.1

  pub tightened_covers : Covers (tightened cube) other
  tightened_covers = record {
    images = map f own;
    sorts =
        zip_maps (HasSort other.sorts) f (slice_index cube.sorts) own
        (λ k d lt. of_used (λ v. HasSort other.sorts (f v) (slice_index cube.sorts v)) cube.lits sorts (get_or own k d)
        (filter_passes (is_used cube.lits) (range_with_len 0 (length cube.sorts)) k d lt));
    places =
        all_mapped (λ lit. All (λ v. v < length (tightened cube).sorts) (variables_in lit)) (renamed (new_place cube.lits)) cube.lits
        (λ k lit lt.
        subst (All (λ v. v < length (tightened cube).sorts)) (sym (variables_renamed (new_place cube.lits) (get_or cube.lits k lit)))
        (all_mapped (λ v. v < length (tightened cube).sorts) (new_place cube.lits) (variables_in (get_or cube.lits k lit))
        (λ i v less.
        let u = get_or (variables_in (get_or cube.lits k lit)) i v in
        subst (λ n. new_place cube.lits u < n) (sym (length-map own (slice_index cube.sorts))) (each_stands cube places k lit lt i v less).0)));
    literals =
        all_mapped (λ lit. HasLiteral other.lits (renamed (slice_index (map f own)) lit)) (renamed (new_place cube.lits)) cube.lits
        (λ k lit lt.
        subst (HasLiteral other.lits)
        (sym (renamed_through (slice_index (map f own)) (new_place cube.lits) f (get_or cube.lits k lit)
        (λ i v less. image_at (get_or (variables_in (get_or cube.lits k lit)) i v) (each_stands cube places k lit lt i v less))))
        (literals k lit lt));
  }

-- the variables and literals that are left when literal k goes, and then an earlier literal j
module _ (cube : Cube) (j k : ℕ) (places : HasPlaces cube) (lt : j < k) where
  abbrev many : ℕ
  many = length cube.sorts

  abbrev later : List Flat
  later = gone k cube.lits

  abbrev earlier : List Flat
  earlier = gone j cube.lits

  abbrev both : List Flat
  both = gone j later

  abbrev place_later : ℕ → ℕ
  place_later = new_place later

  abbrev place_earlier : ℕ → ℕ
  place_earlier = new_place earlier

  -- the variable that takes the place of one that is left when literal k goes, where literal j goes instead
  abbrev moves : ℕ → ℕ
  moves u = place_earlier (slice_index (used later many) u)

  abbrev cut : Cube
  cut = record { sorts = (without cube k).sorts; lits = gone j (without cube k).lits }

  stand_later : All (λ lit. All (Stands later many) (variables_in lit)) both
  stand_later =
      gone-all (λ lit. All (Stands later many) (variables_in lit)) j later
      (each_stands (record { sorts = cube.sorts; lits = later }) (gone-all (λ lit. All (λ v. v < many) (variables_in lit)) k cube.lits places))

  stand_earlier : All (λ lit. All (Stands earlier many) (variables_in lit)) both
  stand_earlier =
      gone-both (λ lit. All (Stands earlier many) (variables_in lit)) j k cube.lits lt
      (each_stands (record { sorts = cube.sorts; lits = earlier }) (gone-all (λ lit. All (λ v. v < many) (variables_in lit)) j cube.lits places))

  among_earlier : All (λ lit. HasLiteral (without cube j).lits (renamed place_earlier lit)) both
  among_earlier =
      gone-both (λ lit. HasLiteral (without cube j).lits (renamed place_earlier lit)) j k cube.lits lt
      (all_map (HasLiteral (without cube j).lits) (renamed place_earlier) earlier (alike_one (without cube j).lits))

  moves_back : (v : ℕ) → Stands later many v → moves (place_later v) ≡ place_earlier v
  moves_back v s = ap place_earlier s.1

  -- of a variable in both, the two places have one sort
  one_sort : (v : ℕ) → Stands later many v → Stands earlier many v →
      HasSort (without cube j).sorts (moves (place_later v)) (slice_index (without cube k).sorts (place_later v))
  one_sort v s t = record {
    within =
        subst (λ u. u < length (without cube j).sorts) (sym (moves_back v s))
        (subst (λ n. place_earlier v < n) (sym (length-map (used earlier many) (slice_index cube.sorts))) t.0);
    sort =
        ap (slice_index (without cube j).sorts) (moves_back v s)
        ∙ slice_map (slice_index cube.sorts) (used earlier many) (place_earlier v) t.0
        ∙ ap (slice_index cube.sorts) (t.1 ∙ sym s.1)
        ∙ sym (slice_map (slice_index cube.sorts) (used later many) (place_later v) s.0);
  }

  over_cut : (P : Flat → Type 0) → All (λ lit. P (renamed place_later lit)) both → All P cut.lits
  over_cut P h = subst (All P) (sym (gone-map (renamed place_later) j later)) (all_mapped P (renamed place_later) both h)

  pub later_covers : Covers (without (without cube k) j) (without cube j)
  later_covers =
      tightened_covers cut (without cube j) moves
      (gone-all (λ lit. All (λ v. v < length cut.sorts) (variables_in lit)) j (without cube k).lits (without_covers cube k places).places)
      (over_cut (λ lit. All (λ v. HasSort (without cube j).sorts (moves v) (slice_index cut.sorts v)) (variables_in lit))
      (λ i lit less.
      subst (All (λ v. HasSort (without cube j).sorts (moves v) (slice_index cut.sorts v))) (sym (variables_renamed place_later (get_or both i lit)))
      (all_mapped (λ v. HasSort (without cube j).sorts (moves v) (slice_index cut.sorts v)) place_later (variables_in (get_or both i lit))
      (λ m v low. one_sort (get_or (variables_in (get_or both i lit)) m v) (stand_later i lit less m v low) (stand_earlier i lit less m v low)))))
      (over_cut (λ lit. HasLiteral (without cube j).lits (renamed moves lit))
      (λ i lit less.
      subst (HasLiteral (without cube j).lits)
      (sym (renamed_through moves place_later place_earlier (get_or both i lit)
      (λ m v low. moves_back (get_or (variables_in (get_or both i lit)) m v) (stand_later i lit less m v low))))
      (among_earlier i lit less)))
