-- The places of the elements that pass a test.
use Rattle.std.proofs.Common.{◌≡◌, ℕ, zero, suc, ◌+◌, ◌<◌, ◌≤◌, Bool, true, false, cond, not, ◌&&◌, ◌||◌, nat_eq, nat_lt, List, [], ◌∷◌, ◌++◌, length, filter, get_or, take, Some, slice_get, refl, sym, ap, subst, ◌∙◌, ◌⊎◌, inl, inr, arith, true≢false, eqb-true, eq-eqb}
use Rattle.std.specs.List.{count_by, flat_map, insert, list_any}
use Rattle.std.specs.Option.{option_map_or}
use Rattle.std.proofs.lemmas.Bool.{cases_lt, cases_order, le-ltb, lt-ltb}
use Rattle.std.proofs.lemmas.List.{flat_map_more, take_all, take_more}
use Rattle.std.proofs.lemmas.List.Sums.{sum_by-cons, sum_by_push}
use Rattle.std.proofs.lemmas.Option.{get_or_from_slice_get, slice_get-get_or}
use Rattle.up_machine.specs.Replay.{change_at}
use Rattle.up_machine.specs.Due.{IsFirst}
use Rattle.up_machine.proofs.Lists.{none_is_some, some_injective, get-lt}
use Rattle.up_core.specs.Mirror.{Pairs}
use Rattle.up_core.proofs.Chosen.{not-true}
use Rattle.up_core.specs.Places.{places_from, places_of}

-- the element at a place passes
pub record IsPlace {X : Type 0} (test : X → Bool) (n k : ℕ) (xs : List X) : Type 0 where
  pub at : ℕ
  pub element : X
  pub there : slice_get xs at ≡ Some element
  pub passes : test element ≡ true
  pub number : k ≡ n + at

-- the place stands in the list of places
pub record IsListed (k : ℕ) (ks : List ℕ) : Type 0 where
  pub at : ℕ
  pub there : slice_get ks at ≡ Some k

-- 1 for true
abbrev pub one : Bool → ℕ
one b = cond b 1 0

-- a count one element on, from the front and at the end
pub count-cons : {X : Type 0} (p : X → Bool) (x : X) (xs : List X) → count_by p (x ∷ xs) ≡ one (p x) + count_by p xs
count-cons p x xs = sum_by-cons (λ x. one (p x)) x xs

pub count-push : {X : Type 0} (p : X → Bool) (xs : List X) (x : X) → count_by p (xs ++ x ∷ []) ≡ count_by p xs + one (p x)
count-push p xs x = sum_by_push (λ x. one (p x)) xs x

module _ {X : Type 0} (test : X → Bool) where
  later : (n k : ℕ) (x : X) (xs : List X) → IsPlace test (suc n) k xs → IsPlace test n k (x ∷ xs)
  later n k x xs h = record { at = suc h.at; element = h.element; there = h.there; passes = h.passes; number = omega (arith, h.number) }

  -- the list of places with one more first element
  abbrev first_by : ℕ → List ℕ → Bool → List ℕ
  first_by n ks b = cond b (n ∷ ks) ks

  -- a listed place holds an element that passes
  holds-by : (n : ℕ) (x : X) (xs : List X) (ks : List ℕ) (k : ℕ) → ((i : ℕ) → slice_get ks i ≡ Some k → IsPlace test (suc n) k xs) →
      (i : ℕ) (b : Bool) → test x ≡ b → slice_get (first_by n ks b) i ≡ Some k → IsPlace test n k (x ∷ xs)
  holds-by n x xs ks k rest zero true t e = let same = some_injective n k e in record { at = 0; element = x; there = refl; passes = t; number = omega (arith, same) }
  holds-by n x xs ks k rest (suc i) true t e = later n k x xs (rest i e)
  holds-by n x xs ks k rest i false t e = later n k x xs (rest i e)

  pub place-holds : (n : ℕ) (xs : List X) (k i : ℕ) → slice_get (places_from test n xs) i ≡ Some k → IsPlace test n k xs
  place-holds n [] k i e = none_is_some k e
  place-holds n (x ∷ xs) k i e = holds-by n x xs (places_from test (suc n) xs) k (place-holds (suc n) xs k) i (test x) refl e

  -- each element that passes is listed
  listed-by : (n : ℕ) (ks : List ℕ) (k : ℕ) (b : Bool) → IsListed k ks → IsListed k (first_by n ks b)
  listed-by n ks k true h = record { at = suc h.at; there = h.there }
  listed-by n ks k false h = h

  listed-first : (n : ℕ) (ks : List ℕ) (b : Bool) → b ≡ true → IsListed (n + 0) (first_by n ks b)
  listed-first n ks true e = let same : n ≡ n + 0 = omega arith in record { at = 0; there = ap Some same }
  listed-first n ks false e = absurd (true≢false (sym e))

  pub place-listed : (n : ℕ) (xs : List X) (k : ℕ) (x : X) → slice_get xs k ≡ Some x → test x ≡ true → IsListed (n + k) (places_from test n xs)
  place-listed n [] k x e t = none_is_some x e
  place-listed n (y ∷ xs) zero x e t = listed-first n (places_from test (suc n) xs) (test y) (ap test (some_injective y x e) ∙ t)
  place-listed n (y ∷ xs) (suc k) x e t =
      let same : suc n + k ≡ n + suc k = omega arith in
      listed-by n (places_from test (suc n) xs) (n + suc k) (test y) (subst (λ j. IsListed j (places_from test (suc n) xs)) same (place-listed (suc n) xs k x e t))

  -- listed places aren't below the first one
  pub place-low : (n : ℕ) (xs : List X) (i k : ℕ) → slice_get (places_from test n xs) i ≡ Some k → n ≤ k
  place-low n xs i k e = let h = place-holds n xs k i e in omega (arith, h.number)

  -- and are in order
  abbrev IsRising : List ℕ → Type 0
  IsRising ks = (i j a b : ℕ) → i < j → slice_get ks i ≡ Some a → slice_get ks j ≡ Some b → a < b

  order-by : (n : ℕ) (ks : List ℕ) → ((i k : ℕ) → slice_get ks i ≡ Some k → suc n ≤ k) → IsRising ks → (c : Bool) → IsRising (first_by n ks c)
  order-by n ks low rest false i j a b lt e f = rest i j a b lt e f
  order-by n ks low rest true i zero a b lt e f = absurd (omega (arith, lt))
  order-by n ks low rest true zero (suc j) a b lt e f = let same = some_injective n a e in let above = low j b f in omega (arith, same, above)
  order-by n ks low rest true (suc i) (suc j) a b lt e f = rest i j a b (omega (arith, lt)) e f

  pub place-order : (n : ℕ) (xs : List X) → IsRising (places_from test n xs)
  place-order n [] i j a b lt e f = none_is_some a e
  place-order n (x ∷ xs) i j a b lt e f = order-by n (places_from test (suc n) xs) (place-low (suc n) xs) (place-order (suc n) xs) (test x) i j a b lt e f

  -- a new element at the end
  push-by : (n : ℕ) (ks rest more : List ℕ) (b : Bool) → rest ≡ ks ++ more → first_by n rest b ≡ first_by n ks b ++ more
  push-by n ks rest more true e = ap (λ l. n ∷ l) e
  push-by n ks rest more false e = e

  pub places-push : (n : ℕ) (xs : List X) (x : X) → places_from test n (xs ++ x ∷ []) ≡ places_from test n xs ++ cond (test x) ((n + length xs) ∷ []) []
  places-push n [] x = let same : n ≡ n + 0 = omega arith in ap (λ j. cond (test x) (j ∷ []) []) same
  places-push n (y ∷ xs) x =
      let same : suc n + length xs ≡ n + suc (length xs) = omega arith in
      push-by n (places_from test (suc n) xs) (places_from test (suc n) (xs ++ x ∷ [])) (cond (test x) ((n + suc (length xs)) ∷ []) []) (test y)
      (places-push (suc n) xs x ∙ ap (λ j. places_from test (suc n) xs ++ cond (test x) (j ∷ []) []) same)

  -- lists whose elements pass alike have the same places
  pub places-pairs : (n : ℕ) (xs ys : List X) (R : ℕ → X → X → Type 0) → ((k : ℕ) (x y : X) → R k x y → test x ≡ test y) → Pairs xs ys R → places_from test n xs ≡ places_from test n ys
  places-pairs n [] [] R same h = refl
  places-pairs n [] (y ∷ ys) R same h = absurd h
  places-pairs n (x ∷ xs) [] R same h = absurd h
  places-pairs n (x ∷ xs) (y ∷ ys) R same h =
      ap (first_by n (places_from test (suc n) xs)) (same 0 x y h.0)
      ∙ ap (λ l. first_by n l (test y)) (places-pairs (suc n) xs ys (λ k. R (suc k)) (λ k. same (suc k)) h.1)

  -- a change that each element passes as before
  pub places-kept : (f : X → X) → ((x : X) → test (f x) ≡ test x) → (n k : ℕ) (xs : List X) → places_from test n (change_at k f xs) ≡ places_from test n xs
  places-kept f same n k [] = refl
  places-kept f same n zero (x ∷ xs) = ap (first_by n (places_from test (suc n) xs)) (same x)
  places-kept f same n (suc k) (x ∷ xs) = ap (λ l. first_by n l (test x)) (places-kept f same (suc n) k xs)

  -- a change after which the element doesn't pass
  abbrev pub others : ℕ → List ℕ → List ℕ
  others k ks = filter (λ (j : ℕ). not (nat_eq j k)) ks

  apart : (k n : ℕ) → ¬ (n ≡ k) → nat_eq n k ≡ false
  apart k n ne = not-true (nat_eq n k) (λ e. ne (eqb-true n k e))

  others-first : (n k : ℕ) (ls : List ℕ) (b : Bool) → ¬ (n ≡ k) → first_by n (others k ls) b ≡ others k (first_by n ls b)
  others-first n k ls true ne = sym (ap (λ b. cond (not b) (n ∷ others k ls) (others k ls)) (apart k n ne))
  others-first n k ls false ne = refl

  others-above : (k n : ℕ) (xs : List X) → k < n → others k (places_from test n xs) ≡ places_from test n xs
  others-above k n [] lt = refl
  others-above k n (x ∷ xs) lt =
      sym (others-first n k (places_from test (suc n) xs) (test x) (λ is. omega (arith, lt, is)))
      ∙ ap (λ l. first_by n l (test x)) (others-above k (suc n) xs (omega (arith, lt)))

  lost-here : (n : ℕ) (ks : List ℕ) (b : Bool) → others n ks ≡ ks → ks ≡ others n (first_by n ks b)
  lost-here n ks true e = sym (ap (λ b. cond (not b) (n ∷ others n ks) (others n ks)) (eq-eqb n n refl) ∙ e)
  lost-here n ks false e = sym e

  pub places-lost : (f : X → X) → ((x : X) → test (f x) ≡ false) → (n k : ℕ) (xs : List X) → places_from test n (change_at k f xs) ≡ others (n + k) (places_from test n xs)
  places-lost f none n k [] = refl
  places-lost f none n zero (x ∷ xs) =
      let same : n ≡ n + 0 = omega arith in
      ap (first_by n (places_from test (suc n) xs)) (none x)
      ∙ lost-here n (places_from test (suc n) xs) (test x) (others-above n (suc n) xs (omega arith))
      ∙ ap (λ j. others j (first_by n (places_from test (suc n) xs) (test x))) same
  places-lost f none n (suc k) (x ∷ xs) =
      let same : suc n + k ≡ n + suc k = omega arith in
      ap (λ l. first_by n l (test x)) (places-lost f none (suc n) k xs ∙ ap (λ j. others j (places_from test (suc n) xs)) same)
      ∙ others-first n (n + suc k) (places_from test (suc n) xs) (test x) (λ is. omega (arith, is))

  -- what is joined of the elements that pass is joined by their places
  module _ {Y : Type 0} (g : X → List Y) (h : ℕ → List Y) (none : (x : X) → test x ≡ false → g x ≡ []) where
    flat-by : (n : ℕ) (x : X) (ks : List ℕ) (rest : List Y) (b : Bool) → test x ≡ b → h n ≡ g x → flat_map h ks ≡ rest → flat_map h (first_by n ks b) ≡ g x ++ rest
    flat-by n x ks rest true t e f = ap (λ l. h n ++ l) f ∙ ap (λ l. l ++ rest) e
    flat-by n x ks rest false t e f = f ∙ sym (ap (λ l. l ++ rest) (none x t))

    pub places-flat : (n : ℕ) (xs : List X) → ((k : ℕ) (x : X) → slice_get xs k ≡ Some x → h (n + k) ≡ g x) → flat_map h (places_from test n xs) ≡ flat_map g xs
    places-flat n [] is = refl
    places-flat n (x ∷ xs) is =
        let here : n ≡ n + 0 = omega arith in
        flat-by n x (places_from test (suc n) xs) (flat_map g xs) (test x) refl (ap h here ∙ is 0 x refl)
        (places-flat (suc n) xs (λ k y e. let same : suc n + k ≡ n + suc k = omega arith in ap h same ∙ is (suc k) y e))

  -- a change at a place whose element passes as before
  pub places-same : (f : X → X) (n k : ℕ) (xs : List X) (x : X) → slice_get xs k ≡ Some x → test (f x) ≡ test x → places_from test n (change_at k f xs) ≡ places_from test n xs
  places-same f n k [] x e same = refl
  places-same f n zero (y ∷ xs) x e same =
      let is = some_injective y x e in
      ap (first_by n (places_from test (suc n) xs)) (ap (λ z. test (f z)) is ∙ same ∙ ap test (sym is))
  places-same f n (suc k) (y ∷ xs) x e same = ap (λ l. first_by n l (test y)) (places-same f (suc n) k xs x e same)

  -- a change after which the element passes
  abbrev pub below : ℕ → List ℕ → ℕ
  below k ks = count_by (λ j. nat_lt j k) ks

  none-below : (k n : ℕ) (xs : List X) → k ≤ n → below k (places_from test n xs) ≡ 0
  none-below k n xs le = none-by (places_from test n xs) (λ i j e. let low = place-low n xs i j e in omega (arith, low, le))
    where
      none-by : (ks : List ℕ) → ((i j : ℕ) → slice_get ks i ≡ Some j → k ≤ j) → below k ks ≡ 0
      none-by [] low = refl
      none-by (j ∷ ks) low =
          let c = count-cons (λ j. nat_lt j k) j ks in
          let d = ap one (le-ltb j k (low 0 j refl)) in
          let r = none-by ks (λ i. low (suc i)) in
          omega (arith, c, d, r)

  gained-later : (n k : ℕ) (ks ls : List ℕ) (a : Bool) → n < k → ls ≡ insert ks (below k ks) k → first_by n ls a ≡ insert (first_by n ks a) (below k (first_by n ks a)) k
  gained-later n k ks ls true lt e =
      let a = count-cons (λ j. nat_lt j k) n ks in
      let d = ap one (lt-ltb n k lt) in
      let c : below k (n ∷ ks) ≡ suc (below k ks) = omega (arith, a, d) in
      ap (λ l. n ∷ l) e ∙ sym (ap (λ i. insert (n ∷ ks) i k) c)
  gained-later n k ks ls false lt e = e

  gained-here : (n : ℕ) (ks : List ℕ) (b : Bool) → b ≡ false → below n ks ≡ 0 → n ∷ ks ≡ insert (first_by n ks b) (below n (first_by n ks b)) n
  gained-here n ks true f none = absurd (true≢false f)
  gained-here n ks false f none = sym (ap (λ i. insert ks i n) none)

  pub places-gained : (f : X → X) (n k : ℕ) (xs : List X) (x : X) → slice_get xs k ≡ Some x → test x ≡ false → test (f x) ≡ true →
      places_from test n (change_at k f xs) ≡ insert (places_from test n xs) (below (n + k) (places_from test n xs)) (n + k)
  places-gained f n k [] x e no_more more = none_is_some x e
  places-gained f n zero (y ∷ xs) x e no_more more =
      let is = some_injective y x e in
      let same : n ≡ n + 0 = omega arith in
      ap (first_by n (places_from test (suc n) xs)) (ap (λ z. test (f z)) is ∙ more)
      ∙ gained-here n (places_from test (suc n) xs) (test y) (ap test is ∙ no_more) (none-below n (suc n) xs (omega arith))
      ∙ ap (λ j. insert (first_by n (places_from test (suc n) xs) (test y)) (below j (first_by n (places_from test (suc n) xs) (test y))) j) same
  places-gained f n (suc k) (y ∷ xs) x e no_more more =
      let same : suc n + k ≡ n + suc k = omega arith in
      gained-later n (n + suc k) (places_from test (suc n) xs) (places_from test (suc n) (change_at k f xs)) (test y) (omega arith)
      (places-gained f (suc n) k xs x e no_more more ∙ ap (λ j. insert (places_from test (suc n) xs) (below j (places_from test (suc n) xs)) j) same)

  -- no more places than elements, and fewer where an element doesn't pass
  few-by : (n : ℕ) (ks : List ℕ) (m : ℕ) (a : Bool) → length ks ≤ m → length (first_by n ks a) ≤ suc m
  few-by n ks m true le = omega (arith, le)
  few-by n ks m false le = omega (arith, le)

  pub places-few : (n : ℕ) (xs : List X) → length (places_from test n xs) ≤ length xs
  places-few n [] = omega arith
  places-few n (x ∷ xs) = few-by n (places_from test (suc n) xs) (length xs) (test x) (places-few (suc n) xs)

  fewer-here : (n : ℕ) (ks : List ℕ) (m : ℕ) (a : Bool) → a ≡ false → length ks ≤ m → length (first_by n ks a) < suc m
  fewer-here n ks m true f le = absurd (true≢false f)
  fewer-here n ks m false f le = omega (arith, le)

  fewer-later : (n : ℕ) (ks : List ℕ) (m : ℕ) (a : Bool) → length ks < m → length (first_by n ks a) < suc m
  fewer-later n ks m true lt = omega (arith, lt)
  fewer-later n ks m false lt = omega (arith, lt)

  pub places-fewer : (n k : ℕ) (xs : List X) (x : X) → slice_get xs k ≡ Some x → test x ≡ false → length (places_from test n xs) < length xs
  places-fewer n k [] x e no_more = none_is_some x e
  places-fewer n zero (y ∷ xs) x e no_more = fewer-here n (places_from test (suc n) xs) (length xs) (test y) (ap test (some_injective y x e) ∙ no_more) (places-few (suc n) xs)
  places-fewer n (suc k) (y ∷ xs) x e no_more = fewer-later n (places_from test (suc n) xs) (length xs) (test y) (places-fewer (suc n) k xs x e no_more)

  -- of the places of elements that pass one test those whose elements pass another, which only such
  -- elements do
  module _ (other : X → Bool) (h : ℕ → List ℕ) (only : (x : X) → other x ≡ true → test x ≡ true) where
    among-by : (n : ℕ) (x : X) (ks rest : List ℕ) (a b : Bool) → test x ≡ a → other x ≡ b → h n ≡ cond b (n ∷ []) [] → flat_map h ks ≡ rest → flat_map h (first_by n ks a) ≡ first_by n rest b
    among-by n x ks rest true true t o e f = ap (λ l. l ++ flat_map h ks) e ∙ ap (λ l. n ∷ l) f
    among-by n x ks rest true false t o e f = ap (λ l. l ++ flat_map h ks) e ∙ f
    among-by n x ks rest false true t o e f = absurd (true≢false (sym (only x o) ∙ t))
    among-by n x ks rest false false t o e f = f

    pub places-among : (n : ℕ) (xs : List X) → ((k : ℕ) (x : X) → slice_get xs k ≡ Some x → h (n + k) ≡ cond (other x) ((n + k) ∷ []) []) → flat_map h (places_from test n xs) ≡ places_from other n xs
    places-among n [] is = refl
    places-among n (x ∷ xs) is =
        let here : n + 0 ≡ n = omega arith in
        among-by n x (places_from test (suc n) xs) (places_from other (suc n) xs) (test x) (other x) refl refl (ap h (sym here) ∙ is 0 x refl ∙ ap (λ j. cond (other x) (j ∷ []) []) here)
        (places-among (suc n) xs (λ k y e. let same : suc n + k ≡ n + suc k = omega arith in ap h same ∙ is (suc k) y e ∙ ap (λ j. cond (other y) (j ∷ []) []) (sym same)))

  -- whether one that passes has a further property
  module _ (more : X → Bool) (h : ℕ → Bool) where
    any-by : (n : ℕ) (ks : List ℕ) (rest m a : Bool) → h n ≡ m → list_any h ks ≡ rest → list_any h (first_by n ks a) ≡ ((a && m) || rest)
    any-by n ks rest m true e f = ap (λ b. b || list_any h ks) e ∙ ap (λ b. m || b) f
    any-by n ks rest m false e f = f

    pub places-any : (n : ℕ) (xs : List X) → ((k : ℕ) (x : X) → slice_get xs k ≡ Some x → h (n + k) ≡ more x) → list_any h (places_from test n xs) ≡ list_any (λ x. test x && more x) xs
    places-any n [] is = refl
    places-any n (x ∷ xs) is =
        let here : n ≡ n + 0 = omega arith in
        any-by n (places_from test (suc n) xs) (list_any (λ y. test y && more y) xs) (more x) (test x) (ap h here ∙ is 0 x refl)
        (places-any (suc n) xs (λ k y e. let same : suc n + k ≡ n + suc k = omega arith in ap h same ∙ is (suc k) y e))

  -- how many of those that pass have a further property
  module _ (more : X → Bool) (h : ℕ → Bool) where
    count-by : (n : ℕ) (ks : List ℕ) (rest : ℕ) (m a : Bool) → h n ≡ m → count_by h ks ≡ rest → count_by h (first_by n ks a) ≡ one (a && m) + rest
    count-by n ks rest m true e f = count-cons h n ks ∙ ap (λ b. one b + count_by h ks) e ∙ ap (λ i. one m + i) f
    count-by n ks rest m false e f = let same : rest ≡ 0 + rest = omega arith in f ∙ same

    pub places-count : (n : ℕ) (xs : List X) → ((k : ℕ) (x : X) → slice_get xs k ≡ Some x → h (n + k) ≡ more x) → count_by h (places_from test n xs) ≡ count_by (λ x. test x && more x) xs
    places-count n [] is = refl
    places-count n (x ∷ xs) is =
        let here : n ≡ n + 0 = omega arith in
        count-by n (places_from test (suc n) xs) (count_by (λ y. test y && more y) xs) (more x) (test x) (ap h here ∙ is 0 x refl)
        (places-count (suc n) xs (λ k y e. let same : suc n + k ≡ n + suc k = omega arith in ap h same ∙ is (suc k) y e))
        ∙ sym (count-cons (λ y. test y && more y) x xs)

  -- whether one passes
  empty-by : (n : ℕ) (ks : List ℕ) (rest a : Bool) → nat_lt 0 (length ks) ≡ rest → nat_lt 0 (length (first_by n ks a)) ≡ (a || rest)
  empty-by n ks rest true e = lt-ltb 0 (suc (length ks)) (omega arith)
  empty-by n ks rest false e = e

  pub places-empty : (n : ℕ) (xs : List X) → nat_lt 0 (length (places_from test n xs)) ≡ list_any test xs
  places-empty n [] = refl
  places-empty n (x ∷ xs) = empty-by n (places_from test (suc n) xs) (list_any test xs) (test x) (places-empty (suc n) xs)

-- a count one step on
pub placed-count-more : (h : ℕ → Bool) (ks : List ℕ) (i k : ℕ) → slice_get ks i ≡ Some k → count_by h (take (i + 1) ks) ≡ count_by h (take i ks) + one (h k)
placed-count-more h ks i k e =
    let more = take_more ks i k (get-lt ks i k e) ∙ ap (λ j. take i ks ++ j ∷ []) (get_or_from_slice_get ks i k k e) in
    ap (count_by h) more ∙ count-push h (take i ks) k

-- the places counted from 0
module _ {X : Type 0} (test : X → Bool) (xs : List X) where
  abbrev ks : List ℕ
  ks = places_of test xs

  -- the element at a listed place
  pub record Placed (k : ℕ) : Type 0 where
    pub element : X
    pub there : slice_get xs k ≡ Some element
    pub passes : test element ≡ true

  pub placed : (i k : ℕ) → slice_get ks i ≡ Some k → Placed k
  placed i k e =
      let h = place-holds test 0 xs k i e in
      let same : h.at ≡ k = omega (arith, h.number) in
      record { element = h.element; there = subst (λ j. slice_get xs j ≡ Some h.element) same h.there; passes = h.passes }

  -- an element that passes is listed
  pub listed-place : (k : ℕ) (x : X) → slice_get xs k ≡ Some x → test x ≡ true → IsListed k ks
  listed-place k x e t = let same : 0 + k ≡ k = omega arith in subst (λ j. IsListed j ks) same (place-listed test 0 xs k x e t)

  pub placed-lt : (i k : ℕ) → slice_get ks i ≡ Some k → k < length xs
  placed-lt i k e = let h = placed i k e in get-lt xs k h.element h.there

  -- an element before the listed one that passes is listed before it
  pub listed-before : (i k j : ℕ) (x : X) → slice_get ks i ≡ Some k → j < k → slice_get xs j ≡ Some x → test x ≡ true → (p : ℕ) × (p < i) × (slice_get ks p ≡ Some j)
  listed-before i k j x e lt there t =
      let l = listed-place j x there t in
      (l.at, less l.at l.there (cases_lt l.at i), l.there)
    where
      less : (p : ℕ) → slice_get ks p ≡ Some j → (p < i) ⊎ (i ≤ p) → p < i
      less p e_p (inl h) = h
      less p e_p (inr le) = by (cases_order i p)
        where
          by : (i ≡ p) ⊎ ((i < p) ⊎ (p < i)) → p < i
          by (inl same) = let k_is = some_injective k j (sym e ∙ (ap (slice_get ks) same ∙ e_p)) in absurd (omega (arith, lt, k_is))
          by (inr (inl more)) = let o = place-order test 0 xs i p k j more e e_p in absurd (omega (arith, lt, o))
          by (inr (inr h)) = h

  -- the listed place of this number; past the end that of no element
  abbrev pub next_of : ℕ → ℕ
  next_of i = get_or ks i (length xs)

  pub next-is : (i k : ℕ) → slice_get ks i ≡ Some k → next_of i ≡ k
  next-is i k e = get_or_from_slice_get ks i k (length xs) e

  -- no element between two listed places that follow one another passes
  pub none-between : (i j : ℕ) (x : X) → ((p k : ℕ) → p < i → slice_get ks p ≡ Some k → k < j) → j < next_of i → slice_get xs j ≡ Some x → test x ≡ false
  none-between i j x past lt there = not-true (test x) (λ t. let l = listed-place j x there t in by l.at l.there (cases_lt l.at i))
    where
      by : (p : ℕ) → slice_get ks p ≡ Some j → (p < i) ⊎ (i ≤ p) → ⊥
      by p e (inl less) = let below = past p j less e in omega (arith, below)
      by p e (inr le) = at (cases_order i p)
        where
          within : i < length ks → i < p → ⊥
          within in_ks more =
              let here = slice_get-get_or ks i (length xs) in_ks in
              let o = place-order test 0 xs i p (next_of i) j more here e in
              omega (arith, o, lt)

          at : (i ≡ p) ⊎ ((i < p) ⊎ (p < i)) → ⊥
          at (inl same) = let is = next-is i j (ap (slice_get ks) same ∙ e) in omega (arith, is, lt)
          at (inr (inl more)) = within (omega (arith, get-lt ks p j e, more)) more
          at (inr (inr less)) = omega (arith, le, less)

  -- what elements give is joined place by place
  module _ {Y : Type 0} (g : X → List Y) where
    abbrev pub joined : List ℕ → List Y
    joined places = flat_map (λ k. option_map_or g (slice_get xs k) []) places

    pub joined-more : (i k : ℕ) (x : X) (done : List Y) → slice_get ks i ≡ Some k → slice_get xs k ≡ Some x → done ≡ joined (take i ks) → done ++ g x ≡ joined (take (i + 1) ks)
    joined-more i k x done e there is =
        let more = take_more ks i k (get-lt ks i k e) ∙ ap (λ j. take i ks ++ j ∷ []) (get_or_from_slice_get ks i k k e) in
        ap (λ l. l ++ g x) is ∙ ap (λ o. joined (take i ks) ++ option_map_or g o []) (sym there)
        ∙ flat_map_more (λ k. option_map_or g (slice_get xs k) []) [] (take i ks) k ∙ ap joined (sym more)

    pub joined-end : (i : ℕ) (done : List Y) → ((x : X) → test x ≡ false → g x ≡ []) → length ks ≤ i → done ≡ joined (take i ks) → done ≡ flat_map g xs
    joined-end i done none le is =
        is ∙ ap joined (take_all i ks le)
        ∙ places-flat test g (λ k. option_map_or g (slice_get xs k) []) none 0 xs
        (λ k x e. let same : 0 + k ≡ k = omega arith in ap (λ j. option_map_or g (slice_get xs j) []) same ∙ ap (λ o. option_map_or g o []) e)

  -- of the elements that have the property, each of which passes, the first
  module _ (P : ℕ → X → Type 0) (only : (k : ℕ) (x : X) → P k x → test x ≡ true) where
    -- none at the first listed places has it
    abbrev pub NoneBefore : ℕ → Type 0
    NoneBefore i = (p k : ℕ) (x : X) → p < i → slice_get ks p ≡ Some k → slice_get xs k ≡ Some x → ¬ P k x

    pub none-before-more : (i k : ℕ) (x : X) → NoneBefore i → slice_get ks i ≡ Some k → slice_get xs k ≡ Some x → ¬ P k x → NoneBefore (i + 1)
    none-before-more i k x none e there not_here p j y lt e_p there_j has = by (cases_lt p i)
      where
        by : (p < i) ⊎ (i ≤ p) → ⊥
        by (inl less) = none p j y less e_p there_j has
        by (inr le) =
            let same : p ≡ i = omega (arith, lt, le) in
            let k_is = some_injective j k (sym e_p ∙ (ap (slice_get ks) same ∙ e)) in
            let x_is = some_injective y x (sym there_j ∙ (ap (slice_get xs) k_is ∙ there)) in
            not_here (subst (λ n. P n x) k_is (subst (λ z. P j z) x_is has))

    pub first-listed : (i k : ℕ) (x : X) → NoneBefore i → slice_get ks i ≡ Some k → slice_get xs k ≡ Some x → P k x → IsFirst xs P k
    first-listed i k x none e there has = record {
      found = x;
      there = there;
      has = has;
      first = λ j y lt there_j has_j.
          let l = listed-before i k j y e lt there_j (only j y has_j) in
          none l.0 j y l.1 l.2 there_j has_j;
    }

    pub none-listed : (i : ℕ) → NoneBefore i → length ks ≤ i → (k : ℕ) (x : X) → slice_get xs k ≡ Some x → ¬ P k x
    none-listed i none le k x there has =
        let l = listed-place k x there (only k x has) in
        let lt = get-lt ks l.at k l.there in
        none l.at k x (omega (arith, lt, le)) l.there there has
