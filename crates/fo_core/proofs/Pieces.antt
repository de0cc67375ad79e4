-- Lists joined piece by piece, and lists of successive numbers.
use Rattle.std.proofs.Common.{◌≡◌, ℕ, zero, suc, Bool, true, false, cond, ◌+◌, ◌*◌, ◌<◌, ◌≤◌, List, [], ◌∷◌, ◌++◌, length, get_or, map, take, refl, sym, ap, subst, ◌∙◌, arith, zero-add}
use Rattle.std.specs.List.{All, Contains, filter, flat_map, range_with_len}
use Rattle.std.proofs.lemmas.List.{map-append, length-map, get_or-map, append-nil, length_push, take_all}
use Rattle.std.proofs.lemmas.List.Elements.{All-head, All-tail, Contains-append_left, Contains-append_right, filter-append, filter_more}
use Rattle.std.proofs.lemmas.Grind.{flat_map-append}
use Rattle.std.proofs.lemmas.List.FromFn.{length-range_with_len, get_or-range_with_len, fill_by_all, map-range_with_len_more}

module _ {X Y : Type 0} where
  pub map-agree : (f g : X → Y) (xs : List X) → All (λ x. f x ≡ g x) xs → map f xs ≡ map g xs
  map-agree f g [] h = refl
  map-agree f g (x ∷ xs) h =
      ap (λ y. y ∷ map f xs) (All-head (λ x. f x ≡ g x) x xs h) ∙ ap (λ ys. g x ∷ ys) (map-agree f g xs (All-tail (λ x. f x ≡ g x) x xs h))

  pub flat_map-agree : (f g : X → List Y) (xs : List X) → All (λ x. f x ≡ g x) xs → flat_map f xs ≡ flat_map g xs
  flat_map-agree f g [] h = refl
  flat_map-agree f g (x ∷ xs) h =
      ap (λ ys. ys ++ flat_map f xs) (All-head (λ x. f x ≡ g x) x xs h) ∙ ap (λ ys. g x ++ ys) (flat_map-agree f g xs (All-tail (λ x. f x ≡ g x) x xs h))

  pub Contains-flat_map : (f : X → List Y) (xs : List X) (x : X) (y : Y) → Contains xs x → Contains (f x) y → Contains (flat_map f xs) y
  Contains-flat_map f [] x y (k, lt, e) h = absurd (omega arith)
  Contains-flat_map f (z ∷ xs) x y (zero, lt, e) h = Contains-append_left (f z) (flat_map f xs) y (subst (λ x. Contains (f x) y) (sym e) h)
  Contains-flat_map f (z ∷ xs) x y (suc k, lt, e) h = Contains-append_right (f z) (flat_map f xs) y (Contains-flat_map f xs x y (k, omega arith, e) h)

  pub Contains-map : (f : X → Y) (xs : List X) (x : X) → Contains xs x → Contains (map f xs) (f x)
  Contains-map f xs x (k, lt, e) = (k, rw (length-map xs f) lt, get_or-map f xs k x (f x) lt ∙ ap f e)

module _ {X Y Z : Type 0} where
  pub map-map : (g : Y → Z) (f : X → Y) (xs : List X) → map g (map f xs) ≡ map (λ x. g (f x)) xs
  map-map g f [] = refl
  map-map g f (x ∷ xs) = ap (λ zs. g (f x) ∷ zs) (map-map g f xs)

  pub map-flat_map : (g : Y → Z) (f : X → List Y) (xs : List X) → map g (flat_map f xs) ≡ flat_map (λ x. map g (f x)) xs
  map-flat_map g f [] = refl
  map-flat_map g f (x ∷ xs) = map-append g (f x) (flat_map f xs) ∙ ap (λ zs. map g (f x) ++ zs) (map-flat_map g f xs)

  pub flat_map-map : (g : Y → List Z) (f : X → Y) (xs : List X) → flat_map g (map f xs) ≡ flat_map (λ x. g (f x)) xs
  flat_map-map g f [] = refl
  flat_map-map g f (x ∷ xs) = ap (λ zs. g (f x) ++ zs) (flat_map-map g f xs)

-- what a filter keeps stands in the filtered list
pub Contains-filter : {X : Type 0} (p : X → Bool) (xs : List X) (x : X) → Contains xs x → p x ≡ true → Contains (filter p xs) x
Contains-filter p [] x (k, lt, e) h = absurd (omega arith)
Contains-filter {X} p (y ∷ xs) x (zero, lt, e) h = subst (λ b. Contains (cond b (y ∷ filter p xs) (filter p xs)) x) (sym (ap p e ∙ h)) (0, omega arith, e)
Contains-filter {X} p (y ∷ xs) x (suc k, lt, e) h = behind (p y) (Contains-filter p xs x (k, omega arith, e) h)
  where
    behind : (b : Bool) → Contains (filter p xs) x → Contains (cond b (y ∷ filter p xs) (filter p xs)) x
    behind true c = (suc c.0, omega (arith, c.1), c.2)
    behind false c = c

-- the numbers below n
pub range-Contains : (n k : ℕ) → k < n → Contains (range_with_len 0 n) k
range-Contains n k lt = (k, rw (length-range_with_len 0 n) lt, (let e = get_or-range_with_len 0 n k k lt in let z : 0 + k ≡ k = omega arith in e ∙ z))

pub range-append : (a m n : ℕ) → range_with_len a m ++ range_with_len (a + m) n ≡ range_with_len a (m + n)
range-append a zero n = let e : a + 0 ≡ a = omega arith in let f : 0 + n ≡ n = omega arith in rw (e, f) refl
range-append a (suc m) n =
    let e : a + suc m ≡ (a + 1) + m = omega arith in
    let f : suc m + n ≡ suc (m + n) = omega arith in
    rw (e, f) (ap (λ xs. a ∷ xs) (range-append (a + 1) m n))

pub range-shift : (by a n : ℕ) → map (λ k. by + k) (range_with_len a n) ≡ range_with_len (by + a) n
range-shift by a zero = refl
range-shift by a (suc n) = let e : by + (a + 1) ≡ (by + a) + 1 = omega arith in ap (λ xs. (by + a) ∷ xs) (range-shift by (a + 1) n ∙ ap (λ b. range_with_len b n) e)

-- blocks of one length, one behind the other
pub range-blocks : (t a n : ℕ) → flat_map (λ x. range_with_len (x * t) t) (range_with_len a n) ≡ range_with_len (a * t) (n * t)
range-blocks t a zero = let e : 0 * t ≡ 0 = omega arith in rw e refl
range-blocks t a (suc n) =
    let e : (a + 1) * t ≡ a * t + t = omega arith in
    let f : suc n * t ≡ t + n * t = omega arith in
    rw f (ap (λ xs. range_with_len (a * t) t ++ xs) (range-blocks t (a + 1) n ∙ ap (λ b. range_with_len b (n * t)) e) ∙ range-append (a * t) t (n * t))

-- a list is what stands at its places
pub places-all : {X : Type 0} (xs : List X) (d : X) → map (λ k. get_or xs k d) (range_with_len 0 (length xs)) ≡ xs
places-all xs d = sym (fill_by_all (λ k. get_or xs k d) xs (length xs) d refl (λ k lt. refl))

pub range-more : (n : ℕ) → range_with_len 0 (n + 1) ≡ range_with_len 0 n ++ n ∷ []
range-more n = let e : 0 + n ≡ n = omega arith in sym (range-append 0 n 1) ∙ ap (λ k. range_with_len 0 n ++ k ∷ []) e

-- of what passes, the ranks among what passes are the numbers from 0 on
module _ {X : Type 0} (p : X → Bool) (xs : List X) (d : X) where
  abbrev passes : ℕ → Bool
  passes k = p (get_or xs k d)

  abbrev pub rank_in : ℕ → ℕ
  rank_in k = length (filter p (take k xs))

  ranks-to : (n : ℕ) → n ≤ length xs → map rank_in (filter passes (range_with_len 0 n)) ≡ range_with_len 0 (rank_in n)
  ranks-to zero le = refl
  ranks-to (suc n) le =
      let e : n + 1 ≡ suc n = omega arith in
      subst (λ m. map rank_in (filter passes (range_with_len 0 m)) ≡ range_with_len 0 (rank_in m)) e (step (ranks-to n (omega arith)))
    where
      by_test : (b : Bool) (ns : List ℕ) (ys : List X) (x : X) → map rank_in ns ≡ range_with_len 0 (length ys) → rank_in n ≡ length ys → map rank_in (ns ++ cond b (n ∷ []) []) ≡ range_with_len 0 (length (ys ++ cond b (x ∷ []) []))
      by_test true ns ys x so_far is =
          map-append rank_in ns (n ∷ []) ∙ ap (λ ms. ms ++ rank_in n ∷ []) so_far ∙ ap (λ m. range_with_len 0 (length ys) ++ m ∷ []) is
          ∙ sym (range-more (length ys)) ∙ ap (range_with_len 0) (sym (length_push ys x))
      by_test false ns ys x so_far is = ap (map rank_in) (append-nil ns) ∙ so_far ∙ ap (λ zs. range_with_len 0 (length zs)) (sym (append-nil ys))

      step : map rank_in (filter passes (range_with_len 0 n)) ≡ range_with_len 0 (rank_in n) → map rank_in (filter passes (range_with_len 0 (n + 1))) ≡ range_with_len 0 (rank_in (n + 1))
      step so_far =
          ap (λ ns. map rank_in (filter passes ns)) (range-more n)
          ∙ ap (map rank_in) (filter-append passes (range_with_len 0 n) (n ∷ []))
          ∙ by_test (passes n) (filter passes (range_with_len 0 n)) (filter p (take n xs)) (get_or xs n d) so_far refl
          ∙ ap (λ ys. range_with_len 0 (length ys)) (sym (filter_more p xs n d (omega arith)))

  pub ranks-all : map rank_in (filter passes (range_with_len 0 (length xs))) ≡ range_with_len 0 (length (filter p xs))
  ranks-all = ranks-to (length xs) (omega arith) ∙ ap (λ ys. range_with_len 0 (length (filter p ys))) (take_all (length xs) xs (omega arith))

  -- and they are what the filter keeps, in turn
  kept-to : (n : ℕ) → n ≤ length xs → map (λ k. get_or xs k d) (filter passes (range_with_len 0 n)) ≡ filter p (take n xs)
  kept-to zero le = refl
  kept-to (suc n) le =
      let e : n + 1 ≡ suc n = omega arith in
      subst (λ m. map (λ k. get_or xs k d) (filter passes (range_with_len 0 m)) ≡ filter p (take m xs)) e (step (kept-to n (omega arith)))
    where
      by_test : (b : Bool) (ns : List ℕ) (ys : List X) → map (λ k. get_or xs k d) ns ≡ ys → map (λ k. get_or xs k d) (ns ++ cond b (n ∷ []) []) ≡ ys ++ cond b (get_or xs n d ∷ []) []
      by_test true ns ys so_far = map-append (λ k. get_or xs k d) ns (n ∷ []) ∙ ap (λ ms. ms ++ get_or xs n d ∷ []) so_far
      by_test false ns ys so_far = ap (map (λ k. get_or xs k d)) (append-nil ns) ∙ so_far ∙ sym (append-nil ys)

      step : map (λ k. get_or xs k d) (filter passes (range_with_len 0 n)) ≡ filter p (take n xs) → map (λ k. get_or xs k d) (filter passes (range_with_len 0 (n + 1))) ≡ filter p (take (n + 1) xs)
      step so_far =
          ap (λ ns. map (λ k. get_or xs k d) (filter passes ns)) (range-more n)
          ∙ ap (map (λ k. get_or xs k d)) (filter-append passes (range_with_len 0 n) (n ∷ []))
          ∙ by_test (passes n) (filter passes (range_with_len 0 n)) (filter p (take n xs)) so_far
          ∙ sym (filter_more p xs n d (omega arith))

  pub kept-all : map (λ k. get_or xs k d) (filter passes (range_with_len 0 (length xs))) ≡ filter p xs
  kept-all = kept-to (length xs) (omega arith) ∙ ap (filter p) (take_all (length xs) xs (omega arith))

pub map_more : {X : Type 0} (f : ℕ → X) (n : ℕ) → map f (range_with_len 0 (n + 1)) ≡ map f (range_with_len 0 n) ++ f n ∷ []
map_more f n = map-range_with_len_more f 0 n n (zero-add n)

pub flat_map_more : {X : Type 0} (f : ℕ → List X) (n : ℕ) → flat_map f (range_with_len 0 (n + 1)) ≡ flat_map f (range_with_len 0 n) ++ f n
flat_map_more f n = ap (flat_map f) (range-more n) ∙ flat_map-append f (range_with_len 0 n) (n ∷ []) ∙ ap (λ xs. flat_map f (range_with_len 0 n) ++ xs) (append-nil (f n))
