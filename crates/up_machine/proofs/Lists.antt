-- Places of lists.
use Rattle.std.proofs.Common.{◌≡◌, ℕ, zero, suc, ◌<◌, Bool, true, false, cond, ◌&&◌, ◌⊎◌, inl, inr, List, [], ◌∷◌, ◌++◌, length, map, filter, Option, None, Some, is_some, slice_get, refl, sym, ap, subst, ◌∙◌, arith, true≢false, All, Any, unwrap_or, find}
use Rattle.std.specs.Prelude.{option_map}
use Rattle.std.proofs.lemmas.List.Elements.{All-nil, All-cons, All-head, All-tail}
use Rattle.up_machine.specs.Replay.{change_at}
use Rattle.up_machine.specs.Sound.{Each}

pub some_injective : {X : Type 0} (x y : X) → Some x ≡ Some y → x ≡ y
some_injective x y e = ap (λ o. unwrap_or o x) e

pub none_is_some : {X : Type 0} {Y : Type 0} (x : X) → None ≡ Some x → Y
none_is_some x e = absurd (true≢false (sym (ap is_some e)))

pub false_is_true : {A : Type 0} → false ≡ true → A
false_is_true e = absurd (true≢false (sym e))

module _ {X : Type 0} where
  pub get-append : (xs ys : List X) (k : ℕ) (x : X) → slice_get xs k ≡ Some x → slice_get (xs ++ ys) k ≡ Some x
  get-append [] ys k x e = none_is_some x e
  get-append (a ∷ xs) ys zero x e = e
  get-append (a ∷ xs) ys (suc k) x e = get-append xs ys k x e

  -- what stands in a list with one more element
  abbrev pub IsPushed : List X → X → ℕ → X → Type 0
  IsPushed xs y k x = (slice_get xs k ≡ Some x) ⊎ (k ≡ length xs) × (y ≡ x)

  pub get-push : (xs : List X) (y : X) (k : ℕ) (x : X) → slice_get (xs ++ y ∷ []) k ≡ Some x → IsPushed xs y k x
  get-push [] y zero x e = inr (refl, some_injective y x e)
  get-push [] y (suc k) x e = none_is_some x e
  get-push (a ∷ xs) y zero x e = inl e
  get-push (a ∷ xs) y (suc k) x e = up (get-push xs y k x e)
    where
      up : IsPushed xs y k x → IsPushed (a ∷ xs) y (suc k) x
      up (inl h) = inl h
      up (inr h) = inr (ap suc h.0, h.1)

  -- an element as it was before a change at a place, and after it
  abbrev pub IsChanged : ℕ → (X → X) → ℕ → X → X → Type 0
  IsChanged j f k x y = (j ≡ k) × (f x ≡ y) ⊎ (x ≡ y)

  changed_up : (j k : ℕ) (f : X → X) (x y : X) → IsChanged j f k x y → IsChanged (suc j) f (suc k) x y
  changed_up j k f x y (inl h) = inl (ap suc h.0, h.1)
  changed_up j k f x y (inr h) = inr h

  -- what stood there before the change
  pub get-changed : (j : ℕ) (f : X → X) (xs : List X) (k : ℕ) (y : X) → slice_get (change_at j f xs) k ≡ Some y →
      (x : X) × (slice_get xs k ≡ Some x) × IsChanged j f k x y
  get-changed j f [] k y e = none_is_some y e
  get-changed zero f (a ∷ xs) zero y e = (a, refl, inl (refl, some_injective (f a) y e))
  get-changed zero f (a ∷ xs) (suc k) y e = (y, e, inr refl)
  get-changed (suc j) f (a ∷ xs) zero y e = (a, refl, inr (some_injective a y e))
  get-changed (suc j) f (a ∷ xs) (suc k) y e = let r = get-changed j f xs k y e in (r.0, r.1, changed_up j k f r.0 y r.2)

  -- what stands there after the change
  pub get-change : (j : ℕ) (f : X → X) (xs : List X) (k : ℕ) (x : X) → slice_get xs k ≡ Some x →
      (y : X) × (slice_get (change_at j f xs) k ≡ Some y) × IsChanged j f k x y
  get-change j f [] k x e = none_is_some x e
  get-change zero f (a ∷ xs) zero x e = (f a, refl, inl (refl, ap f (sym (some_injective a x e))))
  get-change zero f (a ∷ xs) (suc k) x e = (x, e, inr refl)
  get-change (suc j) f (a ∷ xs) zero x e = (a, refl, inr (sym (some_injective a x e)))
  get-change (suc j) f (a ∷ xs) (suc k) x e = let r = get-change j f xs k x e in (r.0, r.1, changed_up j k f x r.0 r.2)

  pub get-here : (j : ℕ) (f : X → X) (xs : List X) (x : X) → slice_get xs j ≡ Some x → slice_get (change_at j f xs) j ≡ Some (f x)
  get-here j f [] x e = none_is_some x e
  get-here zero f (a ∷ xs) x e = ap (λ y. Some (f y)) (some_injective a x e)
  get-here (suc j) f (a ∷ xs) x e = get-here j f xs x e

  pub Each-cons : (x : X) (xs : List X) (P : ℕ → X → Type 0) → P 0 x → Each xs (λ k. P (suc k)) → Each (x ∷ xs) P
  Each-cons x xs P h hs zero y e = subst (P 0) (some_injective x y e) h
  Each-cons x xs P h hs (suc k) y e = hs k y e

  pub Each-nil : (P : ℕ → X → Type 0) → Each [] P
  Each-nil P k x e = none_is_some x e

  pub two_places : (xs : List X) (k : ℕ) (x y : X) → slice_get xs k ≡ Some x → slice_get xs k ≡ Some y → x ≡ y
  two_places xs k x y e f = some_injective x y (sym e ∙ f)

  pub get-lt : (xs : List X) (k : ℕ) (x : X) → slice_get xs k ≡ Some x → k < length xs
  get-lt [] k x e = none_is_some x e
  get-lt (a ∷ xs) zero x e = omega arith
  get-lt (a ∷ xs) (suc k) x e = omega (arith, get-lt xs k x e)

  pub each-of_all : (xs : List X) (P : X → Type 0) → All P xs → Each xs (λ k. P)
  each-of_all [] P h k x e = none_is_some x e
  each-of_all (a ∷ xs) P h zero x e = subst P (some_injective a x e) (All-head P a xs h)
  each-of_all (a ∷ xs) P h (suc k) x e = each-of_all xs P (All-tail P a xs h) k x e

  pub all-of_each : (xs : List X) (P : X → Type 0) → Each xs (λ k. P) → All P xs
  all-of_each [] P h = All-nil P
  all-of_each (x ∷ xs) P h = All-cons P x xs (h 0 x refl) (all-of_each xs P (λ k y e. h (suc k) y e))

  pub any-of_place : (P : X → Type 0) (xs : List X) (k : ℕ) (x : X) → slice_get xs k ≡ Some x → P x → Any P xs
  any-of_place P [] k x e p = none_is_some x e
  any-of_place P (a ∷ xs) zero x e p = (0, x, omega arith, some_injective a x e, p)
  any-of_place P (a ∷ xs) (suc k) x e p = let r = any-of_place P xs k x e p in (suc r.0, r.1, omega (arith, r.2), r.3, r.4)

  -- an element that passes a test stood in the list before
  pub get-filter : (test : X → Bool) (xs : List X) (k : ℕ) (x : X) → slice_get (filter test xs) k ≡ Some x →
      (j : ℕ) × (slice_get xs j ≡ Some x) × (test x ≡ true)
  get-filter test [] k x e = none_is_some x e
  get-filter test (a ∷ xs) k x e = step (get-filter test xs) (test a) refl k e
    where
      step : ((k : ℕ) (x : X) → slice_get (filter test xs) k ≡ Some x → (j : ℕ) × (slice_get xs j ≡ Some x) × (test x ≡ true)) →
          (b : Bool) → test a ≡ b → (k : ℕ) → slice_get (cond b (a ∷ filter test xs) (filter test xs)) k ≡ Some x →
          (j : ℕ) × (slice_get (a ∷ xs) j ≡ Some x) × (test x ≡ true)
      step rest true is zero e = (0, e, subst (λ y. test y ≡ true) (some_injective a x e) is)
      step rest true is (suc k) e = let r = rest k x e in (suc r.0, r.1, r.2)
      step rest false is k e = let r = rest k x e in (suc r.0, r.1, r.2)

  -- what is found stands in the list and passes the test
  pub get-find : (test : X → Bool) (xs : List X) (x : X) → find test xs ≡ Some x → (j : ℕ) × (slice_get xs j ≡ Some x) × (test x ≡ true)
  get-find test [] x e = none_is_some x e
  get-find test (a ∷ xs) x e = step (get-find test xs x) (test a) refl e
    where
      step : (find test xs ≡ Some x → (j : ℕ) × (slice_get xs j ≡ Some x) × (test x ≡ true)) →
          (b : Bool) → test a ≡ b → cond b (Some a) (find test xs) ≡ Some x →
          (j : ℕ) × (slice_get (a ∷ xs) j ≡ Some x) × (test x ≡ true)
      step rest true is e = (0, e, subst (λ y. test y ≡ true) (some_injective a x e) is)
      step rest false is e = let r = rest e in (suc r.0, r.1, r.2)

-- what a mapped option was made from
pub mapped_some : {X Y : Type 0} (f : X → Y) (o : Option X) (y : Y) → option_map f o ≡ Some y → (x : X) × (o ≡ Some x) × (f x ≡ y)
mapped_some f None y e = none_is_some y e
mapped_some f (Some x) y e = (x, refl, some_injective (f x) y e)

module _ {X Y : Type 0} (f : X → Y) (P : Y → Type 0) (test : X → Bool) where
  -- what passes the test, mapped
  pub all-kept : (xs : List X) → All P (map f (filter test xs)) → Each xs (λ k x. test x ≡ true → P (f x))
  all-kept [] h = λ k x e. none_is_some x e
  all-kept (x ∷ xs) h = step (all-kept xs) (test x) refl h
    where
      step : (All P (map f (filter test xs)) → Each xs (λ k x. test x ≡ true → P (f x))) →
          (b : Bool) → test x ≡ b → All P (map f (cond b (x ∷ filter test xs) (filter test xs))) →
          Each (x ∷ xs) (λ k x. test x ≡ true → P (f x))
      step rest true e h = Each-cons x xs (λ k x. test x ≡ true → P (f x)) (λ _. All-head P (f x) (map f (filter test xs)) h) (rest (All-tail P (f x) (map f (filter test xs)) h))
      step rest false e h = Each-cons x xs (λ k x. test x ≡ true → P (f x)) (λ t. absurd (true≢false (sym t ∙ e))) (rest h)

  pub kept-all : (xs : List X) → Each xs (λ k x. test x ≡ true → P (f x)) → All P (map f (filter test xs))
  kept-all [] h = All-nil P
  kept-all (x ∷ xs) h = step (kept-all xs (λ k y e. h (suc k) y e)) (test x) refl
    where
      step : All P (map f (filter test xs)) → (b : Bool) → test x ≡ b → All P (map f (cond b (x ∷ filter test xs) (filter test xs)))
      step rest true e = All-cons P (f x) (map f (filter test xs)) (h 0 x refl e) rest
      step rest false e = rest

pub get-map : {X Y : Type 0} (f : X → Y) (xs : List X) (k : ℕ) (x : X) → slice_get xs k ≡ Some x → slice_get (map f xs) k ≡ Some (f x)
get-map f [] k x e = none_is_some x e
get-map f (a ∷ xs) zero x e = ap (λ y. Some (f y)) (some_injective a x e)
get-map f (a ∷ xs) (suc k) x e = get-map f xs k x e

-- a test of two parts
pub both_true : (a b : Bool) → a ≡ true → b ≡ true → (a && b) ≡ true
both_true true b p q = q
both_true false b p q = false_is_true p

pub first_true : (a b : Bool) → (a && b) ≡ true → a ≡ true
first_true true b e = refl
first_true false b e = false_is_true e

pub second_true : (a b : Bool) → (a && b) ≡ true → b ≡ true
second_true true b e = e
second_true false b e = false_is_true e
