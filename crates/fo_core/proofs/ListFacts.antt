-- Facts about all, or some, of the elements of lists that are made of other lists, and along equations
-- of facts.
use Rattle.std.proofs.Common.{◌≡◌, ℕ, zero, suc, ◌+◌, ◌<◌, ◌↔◌, ◌⊎◌, inl, inr, List, [], ◌∷◌, ◌++◌, length, get_or, map, refl, sym, subst, ◌∙◌, arith}
use Rattle.std.specs.List.{All, Any, AllZip, flat_map, range_with_len}
use Rattle.std.proofs.lemmas.List.Elements.{All-nil, All-cons, All-head, All-tail, All-append}
use Rattle.std.proofs.lemmas.List.FromFn.{length-range_with_len, get_or-range_with_len}

-- a fact along an equation of facts, and against it
pub cast : {P Q : Type 0} → P ≡ Q → P → Q
cast e p = subst (λ (A : Type 0). A) e p

pub back : {P Q : Type 0} → P ≡ Q → Q → P
back e q = subst (λ (A : Type 0). A) (sym e) q

module _ {X : Type 0} (P : X → Type 0) where
  pub any_cases : (x : X) (xs : List X) → Any P (x ∷ xs) → P x ⊎ Any P xs
  any_cases x xs h = at h.0 h.1 h.2 h.3 h.4
    where
      at : (k : ℕ) (y : X) → k < length (x ∷ xs) → get_or (x ∷ xs) k y ≡ y → P y → P x ⊎ Any P xs
      at zero y lt e p = inl (subst P (sym e) p)
      at (suc k) y lt e p = inr (k, y, omega arith, e, p)

  pub any_first : (x : X) (xs : List X) → P x → Any P (x ∷ xs)
  any_first x xs p = (0, x, omega arith, refl, p)

  pub any_later : (x : X) (xs : List X) → Any P xs → Any P (x ∷ xs)
  any_later x xs a = (suc a.0, a.1, omega (arith, a.2), a.3, a.4)

  pub any_none : ¬ Any P []
  any_none h = absurd (omega (arith, h.2))

  pub any_one : (x : X) → Any P (x ∷ []) → P x
  any_one x h = by_case (any_cases x [] h)
    where
      by_case : P x ⊎ Any P [] → P x
      by_case (inl p) = p
      by_case (inr a) = absurd (any_none a)

  pub any_append : (xs ys : List X) → Any P (xs ++ ys) → Any P xs ⊎ Any P ys
  any_append [] ys h = inr h
  any_append (x ∷ xs) ys h = by_case (λ a. any_append xs ys a) (any_cases x (xs ++ ys) h)
    where
      later : Any P xs ⊎ Any P ys → Any P (x ∷ xs) ⊎ Any P ys
      later (inl a) = inl (any_later x xs a)
      later (inr a) = inr a

      by_case : (Any P (xs ++ ys) → Any P xs ⊎ Any P ys) → P x ⊎ Any P (xs ++ ys) → Any P (x ∷ xs) ⊎ Any P ys
      by_case more (inl p) = inl (any_first x xs p)
      by_case more (inr a) = later (more a)

  pub all_left : (xs ys : List X) → All P (xs ++ ys) → All P xs
  all_left [] ys h = All-nil P
  all_left (x ∷ xs) ys h = All-cons P x xs (All-head P x (xs ++ ys) h) (all_left xs ys (All-tail P x (xs ++ ys) h))

  pub all_right : (xs ys : List X) → All P (xs ++ ys) → All P ys
  all_right [] ys h = h
  all_right (x ∷ xs) ys h = all_right xs ys (All-tail P x (xs ++ ys) h)

  pub all_one : (x : X) → All P (x ∷ []) ↔ P x
  all_one x = (λ h. All-head P x [] h, λ p. All-cons P x [] p (All-nil P))

  -- where P can be told of each, it fails of some element exactly where it doesn't hold of all
  pub some_fails : ((x : X) → P x ⊎ (¬ P x)) → (xs : List X) → ¬ All P xs → Any (λ x. ¬ P x) xs
  some_fails tell [] h = absurd (h (All-nil P))
  some_fails tell (x ∷ xs) h = by_case (λ fails. some_fails tell xs fails) (tell x)
    where
      by_case : (¬ All P xs → Any (λ x. ¬ P x) xs) → P x ⊎ (¬ P x) → Any (λ x. ¬ P x) (x ∷ xs)
      by_case more (inr fails) = (0, x, omega arith, refl, fails)
      by_case more (inl p) =
          let a = more (λ all. h (All-cons P x xs p all)) in
          (suc a.0, a.1, omega (arith, a.2), a.3, a.4)

  pub not_all : (xs : List X) → Any (λ x. ¬ P x) xs → ¬ All P xs
  not_all xs a all = a.4 (subst P a.3 (all a.0 a.1 a.2))

-- the same of the images of elements
module _ {X Y : Type 0} (P : Y → Type 0) (f : X → Y) where
  pub any_map : (xs : List X) → Any P (map f xs) → Any (λ x. P (f x)) xs
  any_map [] h = absurd (any_none P h)
  any_map (x ∷ xs) h = by_case (λ a. any_map xs a) (any_cases P (f x) (map f xs) h)
    where
      by_case : (Any P (map f xs) → Any (λ x. P (f x)) xs) → P (f x) ⊎ Any P (map f xs) → Any (λ x. P (f x)) (x ∷ xs)
      by_case more (inl p) = any_first (λ x. P (f x)) x xs p
      by_case more (inr a) = any_later (λ x. P (f x)) x xs (more a)

  pub any_mapped : (xs : List X) → Any (λ x. P (f x)) xs → Any P (map f xs)
  any_mapped [] h = absurd (any_none (λ x. P (f x)) h)
  any_mapped (x ∷ xs) h = by_case (λ a. any_mapped xs a) (any_cases (λ x. P (f x)) x xs h)
    where
      by_case : (Any (λ x. P (f x)) xs → Any P (map f xs)) → P (f x) ⊎ Any (λ x. P (f x)) xs → Any P (map f (x ∷ xs))
      by_case more (inl p) = any_first P (f x) (map f xs) p
      by_case more (inr a) = any_later P (f x) (map f xs) (more a)

  pub all_map : (xs : List X) → All P (map f xs) → All (λ x. P (f x)) xs
  all_map [] h = All-nil (λ x. P (f x))
  all_map (x ∷ xs) h = All-cons (λ x. P (f x)) x xs (All-head P (f x) (map f xs) h) (all_map xs (All-tail P (f x) (map f xs) h))

  pub all_mapped : (xs : List X) → All (λ x. P (f x)) xs → All P (map f xs)
  all_mapped [] h = All-nil P
  all_mapped (x ∷ xs) h = All-cons P (f x) (map f xs) (All-head (λ x. P (f x)) x xs h) (all_mapped xs (All-tail (λ x. P (f x)) x xs h))

-- the same of lists joined end to end
pub all_flat : {X Y : Type 0} (P : Y → Type 0) (f : X → List Y) (xs : List X) → All (λ x. All P (f x)) xs → All P (flat_map f xs)
all_flat P f [] h = All-nil P
all_flat P f (x ∷ xs) h = All-append P (f x) (flat_map f xs) (All-head (λ x. All P (f x)) x xs h) (all_flat P f xs (All-tail (λ x. All P (f x)) x xs h))

pub zip_append : {X Y : Type 0} (R : X → Y → Type 0) (xs more : List X) (ys others : List Y) → AllZip R xs ys → AllZip R more others → AllZip R (xs ++ more) (ys ++ others)
zip_append R [] more [] others h rest = rest
zip_append R [] more (y ∷ ys) others h rest = absurd h
zip_append R (x ∷ xs) more [] others h rest = absurd h
zip_append R (x ∷ xs) more (y ∷ ys) others h rest = (h.0, zip_append R xs more ys others h.1 rest)

pub zip_flat : {X Y Z : Type 0} (R : X → Y → Type 0) (f : Z → List X) (g : Z → List Y) (zs : List Z) → All (λ z. AllZip R (f z) (g z)) zs → AllZip R (flat_map f zs) (flat_map g zs)
zip_flat R f g [] h = tt
zip_flat R f g (z ∷ zs) h = zip_append R (f z) (flat_map f zs) (g z) (flat_map g zs) (All-head (λ z. AllZip R (f z) (g z)) z zs h) (zip_flat R f g zs (All-tail (λ z. AllZip R (f z) (g z)) z zs h))

-- what holds of each number below n holds of each in their list, and the other way round
module _ (P : ℕ → Type 0) (n : ℕ) where
  at_range : (k d : ℕ) → k < n → get_or (range_with_len 0 n) k d ≡ k
  at_range k d lt = get_or-range_with_len 0 n k d lt ∙ (let e : 0 + k ≡ k = omega arith in e)

  pub all_range : ((k : ℕ) → k < n → P k) → All P (range_with_len 0 n)
  all_range h k d lt =
      let below : k < n = omega (arith, length-range_with_len 0 n) in
      subst P (sym (at_range k d below)) (h k below)

  pub range_all : All P (range_with_len 0 n) → (k : ℕ) → k < n → P k
  range_all h k lt = subst P (at_range k 0 lt) (h k 0 (omega (arith, length-range_with_len 0 n)))

  pub any_range : Any P (range_with_len 0 n) → (k : ℕ) × (k < n) × P k
  any_range a =
      let below : a.0 < n = omega (arith, a.2, length-range_with_len 0 n) in
      (a.0, below, subst P (sym a.3 ∙ at_range a.0 a.1 below) a.4)

  pub range_any : (k : ℕ) → k < n → P k → Any P (range_with_len 0 n)
  range_any k lt p = (k, k, omega (arith, length-range_with_len 0 n), at_range k k lt, p)

-- a fact of each element that is weaker
pub any_as : {X : Type 0} (P Q : X → Type 0) (xs : List X) → ((x : X) → P x → Q x) → Any P xs → Any Q xs
any_as P Q xs h a = (a.0, a.1, a.2, a.3, h a.1 a.4)

pub all_as : {X : Type 0} (P Q : X → Type 0) (xs : List X) → ((x : X) → P x → Q x) → All P xs → All Q xs
all_as P Q xs h all k d lt = h (get_or xs k d) (all k d lt)
