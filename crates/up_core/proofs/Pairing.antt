-- Lists that correspond, element by element.
use Rattle.std.proofs.Common.{◌≡◌, ℕ, zero, suc, ◌<◌, Bool, true, false, cond, ◌||◌, List, [], ◌∷◌, ◌++◌, length, filter, Some, slice_get, set, refl, sym, ap, subst, ◌∙◌, arith, true≢false, Any}
use Rattle.std.specs.List.{list_any, count_by, find}
use Rattle.std.proofs.lemmas.List.Sums.{length-filter}
use Rattle.up_machine.specs.Replay.{change_at}
use Rattle.up_machine.proofs.Lists.{some_injective, none_is_some, false_is_true}
use Rattle.up_core.specs.Mirror.{Pairs}

module _ {X Y : Type 0} where
  pub pairs-length : (xs : List X) (ys : List Y) (R : ℕ → X → Y → Type 0) → Pairs xs ys R → length xs ≡ length ys
  pairs-length [] [] R h = refl
  pairs-length [] (y ∷ ys) R h = absurd h
  pairs-length (x ∷ xs) [] R h = absurd h
  pairs-length (x ∷ xs) (y ∷ ys) R h = ap suc (pairs-length xs ys (λ k. R (suc k)) h.1)

  -- the partner of an element of the first list
  pub pairs-right : (xs : List X) (ys : List Y) (R : ℕ → X → Y → Type 0) → Pairs xs ys R → (k : ℕ) (x : X) → slice_get xs k ≡ Some x →
      (y : Y) × (slice_get ys k ≡ Some y) × R k x y
  pairs-right [] ys R h k x e = none_is_some x e
  pairs-right (a ∷ xs) [] R h k x e = absurd h
  pairs-right (a ∷ xs) (b ∷ ys) R h zero x e = (b, refl, subst (λ z. R 0 z b) (some_injective a x e) h.0)
  pairs-right (a ∷ xs) (b ∷ ys) R h (suc k) x e = pairs-right xs ys (λ j. R (suc j)) h.1 k x e

  -- the partner of an element of the second list
  pub pairs-left : (xs : List X) (ys : List Y) (R : ℕ → X → Y → Type 0) → Pairs xs ys R → (k : ℕ) (y : Y) → slice_get ys k ≡ Some y →
      (x : X) × (slice_get xs k ≡ Some x) × R k x y
  pairs-left xs [] R h k y e = none_is_some y e
  pairs-left [] (b ∷ ys) R h k y e = absurd h
  pairs-left (a ∷ xs) (b ∷ ys) R h zero y e = (a, refl, subst (R 0 a) (some_injective b y e) h.0)
  pairs-left (a ∷ xs) (b ∷ ys) R h (suc k) y e = pairs-left xs ys (λ j. R (suc j)) h.1 k y e

  pub pairs-map : (xs : List X) (ys : List Y) (R S : ℕ → X → Y → Type 0) → ((k : ℕ) (x : X) (y : Y) → R k x y → S k x y) → Pairs xs ys R → Pairs xs ys S
  pairs-map [] [] R S f h = h
  pairs-map [] (y ∷ ys) R S f h = absurd h
  pairs-map (x ∷ xs) [] R S f h = absurd h
  pairs-map (x ∷ xs) (y ∷ ys) R S f h = (f 0 x y h.0, pairs-map xs ys (λ k. R (suc k)) (λ k. S (suc k)) (λ k. f (suc k)) h.1)

  pub pairs-push : (xs : List X) (ys : List Y) (R : ℕ → X → Y → Type 0) (x : X) (y : Y) → Pairs xs ys R → R (length xs) x y → Pairs (xs ++ x ∷ []) (ys ++ y ∷ []) R
  pairs-push [] [] R x y h r = (r, h)
  pairs-push [] (b ∷ ys) R x y h r = absurd h
  pairs-push (a ∷ xs) [] R x y h r = absurd h
  pairs-push (a ∷ xs) (b ∷ ys) R x y h r = (h.0, pairs-push xs ys (λ k. R (suc k)) x y h.1 r)

  -- one element changes with its partner
  pub pairs-change : (xs : List X) (ys : List Y) (R S : ℕ → X → Y → Type 0) (k : ℕ) (f : X → X) (z : Y) → Pairs xs ys R →
      ((j : ℕ) (x : X) (y : Y) → ¬ (j ≡ k) → R j x y → S j x y) →
      ((x : X) (y : Y) → slice_get xs k ≡ Some x → slice_get ys k ≡ Some y → R k x y → S k (f x) z) →
      Pairs (change_at k f xs) (set ys k z) S
  pairs-change [] [] R S k f z h others here = h
  pairs-change [] (y ∷ ys) R S k f z h others here = absurd h
  pairs-change (x ∷ xs) [] R S k f z h others here = absurd h
  pairs-change (x ∷ xs) (y ∷ ys) R S zero f z h others here = (
    here x y refl refl h.0,
    pairs-map xs ys (λ k. R (suc k)) (λ k. S (suc k)) (λ j a b r. others (suc j) a b (λ e. absurd (omega (arith, e))) r) h.1,
  )
  pairs-change (x ∷ xs) (y ∷ ys) R S (suc k) f z h others here = (
    others 0 x y (λ e. absurd (omega (arith, e))) h.0,
    pairs-change xs ys (λ j. R (suc j)) (λ j. S (suc j)) k f z h.1 (λ j a b n r. others (suc j) a b (λ e. n (omega (arith, e))) r) here,
  )

  -- tests that agree leave partners
  pub pairs-filter : (xs : List X) (ys : List Y) (R : X → Y → Type 0) (p : X → Bool) (q : Y → Bool) → ((x : X) (y : Y) → R x y → p x ≡ q y) →
      Pairs xs ys (λ _. R) → Pairs (filter p xs) (filter q ys) (λ _. R)
  pairs-filter [] [] R p q agree h = h
  pairs-filter [] (y ∷ ys) R p q agree h = absurd h
  pairs-filter (x ∷ xs) [] R p q agree h = absurd h
  pairs-filter (x ∷ xs) (y ∷ ys) R p q agree h = step (p x) (q y) (agree x y h.0) (pairs-filter xs ys R p q agree h.1)
    where
      step : (a b : Bool) → a ≡ b → Pairs (filter p xs) (filter q ys) (λ _. R) → Pairs (cond a (x ∷ filter p xs) (filter p xs)) (cond b (y ∷ filter q ys) (filter q ys)) (λ _. R)
      step true true e rest = (h.0, rest)
      step false false e rest = rest
      step true false e rest = absurd (true≢false e)
      step false true e rest = absurd (true≢false (sym e))

  pub pairs-count : (xs : List X) (ys : List Y) (R : X → Y → Type 0) (p : X → Bool) (q : Y → Bool) → ((x : X) (y : Y) → R x y → p x ≡ q y) →
      Pairs xs ys (λ _. R) → length (filter p xs) ≡ count_by q ys
  pairs-count xs ys R p q agree h = pairs-length (filter p xs) (filter q ys) (λ _. R) (pairs-filter xs ys R p q agree h) ∙ length-filter q ys

-- an element that passes stands in the list
pub record PassesAt {Y : Type 0} (q : Y → Bool) (ys : List Y) : Type 0 where
  pub place : ℕ
  pub found : Y
  pub there : slice_get ys place ≡ Some found
  pub passes : q found ≡ true

any_step : {Y : Type 0} (q : Y → Bool) (y : Y) (ys : List Y) → (list_any q ys ≡ true → PassesAt q ys) → (b : Bool) → q y ≡ b → (b || list_any q ys) ≡ true → PassesAt q (y ∷ ys)
any_step q y ys rest true is e = record { place = 0; found = y; there = refl; passes = is }
any_step q y ys rest false is e = let r = rest e in record { place = suc r.place; found = r.found; there = r.there; passes = r.passes }

pub any-place : {Y : Type 0} (q : Y → Bool) (ys : List Y) → list_any q ys ≡ true → PassesAt q ys
any-place q [] e = false_is_true e
any-place q (y ∷ ys) e = any_step q y ys (any-place q ys) (q y) refl e

-- where none passes, none does at any place
none_step : {Y : Type 0} (q : Y → Bool) (a y : Y) (ys : List Y) → (list_any q ys ≡ false → (k : ℕ) → slice_get ys k ≡ Some y → ¬ (q y ≡ true)) →
    (b : Bool) → q a ≡ b → (b || list_any q ys) ≡ false → (k : ℕ) → slice_get (a ∷ ys) k ≡ Some y → ¬ (q y ≡ true)
none_step q a y ys rest true is e k there = absurd (true≢false e)
none_step q a y ys rest false is e zero there = λ t. true≢false (sym t ∙ ap q (sym (some_injective a y there)) ∙ is)
none_step q a y ys rest false is e (suc k) there = rest e k there

pub none-place : {Y : Type 0} (q : Y → Bool) (ys : List Y) → list_any q ys ≡ false → (k : ℕ) (y : Y) → slice_get ys k ≡ Some y → ¬ (q y ≡ true)
none-place q [] e k y there = none_is_some y there
none-place q (a ∷ ys) e k y there = none_step q a y ys (λ f j. none-place q ys f j y) (q a) refl e k there

-- an element of a list by its place
pub place-any : {X : Type 0} (P : X → Type 0) (xs : List X) → Any P xs → (k : ℕ) × (x : X) × (slice_get xs k ≡ Some x) × P x
place-any P [] h = absurd (omega (arith, h.2))
place-any P (a ∷ xs) (zero, x, lt, is, p) = (0, a, refl, subst P (sym is) p)
place-any P (a ∷ xs) (suc k, x, lt, is, p) = let r = place-any P xs (k, x, omega (arith, lt), is, p) in (suc r.0, r.1, r.2, r.3)

-- one element changes on both sides
pub pairs-both : {X Y : Type 0} (xs : List X) (ys : List Y) (R S : ℕ → X → Y → Type 0) (k : ℕ) (f : X → X) (g : Y → Y) → Pairs xs ys R →
    ((j : ℕ) (x : X) (y : Y) → R j x y → S j x y) → ((x : X) (y : Y) → R k x y → S k (f x) (g y)) → Pairs (change_at k f xs) (change_at k g ys) S
pairs-both [] [] R S k f g h others here = h
pairs-both [] (y ∷ ys) R S k f g h others here = absurd h
pairs-both (x ∷ xs) [] R S k f g h others here = absurd h
pairs-both (x ∷ xs) (y ∷ ys) R S zero f g h others here = (here x y h.0, pairs-map xs ys (λ j. R (suc j)) (λ j. S (suc j)) (λ j. others (suc j)) h.1)
pairs-both (x ∷ xs) (y ∷ ys) R S (suc k) f g h others here = (others 0 x y h.0, pairs-both xs ys (λ j. R (suc j)) (λ j. S (suc j)) k f g h.1 (λ j. others (suc j)) here)

-- what the first element that passes has for a partner
find_step : {X Y : Type 0} (R : X → Y → Type 0) (p : X → Bool) (q : Y → Bool) (a : X) (b : Y) (xs : List X) (ys : List Y) (x : X) → R a b →
    (find p xs ≡ Some x → (y : Y) × (find q ys ≡ Some y) × R x y) → (u v : Bool) → u ≡ v → cond u (Some a) (find p xs) ≡ Some x →
    (y : Y) × (cond v (Some b) (find q ys) ≡ Some y) × R x y
find_step R p q a b xs ys x r rest true true e is = (b, refl, subst (λ z. R z b) (some_injective a x is) r)
find_step R p q a b xs ys x r rest false false e is = rest is
find_step R p q a b xs ys x r rest true false e is = absurd (true≢false e)
find_step R p q a b xs ys x r rest false true e is = absurd (true≢false (sym e))

pub pairs-find : {X Y : Type 0} (xs : List X) (ys : List Y) (R : X → Y → Type 0) (p : X → Bool) (q : Y → Bool) → ((x : X) (y : Y) → R x y → p x ≡ q y) →
    Pairs xs ys (λ _. R) → (x : X) → find p xs ≡ Some x → (y : Y) × (find q ys ≡ Some y) × R x y
pairs-find [] ys R p q agree h x e = none_is_some x e
pairs-find (a ∷ xs) [] R p q agree h x e = absurd h
pairs-find (a ∷ xs) (b ∷ ys) R p q agree h x e = find_step R p q a b xs ys x h.0 (pairs-find xs ys R p q agree h.1 x) (p a) (q b) (agree a b h.0) e

-- the same, where the others are told apart
pub pairs-apart : {X Y : Type 0} (xs : List X) (ys : List Y) (R S : ℕ → X → Y → Type 0) (k : ℕ) (f : X → X) (g : Y → Y) → Pairs xs ys R →
    ((j : ℕ) (x : X) (y : Y) → ¬ (j ≡ k) → R j x y → S j x y) → ((x : X) (y : Y) → slice_get xs k ≡ Some x → R k x y → S k (f x) (g y)) →
    Pairs (change_at k f xs) (change_at k g ys) S
pairs-apart [] [] R S k f g h others here = h
pairs-apart [] (y ∷ ys) R S k f g h others here = absurd h
pairs-apart (x ∷ xs) [] R S k f g h others here = absurd h
pairs-apart (x ∷ xs) (y ∷ ys) R S zero f g h others here = (
  here x y refl h.0,
  pairs-map xs ys (λ j. R (suc j)) (λ j. S (suc j)) (λ j a b r. others (suc j) a b (λ e. absurd (omega (arith, e))) r) h.1,
)
pairs-apart (x ∷ xs) (y ∷ ys) R S (suc k) f g h others here = (
  others 0 x y (λ e. absurd (omega (arith, e))) h.0,
  pairs-apart xs ys (λ j. R (suc j)) (λ j. S (suc j)) k f g h.1 (λ j a b n r. others (suc j) a b (λ e. n (omega (arith, e))) r) here,
)

-- a list beside itself
pub pairs-same : {X : Type 0} (xs : List X) (R : ℕ → X → X → Type 0) → ((k : ℕ) (x : X) → R k x x) → Pairs xs xs R
pairs-same [] R f = tt
pairs-same (x ∷ xs) R f = (f 0 x, pairs-same xs (λ k. R (suc k)) (λ k. f (suc k)))

-- at places that are there
pub pairs-within : {X Y : Type 0} (xs : List X) (ys : List Y) (R S : ℕ → X → Y → Type 0) → ((k : ℕ) (x : X) (y : Y) → k < length ys → R k x y → S k x y) → Pairs xs ys R → Pairs xs ys S
pairs-within [] [] R S f h = h
pairs-within [] (y ∷ ys) R S f h = absurd h
pairs-within (x ∷ xs) [] R S f h = absurd h
pairs-within (x ∷ xs) (y ∷ ys) R S f h = (f 0 x y (omega arith) h.0, pairs-within xs ys (λ k. R (suc k)) (λ k. S (suc k)) (λ k a b lt r. f (suc k) a b (omega (arith, lt)) r) h.1)

-- partners of partners
pub pairs-through : {X Y Z : Type 0} (xs : List X) (ys : List Y) (zs : List Z) (R : ℕ → X → Y → Type 0) (T : ℕ → Y → Z → Type 0) (S : ℕ → X → Z → Type 0) →
    ((k : ℕ) (x : X) (y : Y) (z : Z) → slice_get xs k ≡ Some x → R k x y → T k y z → S k x z) → Pairs xs ys R → Pairs ys zs T → Pairs xs zs S
pairs-through [] [] [] R T S f h g = g
pairs-through [] [] (z ∷ zs) R T S f h g = absurd g
pairs-through [] (y ∷ ys) zs R T S f h g = absurd h
pairs-through (x ∷ xs) [] zs R T S f h g = absurd h
pairs-through (x ∷ xs) (y ∷ ys) [] R T S f h g = absurd g
pairs-through (x ∷ xs) (y ∷ ys) (z ∷ zs) R T S f h g = (
  f 0 x y z refl h.0 g.0,
  pairs-through xs ys zs (λ k. R (suc k)) (λ k. T (suc k)) (λ k. S (suc k)) (λ k a b c e r t. f (suc k) a b c e r t) h.1 g.1,
)
