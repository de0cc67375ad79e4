-- Sums over lists, and products over sorts.
use Rattle.std.proofs.Common.{◌≡◌, ℕ, zero, suc, ◌+◌, ◌*◌, ◌<◌, ◌≤◌, List, [], ◌∷◌, ◌++◌, length, get_or, map, take, refl, sym, ap, ◌∙◌, arith}
use Rattle.std.specs.List.{All, flat_map}
use Rattle.std.specs.Prelude.{slice_index}
use Rattle.std.proofs.lemmas.List.{take_more, take_all, length-append}
use Rattle.std.proofs.lemmas.List.Elements.{All-head, All-tail}
use Rattle.fo_core.specs.Tables.{tuples}
use Rattle.fo_core.specs.QueryWeight.{cut}
use Rattle.fo_terms.proofs.Cuts.{cut-add}
use Rattle.fo_core.specs.Weights.{added, power}

module _ {X : Type 0} (f : X → ℕ) where
  pub added-append : (xs ys : List X) → added f (xs ++ ys) ≡ added f xs + added f ys
  added-append [] ys = omega arith
  added-append (x ∷ xs) ys = omega (arith, added-append xs ys)

  pub added-push : (xs : List X) (x : X) → added f (xs ++ x ∷ []) ≡ added f xs + f x
  added-push xs x = added-append xs (x ∷ []) ∙ (let e : added f xs + (f x + 0) ≡ added f xs + f x = omega arith in e)

  -- one more element of a list
  pub added-more : (xs : List X) (i : ℕ) (d : X) → i < length xs → added f (take (i + 1) xs) ≡ added f (take i xs) + f (get_or xs i d)
  added-more xs i d lt = ap (added f) (take_more xs i d lt) ∙ added-push (take i xs) (get_or xs i d)

  -- a part of a list adds no more than all
  pub added-take : (i : ℕ) (xs : List X) → added f (take i xs) ≤ added f xs
  added-take zero xs = omega arith
  added-take (suc i) [] = omega arith
  added-take (suc i) (x ∷ xs) = omega (arith, added-take i xs)

  -- nor does one element
  pub added-at : (xs : List X) (i : ℕ) (d : X) → i < length xs → f (get_or xs i d) ≤ added f xs
  added-at [] i d lt = absurd (omega arith)
  added-at (x ∷ xs) zero d lt = omega arith
  added-at (x ∷ xs) (suc i) d lt = omega (arith, added-at xs i d (omega arith))

  pub added-same : (g : X → ℕ) (xs : List X) → All (λ x. f x ≡ g x) xs → added f xs ≡ added g xs
  added-same g [] h = refl
  added-same g (x ∷ xs) h = omega (arith, All-head (λ x. f x ≡ g x) x xs h, added-same g xs (All-tail (λ x. f x ≡ g x) x xs h))

pub added-map : {X Y : Type 0} (f : Y → ℕ) (g : X → Y) (xs : List X) → added f (map g xs) ≡ added (λ x. f (g x)) xs
added-map f g [] = refl
added-map f g (x ∷ xs) = ap (λ n. f (g x) + n) (added-map f g xs)

-- the same number for each
pub added-const : {X : Type 0} (n : ℕ) (xs : List X) → added (λ _. n) xs ≡ length xs * n
added-const n [] = omega arith
added-const n (x ∷ xs) = ap (λ m. n + m) (added-const n xs) ∙ once_more (length xs) n
  where
    once_more : (k n : ℕ) → n + k * n ≡ suc k * n
    once_more k n = omega arith

pub length-flat_map : {X Y : Type 0} (f : X → List Y) (xs : List X) → length (flat_map f xs) ≡ added (λ x. length (f x)) xs
length-flat_map f [] = refl
length-flat_map f (x ∷ xs) = length-append (f x) (flat_map f xs) ∙ ap (λ n. length (f x) + n) (length-flat_map f xs)

tuples-push : (ns : List ℕ) (n : ℕ) → tuples (ns ++ n ∷ []) ≡ tuples ns * n
tuples-push [] n = (let e : n * 1 ≡ 1 * n = omega arith in e)
tuples-push (m ∷ ns) n = ap (λ k. m * k) (tuples-push ns n) ∙ turned m (tuples ns) n
  where
    turned : (a b c : ℕ) → a * (b * c) ≡ a * b * c
    turned a b c = omega arith

map_push : (f : ℕ → ℕ) (xs : List ℕ) (x : ℕ) → map f (xs ++ x ∷ []) ≡ map f xs ++ f x ∷ []
map_push f [] x = refl
map_push f (y ∷ xs) x = ap (λ ys. f y ∷ ys) (map_push f xs x)

pub power-push : (U us : List ℕ) (s : ℕ) → power U (us ++ s ∷ []) ≡ power U us * slice_index U s
power-push U us s = ap tuples (map_push (slice_index U) us s) ∙ tuples-push (map (slice_index U) us) (slice_index U s)

pub power-more : (U us : List ℕ) (i : ℕ) → i < length us → power U (take (i + 1) us) ≡ power U (take i us) * slice_index U (get_or us i 0)
power-more U us i lt = ap (power U) (take_more us i 0 lt) ∙ power-push U (take i us) (get_or us i 0)

-- the same sorts have the same numbers of tuples
pub power-same : (U V us : List ℕ) → All (λ s. slice_index U s ≡ slice_index V s) us → power U us ≡ power V us
power-same U V [] h = refl
power-same U V (s ∷ us) h =
    ap (λ n. n * power U us) (All-head (λ s. slice_index U s ≡ slice_index V s) s us h)
    ∙ ap (λ n. slice_index V s * n) (power-same U V us (All-tail (λ s. slice_index U s ≡ slice_index V s) s us h))

-- a sum that is cut at each step
pub sum-more : {X : Type 0} (f : X → ℕ) (xs : List X) (i : ℕ) (d : X) (s t : ℕ) → i < length xs → s ≡ cut (added f (take i xs)) → t ≡ cut (f (get_or xs i d)) → cut (s + t) ≡ cut (added f (take (i + 1) xs))
sum-more f xs i d s t lt so_far e =
    ap (λ n. cut (n + t)) so_far
    ∙ ap (λ n. cut (cut (added f (take i xs)) + n)) e
    ∙ cut-add (added f (take i xs)) (f (get_or xs i d))
    ∙ ap cut (sym (added-more f xs i d lt))

pub sum-all : {X : Type 0} (f : X → ℕ) (xs : List X) (i s : ℕ) → length xs ≤ i → s ≡ cut (added f (take i xs)) → s ≡ cut (added f xs)
sum-all f xs i s le so_far = so_far ∙ ap (λ ys. cut (added f ys)) (take_all i xs le)
