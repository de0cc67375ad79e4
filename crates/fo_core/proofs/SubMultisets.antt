-- Lists in which each number stands at most as often as in another.
use Rattle.std.proofs.Common.{◌≡◌, ℕ, ◌+◌, ◌≤◌, ◌==◌, Bool, true, false, cond, List, [], ◌∷◌, length, map, refl, ap, ◌∙◌, arith}
use Rattle.std.specs.List.{filter}
use Rattle.std.proofs.lemmas.Bool.{eqb-true, eq-eqb}
use Rattle.std.proofs.lemmas.List.Sums.{sum_by-cons}
use Rattle.fo_core.specs.Literals.{occurrences, IsSubMultiset}

pub occurrences-cons : (n m : ℕ) (ms : List ℕ) →
    occurrences n (m ∷ ms) ≡ cond (m == n) 1 0 + occurrences n ms
occurrences-cons n m ms = sum_by-cons (λ k. cond (k == n) 1 0) m ms

-- a list without one occurrence of a number
record Without (m : ℕ) (ns : List ℕ) : Type 0 where
  others : List ℕ
  fewer : length ns ≡ length others + 1
  counts : (k : ℕ) → occurrences k ns ≡ cond (m == k) 1 0 + occurrences k others

without : (m : ℕ) (ns : List ℕ) → 1 ≤ occurrences m ns → Without m ns
without m [] h = absurd (omega arith)
without m (n ∷ ns) h = by_test (n == m) refl (without m ns)
  where
    by_test : (b : Bool) → (n == m) ≡ b → (1 ≤ occurrences m ns → Without m ns) → Without m (n ∷ ns)
    by_test true e from = record {
      others = ns;
      fewer = omega arith;
      counts = λ k. occurrences-cons k n ns ∙ ap (λ j. cond (j == k) 1 0 + occurrences k ns) (eqb-true n m e);
    }
    by_test false e from =
        let here = occurrences-cons m n ns ∙ ap (λ c. cond c 1 0 + occurrences m ns) e in
        let r = from (omega arith) in
        record {
          others = n ∷ r.others;
          fewer = omega (arith, r.fewer);
          counts = λ k. omega (arith, occurrences-cons k n ns, occurrences-cons k n r.others, r.counts k);
        }

-- such a list is no longer
pub length-le : (ms ns : List ℕ) → IsSubMultiset ms ns → length ms ≤ length ns
length-le [] ns h = omega arith
length-le (m ∷ ms) ns h =
    let here = occurrences-cons m m ms ∙ ap (λ b. cond b 1 0 + occurrences m ms) (eq-eqb m m refl) in
    let r = without m ns (omega (arith, h m)) in
    omega (arith, r.fewer, length-le ms r.others (λ k. omega (arith, h k, r.counts k, occurrences-cons k m ms)))

pub sub-keep : (n : ℕ) (ms ns : List ℕ) → IsSubMultiset ms ns → IsSubMultiset (n ∷ ms) (n ∷ ns)
sub-keep n ms ns h = λ k. omega (arith, h k, occurrences-cons k n ms, occurrences-cons k n ns)

pub sub-leave : (n : ℕ) (ms ns : List ℕ) → IsSubMultiset ms ns → IsSubMultiset ms (n ∷ ns)
sub-leave n ms ns h = λ k. omega (arith, h k, occurrences-cons k n ns)

-- the numbers of some elements of a list, out of those of all
pub sub-filter : {X : Type 0} (f : X → ℕ) (p : X → Bool) (xs : List X) →
    IsSubMultiset (map f (filter p xs)) (map f xs)
sub-filter f p [] = λ k. omega arith
sub-filter {X} f p (x ∷ xs) = by_test (p x) (sub-filter f p xs)
  where
    by_test : (b : Bool) → IsSubMultiset (map f (filter p xs)) (map f xs) →
        IsSubMultiset (map f (cond b (x ∷ filter p xs) (filter p xs))) (f x ∷ map f xs)
    by_test true h = sub-keep (f x) (map f (filter p xs)) (map f xs) h
    by_test false h = sub-leave (f x) (map f (filter p xs)) (map f xs) h
