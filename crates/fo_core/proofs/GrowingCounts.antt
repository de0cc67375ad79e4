-- More terms of each sort give more tuples, and more Skolem constants give more terms of each sort.
use Rattle.std.proofs.Common.{◌≡◌, ℕ, zero, suc, ◌+◌, ◌≤◌, ◌==◌, Bool, true, false, cond, List, [], ◌∷◌, ◌++◌, length, map, refl, sym, ap, ◌∙◌, arith}
use Rattle.std.specs.List.{AllZip, filter, range_with_len}
use Rattle.std.specs.Prelude.{slice_index}
use Rattle.std.proofs.lemmas.Bool.{ne_eqb}
use Rattle.std.proofs.lemmas.List.{length-append}
use Rattle.std.proofs.lemmas.List.Elements.{filter-append}
use Rattle.std.proofs.lemmas.Nat.{mul-le}
use Rattle.fo_core.specs.declared.signature.Sig.{Sig}
use Rattle.fo_core.specs.declared.signature.Symbol.{Symbol}
use Rattle.fo_core.specs.Literals.{occurrences, IsSubMultiset}
use Rattle.fo_core.specs.Skolems.{skolem, extended}
use Rattle.fo_core.specs.TermCounts.{leads_to, copies_of, applications, functions_to, count_over, counts_within, term_counts}
use Rattle.fo_core.specs.Weights.{added, power}
use Rattle.fo_core.proofs.SubMultisets.{occurrences-cons}

-- lists of one length, each number of the first at most the second's there
abbrev pub AtMost : List ℕ → List ℕ → Type 0
AtMost U V = AllZip (λ m n. m ≤ n) U V

pub added-append : {X : Type 0} (f : X → ℕ) (xs ys : List X) →
    added f (xs ++ ys) ≡ added f xs + added f ys
added-append f [] ys = omega arith
added-append f (x ∷ xs) ys = omega (arith, added-append f xs ys)

pub added-le : {X : Type 0} (f g : X → ℕ) → ((x : X) → f x ≤ g x) → (xs : List X) →
    added f xs ≤ added g xs
added-le f g le [] = omega arith
added-le f g le (x ∷ xs) = omega (arith, le x, added-le f g le xs)

pub index-le : (U V : List ℕ) → AtMost U V → (k : ℕ) → slice_index U k ≤ slice_index V k
index-le [] [] h k = omega arith
index-le [] (v ∷ V) h k = absurd h
index-le (u ∷ U) [] h k = absurd h
index-le (u ∷ U) (v ∷ V) h zero = h.0
index-le (u ∷ U) (v ∷ V) h (suc k) = index-le U V h.1 k

pub power-le : (U V : List ℕ) → AtMost U V → (us : List ℕ) → power U us ≤ power V us
power-le U V h [] = omega arith
power-le U V h (s ∷ us) = mul-le (slice_index U s) (power U us) (slice_index V s) (power V us) (index-le U V h s) (power-le U V h us)

map-le : (f g : ℕ → ℕ) → ((t : ℕ) → f t ≤ g t) → (ts : List ℕ) → AtMost (map f ts) (map g ts)
map-le f g le [] = tt
map-le f g le (t ∷ ts) = (le t, map-le f g le ts)

-- the functions to a sort in two lists, how many and how many terms they give
module _ (t : ℕ) where
  constants : List ℕ → List Symbol
  constants ss = filter (leads_to t) (map (skolem []) ss)

  -- what counts one for each function with values of this sort
  module _ (f : List Symbol → ℕ) (none : f [] ≡ 0) (one : (s : ℕ) (xs : List Symbol) → f (skolem [] s ∷ xs) ≡ 1 + f xs) where
    constants-each : (ss : List ℕ) → f (constants ss) ≡ occurrences t ss
    unfolding constants
    constants-each [] = none
    constants-each (s ∷ ss) = by_test (s == t) (constants-each ss) ∙ sym (occurrences-cons t s ss)
      where
        by_test : (b : Bool) → f (filter (leads_to t) (map (skolem []) ss)) ≡ occurrences t ss →
            f (cond b (skolem [] s ∷ filter (leads_to t) (map (skolem []) ss)) (filter (leads_to t) (map (skolem []) ss)))
            ≡ cond b 1 0 + occurrences t ss
        by_test true e = one s (filter (leads_to t) (map (skolem []) ss)) ∙ ap (λ n. 1 + n) e
        by_test false e = e ∙ (let z : occurrences t ss ≡ 0 + occurrences t ss = omega arith in z)

  functions-append : (xs ys : List Symbol) →
      length (filter (leads_to t) (xs ++ ys)) ≡ length (filter (leads_to t) xs) + length (filter (leads_to t) ys)
  functions-append xs ys =
      ap length (filter-append (leads_to t) xs ys) ∙ length-append (filter (leads_to t) xs) (filter (leads_to t) ys)

  -- the Skolem constants of a sort
  constants-count : (ss : List ℕ) → length (filter (leads_to t) (map (skolem []) ss)) ≡ occurrences t ss
  unfolding constants
  constants-count = constants-each length refl (λ s xs. omega arith)

  module _ (copies : ℕ) (U : List ℕ) where
    applied : List Symbol → ℕ
    applied xs = added (applications copies U) (filter (leads_to t) xs)

    applied-append : (xs ys : List Symbol) → applied (xs ++ ys) ≡ applied xs + applied ys
    unfolding applied
    applied-append xs ys =
        ap (added (applications copies U)) (filter-append (leads_to t) xs ys)
        ∙ added-append (applications copies U) (filter (leads_to t) xs) (filter (leads_to t) ys)

    -- a constant is one term
    constants-applied : (ss : List ℕ) → applied (map (skolem []) ss) ≡ occurrences t ss
    unfolding applied constants
    constants-applied = constants-each (added (applications copies U)) refl (λ s xs. refl)

-- the number of terms of a sort with n functions, or a spare constant
spare : ℕ → ℕ → ℕ
spare n terms = cond (n == 0) 1 terms

spare-none : (terms : ℕ) → spare 0 terms ≡ 1
unfolding spare
spare-none terms = refl

spare-some : (n terms : ℕ) → spare (suc n) terms ≡ terms
unfolding spare
spare-some n terms = ap (λ b. cond b 1 terms) (ne_eqb (suc n) 0 (λ e. omega arith))

-- more functions that give more terms: a spare constant is replaced at the most
spare-le : (p q a b : ℕ) → p ≤ q → a ≤ b → (p ≡ 0 → 1 ≤ q → 1 ≤ b) → spare p a ≤ spare q b
spare-le zero zero a b le less new = omega (arith, spare-none a, spare-none b)
spare-le zero (suc q) a b le less new = rw (spare-none a, spare-some q b) (new refl (omega arith))
spare-le (suc p) zero a b le less new = absurd (omega arith)
spare-le (suc p) (suc q) a b le less new = rw (spare-some p a, spare-some q b) less

-- signatures with Skolem functions that differ in constants alone
module _ (sig : Sig) (copies : ℕ) (front back : List Symbol) where
  abbrev pub with_constants : List ℕ → Sig
  with_constants ss = extended sig (front ++ (map (skolem []) ss ++ back))

  module _ (t : ℕ) where
    number : List Symbol → ℕ
    number xs = length (filter (leads_to t) xs)

    rest : ℕ
    rest = number sig.symbols + (number front + number back)

    number-whole : (ss : List ℕ) →
        length (functions_to (with_constants ss) t) ≡ rest + occurrences t ss
    unfolding rest number
    number-whole ss = omega (
      arith,
      functions-append t sig.symbols (front ++ (map (skolem []) ss ++ back)),
      functions-append t front (map (skolem []) ss ++ back),
      functions-append t (map (skolem []) ss) back,
      constants-count t ss,
    )

    module _ (U : List ℕ) where
      terms : ℕ
      terms = applied t copies U sig.symbols + (applied t copies U front + applied t copies U back)

      terms-whole : (ss : List ℕ) →
          added (applications copies U) (functions_to (with_constants ss) t) ≡ terms + occurrences t ss
      unfolding terms applied
      terms-whole ss = omega (
        arith,
        applied-append t copies U sig.symbols (front ++ (map (skolem []) ss ++ back)),
        applied-append t copies U front (map (skolem []) ss ++ back),
        applied-append t copies U (map (skolem []) ss) back,
        constants-applied t copies U ss,
      )

      count-whole : (ss : List ℕ) →
          count_over (with_constants ss) copies U t ≡ spare (rest + occurrences t ss) (terms + occurrences t ss)
      unfolding spare
      count-whole ss =
          ap (λ n. cond (n == 0) 1 (added (applications copies U) (functions_to (with_constants ss) t)))
          (number-whole ss)
          ∙ ap (λ n. cond (rest + occurrences t ss == 0) 1 n) (terms-whole ss)

    applications-le : (U V : List ℕ) → AtMost U V → (s : Symbol) →
        applications copies U s ≤ applications copies V s
    applications-le U V h s = mul-le (copies_of copies s) (power U s.args) (copies_of copies s) (power V s.args) (omega arith) (power-le U V h s.args)

    terms-le : (U V : List ℕ) → AtMost U V → terms U ≤ terms V
    unfolding terms applied
    terms-le U V h = omega (
      arith,
      added-le (applications copies U) (applications copies V) (applications-le U V h) (filter (leads_to t) sig.symbols),
      added-le (applications copies U) (applications copies V) (applications-le U V h) (filter (leads_to t) front),
      added-le (applications copies U) (applications copies V) (applications-le U V h) (filter (leads_to t) back),
    )

  module _ (ts ss : List ℕ) (fewer : IsSubMultiset ts ss) where
    count-le : (U V : List ℕ) → AtMost U V → (t : ℕ) →
        count_over (with_constants ts) copies U t ≤ count_over (with_constants ss) copies V t
    count-le U V h t =
        let more = fewer t in
        let les = terms-le t U V h in
        let le : rest t + occurrences t ts ≤ rest t + occurrences t ss = omega arith in
        let less : terms t U + occurrences t ts ≤ terms t V + occurrences t ss = omega arith in
        let grown = spare-le (rest t + occurrences t ts) (rest t + occurrences t ss)
        (terms t U + occurrences t ts) (terms t V + occurrences t ss) le less (λ none some. omega arith) in
        rw (count-whole t U ts, count-whole t V ss) grown

    counts-le : (depth : ℕ) →
        AtMost (counts_within (with_constants ts) copies depth) (counts_within (with_constants ss) copies depth)
    counts-le zero = tt
    counts-le (suc depth) =
        let U = counts_within (with_constants ts) copies depth in
        let V = counts_within (with_constants ss) copies depth in
        map-le _ _ (count-le U V (counts-le depth)) (range_with_len 0 sig.sorts)

    -- fewer constants give no more terms of any sort
    pub term_counts-le : AtMost (term_counts (with_constants ts) copies) (term_counts (with_constants ss) copies)
    term_counts-le = counts-le sig.sorts
