-- Lists of numbers in lexicographic order.
use Rattle.std.proofs.Common.{◌≡◌, ℕ, zero, suc, ◌⊎◌, inl, inr, ◌<◌, ◌≤◌, List, [], ◌∷◌, ◌++◌, length, get_or, take, refl, ap, ◌∙◌, arith}
use Rattle.std.proofs.lemmas.Bool.{cases_lt}
use Rattle.fo_core.specs.SortGraph.{ComesFirst}

-- the first number is less, or is the same, and then the rest decides
pub first-by : (xs ys : List ℕ) → length xs ≡ length ys → ((k : ℕ) → k < length xs → take k xs ≡ take k ys → get_or xs k 0 ≤ get_or ys k 0) → ComesFirst xs ys
first-by [] ys e h = tt
first-by (x ∷ xs) [] e h = absurd (omega arith)
first-by (x ∷ xs) (y ∷ ys) e h = by_case (cases_lt x y) (λ same. first-by xs ys (omega arith) (λ k lt is. h (suc k) (omega arith) (ap (λ z. z ∷ take k xs) same ∙ ap (λ zs. y ∷ zs) is)))
  where
    by_case : (x < y) ⊎ (y ≤ x) → (x ≡ y → ComesFirst xs ys) → (x < y) ⊎ ((x ≡ y) × ComesFirst xs ys)
    by_case (inl lt) rest = inl lt
    by_case (inr le) rest = let first = h 0 (omega arith) refl in let same : x ≡ y = omega arith in inr (same, rest same)

pub first-append : (xs ys ms ns : List ℕ) → length xs ≡ length ys → ComesFirst xs ys → (xs ≡ ys → ComesFirst ms ns) → ComesFirst (xs ++ ms) (ys ++ ns)
first-append [] [] ms ns e h rest = rest refl
first-append [] (y ∷ ys) ms ns e h rest = absurd (omega arith)
first-append (x ∷ xs) [] ms ns e h rest = absurd h
first-append (x ∷ xs) (y ∷ ys) ms ns e (inl lt) rest = inl lt
first-append (x ∷ xs) (y ∷ ys) ms ns e (inr (same, h)) rest = inr (same, first-append xs ys ms ns (omega arith) h (λ is. rest (ap (λ z. z ∷ xs) same ∙ ap (λ zs. y ∷ zs) is)))

pub first-both : (xs ys : List ℕ) → ComesFirst xs ys → ComesFirst ys xs → xs ≡ ys
first-both [] [] h g = refl
first-both [] (y ∷ ys) h g = absurd g
first-both (x ∷ xs) [] h g = absurd h
first-both (x ∷ xs) (y ∷ ys) (inl lt) (inl gt) = absurd (omega arith)
first-both (x ∷ xs) (y ∷ ys) (inl lt) (inr (same, g)) = absurd (omega arith)
first-both (x ∷ xs) (y ∷ ys) (inr (same, h)) (inl gt) = absurd (omega arith)
first-both (x ∷ xs) (y ∷ ys) (inr (same, h)) (inr (_, g)) = ap (λ z. z ∷ xs) same ∙ ap (λ zs. y ∷ zs) (first-both xs ys h g)

-- where the other list has nothing greater before place k, it has nothing less there
pub first-at : (xs ys : List ℕ) (k : ℕ) → ComesFirst xs ys → k < length xs → ((i : ℕ) → i < k → get_or ys i 0 ≤ get_or xs i 0) → get_or xs k 0 ≤ get_or ys k 0
first-at [] ys k h lt under = absurd (omega arith)
first-at (x ∷ xs) [] k h lt under = absurd h
first-at (x ∷ xs) (y ∷ ys) zero (inl less) lt under = omega arith
first-at (x ∷ xs) (y ∷ ys) zero (inr (same, h)) lt under = omega arith
first-at (x ∷ xs) (y ∷ ys) (suc k) (inl less) lt under = let first = under 0 (omega arith) in absurd (omega arith)
first-at (x ∷ xs) (y ∷ ys) (suc k) (inr (same, h)) lt under = first-at xs ys k h (omega arith) (λ i below. under (suc i) (omega arith))

-- after the same numbers
pub first-behind : (xs ms ns : List ℕ) → ComesFirst (xs ++ ms) (xs ++ ns) → ComesFirst ms ns
first-behind [] ms ns h = h
first-behind (x ∷ xs) ms ns (inl less) = absurd (omega arith)
first-behind (x ∷ xs) ms ns (inr (same, h)) = first-behind xs ms ns h
