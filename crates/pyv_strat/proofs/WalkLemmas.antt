-- Walks of a number of edges: as lists of sorts, joined, cut, and with more edges than there are
-- sorts.
use Rattle.std.proofs.Common.{◌≡◌, ℕ, zero, suc, ◌+◌, ◌<◌, ◌≤◌, ◌⊎◌, inl, inr, List, [], ◌∷◌, ◌++◌, length, get_or, refl, sym, subst, ◌∙◌, arith}
use Rattle.std.proofs.lemmas.Bool.{cases_lt}
use Rattle.fo_core.specs.SortGraph.{IsWalk, Rises}
use Rattle.pyv_strat.specs.Walks.{Reaches}

pub equal_or_not : (x y : ℕ) → (x ≡ y) ⊎ (¬ (x ≡ y))
equal_or_not x y = by_less (cases_lt x y) (cases_lt y x)
  where
    by_less : (x < y) ⊎ (y ≤ x) → (y < x) ⊎ (x ≤ y) → (x ≡ y) ⊎ (¬ (x ≡ y))
    by_less (inl lt) h = inr (λ e. omega arith)
    by_less (inr le) (inl lt) = inr (λ e. omega arith)
    by_less (inr le) (inr ge) = inl (omega arith)

-- the sort is in the list
abbrev pub In : ℕ → List ℕ → Type 0
In x [] = ⊥
In x (y ∷ ys) = (x ≡ y) ⊎ In x ys

-- a sort is there twice
abbrev pub HasRepeat : List ℕ → Type 0
HasRepeat [] = ⊥
HasRepeat (x ∷ xs) = In x xs ⊎ HasRepeat xs

in_or_not : (x : ℕ) (xs : List ℕ) → In x xs ⊎ (¬ In x xs)
in_or_not x [] = inr (λ h. h)
in_or_not x (y ∷ ys) = first (equal_or_not x y) (in_or_not x ys)
  where
    neither : ¬ (x ≡ y) → ¬ In x ys → (x ≡ y) ⊎ In x ys → ⊥
    neither other none (inl is) = other is
    neither other none (inr h) = none h

    first : (x ≡ y) ⊎ (¬ (x ≡ y)) → In x ys ⊎ (¬ In x ys) → ((x ≡ y) ⊎ In x ys) ⊎ (¬ ((x ≡ y) ⊎ In x ys))
    first (inl is) h = inl (inl is)
    first (inr other) (inl h) = inl (inr h)
    first (inr other) (inr none) = inr (neither other none)

-- the list without one v, if it has one
record Without (v : ℕ) (xs : List ℕ) : Type 0 where
  rest : List ℕ
  long : length xs ≤ length rest + 1
  part : (x : ℕ) → In x rest → In x xs
  repeat : HasRepeat rest → HasRepeat xs
  twice : In v rest → HasRepeat xs

longer : (v y : ℕ) (ys : List ℕ) → Without v ys → (v ≡ y) ⊎ (¬ (v ≡ y)) → Without v (y ∷ ys)
longer v y ys w (inl is) = record { rest = ys; long = omega arith; part = λ x h. inr h; repeat = λ h. inr h; twice = λ h. inl (subst (λ z. In z ys) is h) }
longer v y ys w (inr other) = record { rest = y ∷ w.rest; long = omega (arith, w.long); part = part; repeat = repeat; twice = twice }
  where
    part : (x : ℕ) → (x ≡ y) ⊎ In x w.rest → (x ≡ y) ⊎ In x ys
    part x (inl e) = inl e
    part x (inr h) = inr (w.part x h)

    repeat : In y w.rest ⊎ HasRepeat w.rest → In y ys ⊎ HasRepeat ys
    repeat (inl h) = inl (w.part y h)
    repeat (inr h) = inr (w.repeat h)

    twice : (v ≡ y) ⊎ In v w.rest → In y ys ⊎ HasRepeat ys
    twice (inl is) = absurd (other is)
    twice (inr h) = inr (w.twice h)

without : (v : ℕ) (xs : List ℕ) → Without v xs
without v [] = record { rest = []; long = omega arith; part = λ x h. h; repeat = λ h. h; twice = λ h. h }
without v (y ∷ ys) = longer v y ys (without v ys) (equal_or_not v y)

-- more numbers than there are below n, each of them below n
pub pigeons : (n : ℕ) (xs : List ℕ) → n < length xs → ((x : ℕ) → In x xs → x < n) → HasRepeat xs
pigeons zero [] lt below = absurd (omega arith)
pigeons zero (x ∷ xs) lt below = absurd (omega (arith, below x (inl refl)))
pigeons (suc n) xs lt below = by_last (pigeons n) (in_or_not n w.rest)
  where
    w : Without n xs
    w = without n xs

    less : ¬ In n w.rest → (x : ℕ) → In x w.rest → (x ≡ n) ⊎ (¬ (x ≡ n)) → x < n
    less none x h (inl is) = absurd (none (subst (λ z. In z w.rest) is h))
    less none x h (inr other) = by_order (cases_lt x n)
      where
        by_order : (x < n) ⊎ (n ≤ x) → x < n
        by_order (inl lt) = lt
        by_order (inr le) = absurd (other (omega (arith, below x (w.part x h))))

    by_last : ((ys : List ℕ) → n < length ys → ((x : ℕ) → In x ys → x < n) → HasRepeat ys) → In n w.rest ⊎ (¬ In n w.rest) → HasRepeat xs
    by_last fewer (inl h) = w.twice h
    by_last fewer (inr none) = w.repeat (fewer w.rest (omega (arith, w.long)) (λ x h. less none x h (equal_or_not x n)))

module _ (edge : ℕ → ℕ → Type 0) where
  -- a walk to a goal, as a list
  pub walk-from : (goal : ℕ → Type 0) (k a : ℕ) → Reaches edge goal k a → (cs : List ℕ) × (g : ℕ) × goal g × (length cs ≡ k) × IsWalk edge a cs g
  walk-from goal zero a h = ([], a, h, refl, refl)
  walk-from goal (suc k) a h = let w = walk-from goal k h.0 h.2 in (h.0 ∷ w.0, w.1, w.2, omega (arith, w.3), (h.1, w.4))

  pub walk-to : (cs : List ℕ) (a g : ℕ) → IsWalk edge a cs g → Reaches edge (λ b. b ≡ g) (length cs) a
  walk-to [] a g h = h
  walk-to (c ∷ cs) a g h = (c, h.0, walk-to cs c g h.1)

  pub reach-then : (j k a b g : ℕ) → Reaches edge (λ x. x ≡ b) j a → Reaches edge (λ x. x ≡ g) k b → Reaches edge (λ x. x ≡ g) (j + k) a
  reach-then zero k a b g first next = let whole : k ≡ zero + k = omega arith in subst (λ n. Reaches edge (λ x. x ≡ g) n a) whole (subst (Reaches edge (λ x. x ≡ g) k) (sym first) next)
  reach-then (suc j) k a b g first next =
      let whole : suc (j + k) ≡ suc j + k = omega arith in
      subst (λ n. Reaches edge (λ x. x ≡ g) n a) whole (first.0, first.1, reach-then j k first.0 b g first.2 next)

  pub walk-push : (cs : List ℕ) (a b c : ℕ) → IsWalk edge a cs b → edge b c → IsWalk edge a (cs ++ c ∷ []) c
  walk-push [] a b c h e = (subst (λ x. edge x c) (sym h) e, refl)
  walk-push (d ∷ cs) a b c h e = (h.0, walk-push cs d b c h.1 e)

  -- a walk, cut behind one of its sorts
  walk-cut : (cs : List ℕ) (i a g : ℕ) → i < length cs → IsWalk edge a cs g → (m : ℕ) × (m + suc i ≡ length cs) × Reaches edge (λ x. x ≡ get_or cs i 0) (suc i) a × Reaches edge (λ x. x ≡ g) m (get_or cs i 0)
  walk-cut [] i a g lt h = absurd (omega arith)
  walk-cut (c ∷ cs) zero a g lt h = (length cs, omega arith, (c, h.0, refl), walk-to cs c g h.1)
  walk-cut (c ∷ cs) (suc i) a g lt h = let r = walk-cut cs i c g (omega arith) h.1 in (r.0, omega (arith, r.1), (c, h.0, r.2), r.3)

  -- a cycle, begun at another of its sorts
  pub turned : (cs : List ℕ) (i a : ℕ) → i < length cs → IsWalk edge a cs a → Reaches edge (λ x. x ≡ get_or cs i 0) (length cs) (get_or cs i 0)
  turned cs i a lt h =
      let r = walk-cut cs i a a lt h in
      subst (λ n. Reaches edge (λ x. x ≡ get_or cs i 0) n (get_or cs i 0)) r.1 (reach-then r.0 (suc i) (get_or cs i 0) a (get_or cs i 0) r.3 r.2)

  in-walk : (cs : List ℕ) (a g v : ℕ) → IsWalk edge a cs g → In v cs → (j : ℕ) × (j < length cs) × Reaches edge (λ x. x ≡ v) (suc j) a
  in-walk [] a g v h found = absurd found
  in-walk (c ∷ cs) a g v h (inl is) = (0, omega arith, (c, h.0, sym is))
  in-walk (c ∷ cs) a g v h (inr found) = let r = in-walk cs c g v h.1 found in (suc r.0, omega (arith, r.1), (c, h.0, r.2))

  -- where a sort is there twice, a part of the walk is a cycle
  pub returns-from : (cs : List ℕ) (a g : ℕ) → IsWalk edge a cs g → HasRepeat (a ∷ cs) → (v : ℕ) × (j : ℕ) × (j < length cs) × Reaches edge (λ x. x ≡ v) (suc j) v
  returns-from cs a g h (inl found) = let r = in-walk cs a g a h found in (a, r.0, r.1, r.2)
  returns-from [] a g h (inr found) = absurd found
  returns-from (c ∷ cs) a g h (inr found) = let r = returns-from cs c g h.1 found in (r.0, r.1, omega (arith, r.2), r.3)

  module _ (sorts : ℕ) (within : (a b : ℕ) → edge a b → (a < sorts) × (b < sorts)) where
    bounded : (cs : List ℕ) (a g x : ℕ) → IsWalk edge a cs g → In x cs → x < sorts
    bounded [] a g x h found = absurd found
    bounded (c ∷ cs) a g x h (inl is) = omega (arith, (within a c h.0).1)
    bounded (c ∷ cs) a g x h (inr found) = bounded cs c g x h.1 found

    -- without a cycle no walk has as many edges as there are sorts
    pub none_long : ((v j : ℕ) → v < sorts → j < sorts → ¬ Reaches edge (λ x. x ≡ v) (suc j) v) → (goal : ℕ → Type 0) (a : ℕ) → a < sorts → ¬ Reaches edge goal sorts a
    none_long none goal a lt h = none r.0 r.1 (within r.0 r.3.0 r.3.1).0 (omega (arith, r.2, w.3)) r.3
      where
        w : (cs : List ℕ) × (g : ℕ) × goal g × (length cs ≡ sorts) × IsWalk edge a cs g
        w = walk-from goal sorts a h

        all : (x : ℕ) → In x (a ∷ w.0) → x < sorts
        all x (inl is) = omega arith
        all x (inr found) = bounded w.0 a w.1 x w.4 found

        r : (v : ℕ) × (j : ℕ) × (j < length w.0) × Reaches edge (λ x. x ≡ v) (suc j) v
        r = returns-from w.0 a w.1 w.4 (pigeons sorts (a ∷ w.0) (omega (arith, w.3)) all)

  -- along a walk numbers rise
  pub rises-along : (sorts : ℕ) (numbers : List ℕ) → Rises edge sorts numbers → (cs : List ℕ) (a g : ℕ) → IsWalk edge a cs g → get_or numbers a 0 + length cs ≤ get_or numbers g 0
  rises-along sorts numbers rises [] a g h = let same : get_or numbers a 0 ≡ get_or numbers g 0 = subst (λ x. get_or numbers a 0 ≡ get_or numbers x 0) h refl in omega arith
  rises-along sorts numbers rises (c ∷ cs) a g h = omega (arith, rises.rising a c h.0, rises-along sorts numbers rises cs c g h.1)

-- a walk along one relation is a walk along another that holds where the first does
pub walk-as : (E F : ℕ → ℕ → Type 0) → ((a b : ℕ) → E a b → F a b) → (cs : List ℕ) (a g : ℕ) → IsWalk E a cs g → IsWalk F a cs g
walk-as E F same [] a g h = h
walk-as E F same (c ∷ cs) a g h = (same a c h.0, walk-as E F same cs c g h.1)
