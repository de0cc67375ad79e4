-- What is added to a list of edges, one item of a list after another.
use Rattle.std.proofs.Common.{◌≡◌, ℕ, zero, suc, ◌+◌, ◌<◌, ◌≤◌, ◌⊎◌, inl, inr, ◌↔◌, Bool, true, false, List, [], ◌∷◌, ◌++◌, length, get_or, refl, sym, subst, ap, ◌∙◌, arith}
use Rattle.std.specs.List.{Any, Contains}
use Rattle.std.proofs.lemmas.Bool.{cases_lt}
use Rattle.std.proofs.lemmas.List.{get_or_default}
use Rattle.std.proofs.lemmas.List.Elements.{Contains-append_left, Contains-append_right, Contains-append_cases}
use Rattle.pyv_strat.specs.declared.edges.Edge.{Edge}
use Rattle.pyv_strat.specs.Edges.{Among, Adds}

-- some element before place n
abbrev pub AnyBefore : {X : Type 0} → (X → Type 0) → List X → ℕ → Type 0
AnyBefore {X} P xs n = (k : ℕ) × (x : X) × (k < length xs) × (k < n) × (get_or xs k x ≡ x) × P x

module _ {X : Type 0} (P : X → ℕ → ℕ → Type 0) (xs : List X) where
  -- the edges that the elements before place n have
  abbrev pub Seen : ℕ → ℕ → ℕ → Type 0
  Seen n a b = AnyBefore (λ x. P x a b) xs n

  pub adds-none : (edges : List Edge) → Adds edges edges (Seen 0)
  adds-none edges a b = (λ h. inl h, back)
    where
      back : Among edges a b ⊎ Seen 0 a b → Among edges a b
      back (inl h) = h
      back (inr h) = let lt = h.3 in absurd (omega (arith, lt))

  pub adds-more : (old mid new : List Edge) (n : ℕ) (x : X) → n < length xs → x ≡ get_or xs n x → Adds old mid (Seen n) → Adds mid new (P x) → Adds old new (Seen (n + 1))
  adds-more old mid new n x lt is before more a b = (to, from)
    where
      widen : Among old a b ⊎ Seen n a b → Among old a b ⊎ Seen (n + 1) a b
      widen (inl h) = inl h
      widen (inr h) = inr (h.0, h.1, h.2, omega (arith, h.3), h.4, h.5)

      by_part : Among mid a b ⊎ P x a b → Among old a b ⊎ Seen (n + 1) a b
      by_part (inl h) = widen ((before a b).0 h)
      by_part (inr p) = inr (n, x, lt, omega arith, sym is, p)

      to : Among new a b → Among old a b ⊎ Seen (n + 1) a b
      to h = by_part ((more a b).0 h)

      at : (k : ℕ) (y : X) → k < length xs → k < n + 1 → get_or xs k y ≡ y → P y a b → (k < n) ⊎ (n ≤ k) → Among new a b
      at k y within below same p (inl less) = (more a b).1 (inl ((before a b).1 (inr (k, y, within, less, same, p))))
      at k y within below same p (inr le) =
          let here : k ≡ n = omega arith in
          let one : get_or xs n y ≡ y = subst (λ j. get_or xs j y ≡ y) here same in
          let equal : y ≡ x = sym one ∙ get_or_default xs n y x lt ∙ sym is in
          (more a b).1 (inr (subst (λ z. P z a b) equal p))

      from : Among old a b ⊎ Seen (n + 1) a b → Among new a b
      from (inl h) = (more a b).1 (inl ((before a b).1 (inl h)))
      from (inr h) = at h.0 h.1 h.2 h.3 h.4 h.5 (cases_lt h.0 n)

  pub adds-all : (old new : List Edge) (n : ℕ) → length xs ≤ n → Adds old new (Seen n) → Adds old new (λ a b. Any (λ x. P x a b) xs)
  adds-all old new n le seen a b = (λ h. narrow ((seen a b).0 h), λ h. (seen a b).1 (widen h))
    where
      narrow : Among old a b ⊎ Seen n a b → Among old a b ⊎ Any (λ x. P x a b) xs
      narrow (inl h) = inl h
      narrow (inr h) = inr (h.0, h.1, h.2, h.4, h.5)

      widen : Among old a b ⊎ Any (λ x. P x a b) xs → Among old a b ⊎ Seen n a b
      widen (inl h) = inl h
      widen (inr h) = inr (h.0, h.1, h.2, omega (arith, h.2), h.3, h.4)

-- the same edges, said in another way
pub adds-as : (P Q : ℕ → ℕ → Type 0) (old new : List Edge) → ((a b : ℕ) → P a b ↔ Q a b) → Adds old new P → Adds old new Q
adds-as P Q old new same adds a b = (λ h. there ((adds a b).0 h), λ h. (adds a b).1 (back h))
  where
    there : Among old a b ⊎ P a b → Among old a b ⊎ Q a b
    there (inl h) = inl h
    there (inr p) = inr ((same a b).0 p)

    back : Among old a b ⊎ Q a b → Among old a b ⊎ P a b
    back (inl h) = inl h
    back (inr q) = inr ((same a b).1 q)

-- first the ones, then the others
pub adds-then : (P Q : ℕ → ℕ → Type 0) (old mid new : List Edge) → Adds old mid P → Adds mid new Q → Adds old new (λ a b. P a b ⊎ Q a b)
adds-then P Q old mid new first next a b = (to, from)
  where
    first_part : Among old a b ⊎ P a b → Among old a b ⊎ (P a b ⊎ Q a b)
    first_part (inl h) = inl h
    first_part (inr p) = inr (inl p)

    by_part : Among mid a b ⊎ Q a b → Among old a b ⊎ (P a b ⊎ Q a b)
    by_part (inl h) = first_part ((first a b).0 h)
    by_part (inr q) = inr (inr q)

    to : Among new a b → Among old a b ⊎ (P a b ⊎ Q a b)
    to h = by_part ((next a b).0 h)

    from : Among old a b ⊎ (P a b ⊎ Q a b) → Among new a b
    from (inl h) = (next a b).1 (inl ((first a b).1 (inl h)))
    from (inr (inl p)) = (next a b).1 (inl ((first a b).1 (inr p)))
    from (inr (inr q)) = (next a b).1 (inr q)

-- none where there is nothing to add
pub adds-nothing : (P : ℕ → ℕ → Type 0) (edges : List Edge) → ((a b : ℕ) → ¬ P a b) → Adds edges edges P
adds-nothing P edges none a b = (λ h. inl h, back)
  where
    back : Among edges a b ⊎ P a b → Among edges a b
    back (inl h) = h
    back (inr p) = absurd (none a b p)

-- an edge from each of the sorts
pub from-each : (xs : List ℕ) (to : ℕ) (a b : ℕ) → Any (λ x. (x ≡ a) × (to ≡ b)) xs ↔ (Contains xs a × (to ≡ b))
from-each xs to a b = (there, back)
  where
    there : Any (λ x. (x ≡ a) × (to ≡ b)) xs → Contains xs a × (to ≡ b)
    there h = ((h.0, h.2, subst (λ y. get_or xs h.0 y ≡ y) h.4.0 h.3), h.4.1)

    back : Contains xs a × (to ≡ b) → Any (λ x. (x ≡ a) × (to ≡ b)) xs
    back h = (h.0.0, a, h.0.1, h.0.2, (refl, h.1))

pub contains-push : (xs : List ℕ) (s a : ℕ) → Contains (xs ++ s ∷ []) a ↔ (Contains xs a ⊎ (s ≡ a))
contains-push xs s a = (λ h. last (Contains-append_cases xs (s ∷ []) a h), back)
  where
    alone : (k : ℕ) → k < 1 → get_or (s ∷ []) k a ≡ a → s ≡ a
    alone zero lt is = is
    alone (suc k) lt is = absurd (omega arith)

    last : Contains xs a ⊎ Contains (s ∷ []) a → Contains xs a ⊎ (s ≡ a)
    last (inl h) = inl h
    last (inr h) = inr (alone h.0 h.1 h.2)

    back : Contains xs a ⊎ (s ≡ a) → Contains (xs ++ s ∷ []) a
    back (inl h) = Contains-append_left xs (s ∷ []) a h
    back (inr is) = Contains-append_right xs (s ∷ []) a (0, omega arith, is)

-- what is added to no edges is all
pub adds-only : (P : ℕ → ℕ → Type 0) (new : List Edge) → Adds [] new P → (a b : ℕ) → Among new a b ↔ P a b
adds-only P new adds a b = (λ h. there ((adds a b).0 h), λ p. (adds a b).1 (inr p))
  where
    there : Among [] a b ⊎ P a b → P a b
    there (inl h) = let lt = h.2 in absurd (omega (arith, lt))
    there (inr p) = p
