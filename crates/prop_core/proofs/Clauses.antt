-- Lemmas on literals, and on what a list contains.
use Rattle.std.proofs.Common.{◌≡◌, ℕ, ◌⊎◌, Bool, true, false, not, List, [], ◌∷◌, map, get_or, refl, ◌∙◌, ap, subst, inl, inr, arith, suc, zero}
use Rattle.std.proofs.lemmas.Bool.{cases_eq, true≢false, false≢true}
use Rattle.std.specs.List.{Contains, All}
use Rattle.std.proofs.lemmas.List.Elements.{Contains-get_or}
use Rattle.prop_core.specs.declared.lit.Lit.{Lit}
use Rattle.prop_core.specs.Formula.{negated, MeetsClause}

pub bool_cases_eq : (a b : Bool) → (a ≡ b) ⊎ (a ≡ b → ⊥)
bool_cases_eq true true = inl refl
bool_cases_eq false false = inl refl
bool_cases_eq true false = inr true≢false
bool_cases_eq false true = inr false≢true

pub lit_eq : (a b : Lit) → a.var ≡ b.var → a.positive ≡ b.positive → a ≡ b
lit_eq a b e f =
    let make : ℕ → Bool → Lit = λ n p. record { var = n; positive = p } in
    ap (λ n. make n a.positive) e ∙ ap (make b.var) f

-- two literals are equal or not
pub lit_cases_eq : (a b : Lit) → (a ≡ b) ⊎ (a ≡ b → ⊥)
lit_cases_eq a b =
    elim (cases_eq a.var b.var) [
      | inr n ↦ inr (λ (e : a ≡ b). n (ap (λ (l : Lit). l.var) e))
      | inl e ↦ elim (bool_cases_eq a.positive b.positive) [
        | inr n ↦ inr (λ (f : a ≡ b). n (ap (λ (l : Lit). l.positive) f))
        | inl f ↦ inl (lit_eq a b e f)
      ]
    ]

pub not-not : (b : Bool) → not (not b) ≡ b
not-not true = refl
not-not false = refl

pub not_itself : (b : Bool) → b ≡ not b → ⊥
not_itself true h = true≢false h
not_itself false h = false≢true h

pub negated-negated : (l : Lit) → negated (negated l) ≡ l
negated-negated l = lit_eq (negated (negated l)) l refl (not-not l.positive)

pub Contains-head : {X : Type 0} (x : X) (xs : List X) → Contains (x ∷ xs) x
Contains-head x xs = (0, omega arith, refl)

pub Contains-cons : {X : Type 0} (x : X) (xs : List X) (y : X) → Contains xs y → Contains (x ∷ xs) y
Contains-cons x xs y h = (suc h.0, omega arith, h.2)

pub Contains-none : {X : Type 0} (y : X) → Contains [] y → ⊥
Contains-none y h = omega arith

pub Contains-cons_cases : {X : Type 0} (x : X) (xs : List X) (y : X) → Contains (x ∷ xs) y → (x ≡ y) ⊎ Contains xs y
Contains-cons_cases x xs y (zero, l, e) = inl e
Contains-cons_cases x xs y (suc k, l, e) = inr (k, omega arith, e)

pub Contains-map : {X Y : Type 0} (f : X → Y) (xs : List X) (x : X) → Contains xs x → Contains (map f xs) (f x)
Contains-map f [] x h = absurd (Contains-none x h)
Contains-map {X = X} f (y ∷ xs) x h =
    elim (Contains-cons_cases y xs x h) [
      | inl e ↦ let P : X → Type 0 = λ z. Contains (map f (y ∷ xs)) (f z) in subst P e (Contains-head (f y) (map f xs))
      | inr r ↦ Contains-cons (f y) (map f xs) (f x) (Contains-map f xs x r)
    ]

-- an element of the images is the image of an element
pub Contains-from_map : {X Y : Type 0} (f : X → Y) (xs : List X) (y : Y) → Contains (map f xs) y → (x : X) × Contains xs x × (f x ≡ y)
Contains-from_map f [] y h = absurd (Contains-none y h)
Contains-from_map f (x ∷ xs) y h =
    elim (Contains-cons_cases (f x) (map f xs) y h) [
      | inl e ↦ (x, Contains-head x xs, e)
      | inr r ↦ let s = Contains-from_map f xs y r in (s.0, Contains-cons x xs s.0 s.1, s.2)
    ]

-- what holds of each element that is contained
pub All-from_contains : {X : Type 0} (P : X → Type 0) (xs : List X) → ((x : X) → Contains xs x → P x) → All P xs
All-from_contains P xs h = λ k d l. h (get_or xs k d) (Contains-get_or xs k d l)

-- a clause is met, or each of its literals is false
pub clause_cases : (v : ℕ → Bool) (clause : List Lit) → MeetsClause v clause ⊎ ((l : Lit) → Contains clause l → v l.var ≡ not l.positive)
clause_cases v [] = inr (λ l h. absurd (Contains-none l h))
clause_cases v (x ∷ xs) =
    elim (bool_cases_eq (v x.var) x.positive) [
      | inl e ↦ inl (0, x, omega arith, refl, e)
      | inr n ↦ elim (clause_cases v xs) [
        | inl m ↦ inl (suc m.0, m.1, omega arith, m.3, m.4)
        | inr a ↦ inr (λ l h. elim (Contains-cons_cases x xs l h) [
          | inl e ↦ let P : Lit → Type 0 = λ y. v y.var ≡ not y.positive in subst P e (other (v x.var) x.positive n)
          | inr r ↦ a l r
        ])
      ]
    ]
  where
    other : (a b : Bool) → (a ≡ b → ⊥) → a ≡ not b
    other true true n = absurd (n refl)
    other false false n = absurd (n refl)
    other true false n = refl
    other false true n = refl
