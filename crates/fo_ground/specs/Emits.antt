-- The meaning of clauses that were added, with helper variables behind the first ones.
use Rattle.std.specs.Prelude.{◌≡◌, ℕ, ◌<◌, ◌≤◌, ◌⊎◌, Bool, true, false, List, [], ◌∷◌}
use Rattle.prop_core.specs.declared.lit.Lit.{Lit}
use Rattle.prop_core.specs.Formula.{MeetsClause, MeetsAll, IsWithin, AreWithin}

-- two assignments agree on the variables below n
abbrev pub Agrees : ℕ → (ℕ → Bool) → (ℕ → Bool) → Type 0
Agrees n v u = (k : ℕ) → k < n → u k ≡ v k

-- Clauses K over n variables became clauses L over k variables, and what was added means: a literal of the prefix is true, or M holds. The new
-- variables can be chosen so if it does. M depends on the variables below base alone.
pub record Adds (base : ℕ) (prefix : List Lit) (M : (ℕ → Bool) → Type 0) (n : ℕ) (K : List (List Lit)) (k : ℕ) (L : List (List Lit)) : Type 0 where
  pub over : base ≤ n
  pub grows : n ≤ k
  pub before : AreWithin n K
  pub after : AreWithin k L
  pub sound : (v : ℕ → Bool) → MeetsAll v L → MeetsAll v K × (MeetsClause v prefix ⊎ M v)
  pub complete : (a v : ℕ → Bool) → Agrees base a v → MeetsAll v K → MeetsClause v prefix ⊎ M a → (u : ℕ → Bool) × Agrees n v u × MeetsAll u L

-- The same while a disjunction M is being added: the new variables imply their disjuncts, and the clause in the making, once it is added as well,
-- means that a literal of the prefix is true or M holds. With the new variables false nothing is asked (`idle`).
pub record Offers (base : ℕ) (prefix : List Lit) (M : (ℕ → Bool) → Type 0) (n : ℕ) (K : List (List Lit)) (k : ℕ) (L : List (List Lit)) (clause : List Lit) : Type 0 where
  pub over : base ≤ n
  pub grows : n ≤ k
  pub before : AreWithin n K
  pub after : AreWithin k L
  pub inside : IsWithin k clause
  pub sound : (v : ℕ → Bool) → MeetsAll v L → MeetsAll v K × (MeetsClause v clause → MeetsClause v prefix ⊎ M v)
  pub idle : (a v : ℕ → Bool) → Agrees base a v → MeetsAll v K → (u : ℕ → Bool) × Agrees n v u × MeetsAll u L
  pub complete : (a v : ℕ → Bool) → Agrees base a v → MeetsAll v K → MeetsClause v prefix ⊎ M a → (u : ℕ → Bool) × Agrees n v u × MeetsAll u L × MeetsClause u clause

-- where x and y are true, z is
abbrev pub rule : ℕ → ℕ → ℕ → List Lit
rule x y z = record { var = x; positive = false } ∷ record { var = y; positive = false } ∷ record { var = z; positive = true } ∷ []

-- where x is true, z is
abbrev pub implied : ℕ → ℕ → List Lit
implied x z = record { var = x; positive = false } ∷ record { var = z; positive = true } ∷ []
