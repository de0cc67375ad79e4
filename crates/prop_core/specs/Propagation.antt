-- Unit propagation, and refutations by it.
use Rattle.std.specs.Prelude.{◌≡◌, ◌⊎◌, ℕ, Contains, List, [], ◌∷◌, ◌++◌, map}
use Rattle.prop_core.specs.declared.lit.Lit.{Lit}
use Rattle.prop_core.specs.Formula.{negated, AreWithin}

-- The literals that unit propagation makes true from those of `start`: these, and a clause's literal where each
-- other literal of that clause is made false.
pub data Forced (clauses : List (List Lit)) (start : List Lit) : Lit → Type 0 where
  given : {l : Lit} → Contains start l → Forced clauses start l
  by_clause : {l : Lit} (c : List Lit) → Contains clauses c → Contains c l → ((m : Lit) → Contains c m → (m ≡ l → ⊥) → Forced clauses start (negated m)) → Forced clauses start l

-- each literal of some clause is made false, or one literal is made true and false
abbrev pub MeetsConflict : List (List Lit) → List Lit → Type 0
MeetsConflict clauses start =
    ((c : List Lit) × Contains clauses c × ((m : Lit) → Contains c m → Forced clauses start (negated m)))
    ⊎ ((l : Lit) × Forced clauses start l × Forced clauses start (negated l))

-- unit propagation from the clause's negation meets a conflict
abbrev pub Follows : List (List Lit) → List Lit → Type 0
Follows clauses clause = MeetsConflict clauses (map negated clause)

-- each clause of the second list follows from the first list and those before it
abbrev pub IsDerivation : List (List Lit) → List (List Lit) → Type 0
IsDerivation clauses [] = Unit {0}
IsDerivation clauses (c ∷ rest) = Follows clauses c × IsDerivation (clauses ++ c ∷ []) rest

-- steps over the variables below vars, each of which follows from the clauses and the steps before
-- it, and the last of which is empty
pub record IsRefutation (vars : ℕ) (clauses steps : List (List Lit)) : Type 0 where
  pub within : AreWithin vars steps
  pub derived : IsDerivation clauses steps
  pub ends : (before : List (List Lit)) × (steps ≡ before ++ [] ∷ [])
