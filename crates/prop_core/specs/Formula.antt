-- When values meet clauses.
use Rattle.std.specs.Prelude.{◌≡◌, ℕ, ◌<◌, Bool, List, get_or, All, Any, false, not}
use Rattle.prop_core.specs.declared.lit.Lit.{Lit}

-- one value per variable, as a function; past the end of the list it is false
abbrev pub value_of : List Bool → ℕ → Bool
value_of values n = get_or values n false

-- the literal with the other sign
abbrev pub negated : Lit → Lit
negated l = record { var = l.var; positive = not l.positive }

-- some literal of the clause has its variable's value
abbrev pub MeetsClause : (ℕ → Bool) → List Lit → Type 0
MeetsClause v clause = Any (λ l. v l.var ≡ l.positive) clause

-- each clause has such a literal
abbrev pub MeetsAll : (ℕ → Bool) → List (List Lit) → Type 0
MeetsAll v clauses = All (MeetsClause v) clauses

-- the clause's variables are below a number
abbrev pub IsWithin : ℕ → List Lit → Type 0
IsWithin vars clause = All (λ l. l.var < vars) clause

-- so are those of each clause
abbrev pub AreWithin : ℕ → List (List Lit) → Type 0
AreWithin vars clauses = All (IsWithin vars) clauses
