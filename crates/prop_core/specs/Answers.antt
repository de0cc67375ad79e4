-- What an answer says of a formula.
use Rattle.std.specs.Prelude.{◌≡◌, ℕ, Bool, List, length}
use Rattle.prop_core.specs.declared.lit.Lit.{Lit}
use Rattle.prop_core.specs.declared.answer.Answer.{Answer}
use Rattle.prop_core.specs.declared.answer.Answer.TheVariants.{Sat, Unsat}
use Rattle.prop_core.specs.Formula.{value_of, MeetsAll}
use Rattle.prop_core.specs.Propagation.{IsRefutation}

-- one value for each variable, which meet the clauses; or a refutation of them
abbrev pub IsAnswer : ℕ → List (List Lit) → Answer → Type 0
IsAnswer vars clauses (Sat values) = (length values ≡ vars) × MeetsAll (value_of values) clauses
IsAnswer vars clauses (Unsat r) = IsRefutation vars clauses r.clauses

-- the answer is that there are no such values
abbrev pub SaysUnsat : Answer → Type 0
SaysUnsat (Sat values) = ⊥
SaysUnsat (Unsat r) = Unit {0}

-- no values at all meet the clauses
abbrev pub HaveNoValues : List (List Lit) → Type 0
HaveNoValues clauses = (v : ℕ → Bool) → MeetsAll v clauses → ⊥
