-- What a `Solver` is seen as, and what its replies say.
use Rattle.std.specs.Prelude.{◌≡◌, ℕ, Bool, List, All, Contains, length}
use Rattle.prop_core.specs.declared.lit.Lit.{Lit}
use Rattle.prop_core.specs.Formula.{negated, value_of, MeetsAll}
use Rattle.prop_check.specs.Kept.{IsImplied}
use Rattle.prop_cdcl.specs.declared.solver.Reply.{Reply}
use Rattle.prop_cdcl.specs.declared.solver.Reply.TheVariants.{Values, Denied}

-- how many variables there are, and the clauses that were added
pub record Known : Type 0 where
  pub vars : ℕ
  pub clauses : List (List Lit)

-- each literal has its variable's value
abbrev pub AreTrue : (ℕ → Bool) → List Lit → Type 0
AreTrue v lits = All (λ l. v l.var ≡ l.positive) lits

-- each literal of the clause is the negation of an assumption
abbrev pub OnlyDenies : List Lit → List Lit → Type 0
OnlyDenies assumptions clause = All (λ l. Contains assumptions (negated l)) clause

-- one value for each variable, which meet the clauses and the assumptions; or a clause of denied assumptions that all
-- values meet which meet the clauses
abbrev pub IsReply : ℕ → List (List Lit) → List Lit → Reply → Type 0
IsReply vars clauses assumptions (Values values) = (length values ≡ vars) × MeetsAll (value_of values) clauses × AreTrue (value_of values) assumptions
IsReply vars clauses assumptions (Denied clause) = OnlyDenies assumptions clause × IsImplied clauses clause

-- the reply is a clause of denied assumptions
abbrev pub SaysDenied : Reply → Type 0
SaysDenied (Values values) = ⊥
SaysDenied (Denied clause) = Unit {0}

-- no values meet the clauses with each assumption true
abbrev pub HaveNoValuesUnder : List (List Lit) → List Lit → Type 0
HaveNoValuesUnder clauses assumptions = (v : ℕ → Bool) → MeetsAll v clauses → AreTrue v assumptions → ⊥
