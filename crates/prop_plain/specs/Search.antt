-- The search's path: the values of the first variables.
use Rattle.std.specs.Prelude.{◌≡◌, ℕ, ◌+◌, ◌*◌, ◌-◌, ◌<◌, ◌↔◌, zero, suc, Bool, true, false, not, List, [], ◌∷◌, ◌++◌, length, take, get_or, Contains, IsTrue, IsFalse, if◌then◌else◌}
use Rattle.prop_core.specs.declared.lit.Lit.{Lit}
use Rattle.prop_core.specs.Propagation.{Follows}
use Rattle.prop_check.specs.Kept.{Kept, kept}

-- the clause that says that the variables from n on don't have these values
abbrev pub against_from : ℕ → List Bool → List Lit
against_from n [] = []
against_from n (b ∷ path) = record { var = n; positive = not b } ∷ against_from (n + 1) path

-- the clause that says that the first variables don't have these values
abbrev pub against : List Bool → List Lit
against path = against_from 0 path

-- a clause was offered, and this was the answer
pub record IsOffered (old new : Kept) (clause : List Lit) (taken : Bool) : Type 0 where
  pub vars : new.vars ≡ old.vars
  pub given : new.given ≡ old.given
  pub exact : IsTrue taken ↔ Follows (kept old) clause
  pub kept_if : IsTrue taken → new.added ≡ old.added ++ clause ∷ []
  pub same_if : IsFalse taken → new.added ≡ old.added

-- where the path took a variable's second value, the clause against the first one is kept
abbrev pub FirstsDone : List (List Lit) → List Bool → Type 0
FirstsDone clauses path = (i : ℕ) → i < length path → get_or path i false ≡ true → Contains clauses (against (take i path ++ false ∷ []))

-- an upper bound on the turns of a search over n variables
abbrev pub turns : ℕ → ℕ
turns zero = 1
turns (suc n) = 2 * turns n + 3

-- an upper bound on the turns that are left above a path, in a search over n variables
abbrev pub turns_above : ℕ → List Bool → ℕ
turns_above n [] = 0
turns_above zero (b ∷ path) = 0
turns_above (suc n) (true ∷ path) = 1 + turns_above n path
turns_above (suc n) (false ∷ path) = 2 + turns n + turns_above n path

-- an upper bound on the turns that are left at a path, which is refuted or not
abbrev pub turns_left : ℕ → List Bool → Bool → ℕ
turns_left vars path refuted = turns_above vars path + (if refuted then 0 else turns (vars - length path))
