-- What a `Checked` is seen as.
use Rattle.std.specs.Prelude.{◌≡◌, ◌≤◌, ℕ, Bool, true, false, Option, List, [], ◌∷◌, ◌++◌, length}
use Rattle.prop_core.specs.Formula.{AreWithin, MeetsClause, MeetsAll}
use Rattle.prop_core.specs.Propagation.{IsDerivation}
use Rattle.prop_core.specs.declared.lit.Lit.{Lit}
use Rattle.prop_check.specs.Assignment.{AreImplied}

-- the clauses that it was given, those that it took, and how many more it can keep with no memory
pub record Kept : Type 0 where
  pub vars : ℕ
  pub given : List (List Lit)
  pub added : List (List Lit)
  pub spare : ℕ

-- all its clauses
abbrev pub kept : Kept → List (List Lit)
kept k = k.given ++ k.added

-- the third list has the clauses of the two others, and those of each in their order
pub data AreMerged : List (List Lit) → List (List Lit) → List (List Lit) → Type 0 where
  no_clauses : AreMerged [] [] []
  one_given : {given added all : List (List Lit)} (c : List Lit) → AreMerged given added all → AreMerged (c ∷ given) added (c ∷ all)
  one_added : {given added all : List (List Lit)} (c : List Lit) → AreMerged given added all → AreMerged given (c ∷ added) (c ∷ all)

-- all values that meet the clauses meet this one
abbrev pub IsImplied : List (List Lit) → List Lit → Type 0
IsImplied clauses clause = (v : ℕ → Bool) → MeetsAll v clauses → MeetsClause v clause

-- the clauses whose mark is true, in order
abbrev pub given_of : List Bool → List (List Lit) → List (List Lit)
given_of [] clauses = []
given_of (m ∷ marks) [] = []
given_of (true ∷ marks) (c ∷ clauses) = c ∷ given_of marks clauses
given_of (false ∷ marks) (c ∷ clauses) = given_of marks clauses

-- those whose mark is false
abbrev pub added_of : List Bool → List (List Lit) → List (List Lit)
added_of [] clauses = []
added_of (m ∷ marks) [] = []
added_of (true ∷ marks) (c ∷ clauses) = added_of marks clauses
added_of (false ∷ marks) (c ∷ clauses) = c ∷ added_of marks clauses

-- What a `Checked` keeps true of its fields: each clause has a mark, those that weren't given follow from the given ones
-- and each other in order, their variables have a place, and so does each variable's value; the clauses alone make the
-- root's literals true.
pub record IsSound (vars : ℕ) (marks : List Bool) (clauses : List (List Lit)) (root values : List (Option Bool)) : Type 0 where
  pub marked : length marks ≡ length clauses
  pub places : length values ≡ vars
  pub root_places : length root ≡ vars
  pub within : AreWithin vars clauses
  pub derived : IsDerivation (given_of marks clauses) (added_of marks clauses)
  pub implied : AreImplied clauses root

-- the room that is counted is there, for the clauses and for their marks
pub record HasRoom (room for_clauses for_marks : ℕ) : Type 0 where
  pub clauses : room ≤ for_clauses
  pub marks : room ≤ for_marks
