-- Literals, and claims that some elements meet several formulas at once.
use Rattle.std.specs.Prelude.{ℕ, ◌≤◌, ◌==◌, List, ⊤}
use Rattle.std.specs.List.{count_by}
use Rattle.fo_core.specs.declared.formula.Formula.{Formula, Rel, Eq, Not', more_of-Formula}
use Rattle.fo_core.specs.declared.formula.Formula.TheVariants as F
use Rattle.fo_core.specs.Over.{some_over}

-- an atom: a relation or an equation
abbrev pub IsAtom : Formula → Type 0
IsAtom (Rel r d args) = ⊤
IsAtom (Eq a b) = ⊤
IsAtom _ = ⊥

-- a literal: an atom, or the negation of one
abbrev pub IsLiteral : Formula → Type 0
IsLiteral (Not' _ (more_of-Formula f _)) = IsAtom f
IsLiteral f = IsAtom f

-- some elements of these sorts meet all these formulas
abbrev pub cube_claim : List ℕ → List Formula → Formula
cube_claim ss fs = some_over ss (F.And fs)

-- how often a number stands in a list
abbrev pub occurrences : ℕ → List ℕ → ℕ
occurrences n ns = count_by (λ m. m == n) ns

-- each number stands in the first list at most as often as in the second
abbrev pub IsSubMultiset : List ℕ → List ℕ → Type 0
IsSubMultiset ms ns = (n : ℕ) → occurrences n ms ≤ occurrences n ns
