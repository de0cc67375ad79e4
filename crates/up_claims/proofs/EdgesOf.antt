-- Edges of formulas in lists of claims.
use Rattle.std.proofs.Common.{ℕ, true}
use Rattle.fo_core.specs.declared.formula.Formula.{Formula}
use Rattle.fo_core.specs.SortGraph.{FormulaEdge}

-- the formula has the edge
abbrev pub EdgeOf : ℕ → ℕ → Formula → Type 0
EdgeOf a b f = FormulaEdge a b f true
