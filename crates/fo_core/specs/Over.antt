-- Formulas under a list of quantifiers, and the variables that these bind.
use Rattle.std.specs.Prelude.{ℕ, zero, suc, ◌+◌, List, [], ◌∷◌, ◌++◌}
use Rattle.fo_core.specs.declared.term.Term.{Term, Var}
use Rattle.fo_core.specs.declared.formula.Formula.{Formula}
use Rattle.fo_core.specs.declared.formula.Formula.TheVariants as F

-- the formula under universals of these sorts, the first of them outermost
abbrev pub all_over : List ℕ → Formula → Formula
all_over [] f = f
all_over (s ∷ ss) f = F.All s (all_over ss f)

-- the formula under existentials of these sorts, the first of them outermost
abbrev pub some_over : List ℕ → Formula → Formula
some_over [] f = f
some_over (s ∷ ss) f = F.Ex s (some_over ss f)

-- `count` variables, numbered from n on
abbrev pub variables : ℕ → ℕ → List Term
variables n zero = []
variables n (suc count) = variables n count ++ Var (n + count) ∷ []
