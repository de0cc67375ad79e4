-- Quantifiers.
use Rattle.std.specs.Prelude.{Bool, true, false}
use Rattle.pyv_meaning.specs.Tree.{Quantifier, Universal, Existential}

abbrev pub quantifier_of : Bool → Quantifier
quantifier_of true = Universal
quantifier_of false = Existential
