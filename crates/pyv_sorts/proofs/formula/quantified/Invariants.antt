use Rattle.std.proofs.Common.{◌≡◌, ◌-◌, drop, length}
use Rattle.pyv_meaning.specs.Builds.{closed_over}
use Rattle.pyv_meaning.specs.Tree.{bound_names}
use Rattle.pyv_meaning.specs.View.{binders_of}
use Rattle.pyv_sorts.specs.Building.{quantifier_of}
use Rattle.pyv_sorts.specs.Inferring.{sort_in}
use Rattle.pyv_sorts.proofs.formula.quantified.Given as goal

abbrev pub invariant-each : goal.invariant-each
invariant-each l = l.formula ≡ closed_over (sort_in l.sorts) (quantifier_of l.universal) (bound_names (binders_of l.known.bytes (drop (length l.bounds - l.k) l.bounds))) l.fn.body
