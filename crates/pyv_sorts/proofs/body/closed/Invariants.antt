use Rattle.std.proofs.Common.{◌≡◌, ◌-◌, drop, length}
use Rattle.pyv_meaning.specs.Builds.{closed_over}
use Rattle.pyv_meaning.specs.Tree.{Universal}
use Rattle.pyv_sorts.specs.Inferring.{sort_in}
use Rattle.pyv_sorts.specs.Placing.{names_in}
use Rattle.pyv_sorts.proofs.body.closed.Given as goal

abbrev pub invariant-each : goal.invariant-each
invariant-each l = l.formula ≡ closed_over (sort_in l.sorts) Universal (names_in (drop (length l.variables - l.k) l.variables)) l.fn.body
