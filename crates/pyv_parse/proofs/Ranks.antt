-- How far a connective's operands are from the tightest expressions.
use Rattle.std.proofs.Common.{ℕ}
use Rattle.pyv_parse.specs.declared.members.Connective.{Connective}
use Rattle.pyv_parse.specs.declared.members.Connective.TheVariants as connective

abbrev pub rank : Connective → ℕ
rank connective.And = 0
rank connective.Or = 3
