use Rattle.std.proofs.Common.{[], ◌∷◌}
use Rattle.up_report.specs.declared.clause_heads.Head.TheVariants.{Equal}
use Rattle.up_report.specs.ClauseReading.{head_text}
use Rattle.up_report.proofs.ClauseOptions.{BlocksTried}
use Rattle.up_report.proofs.clause_symbols.try_equal.Given as goal

abbrev pub invariant-each : goal.invariant-each
invariant-each l = BlocksTried (head_text l.sig l.names) (λ i. Equal i ∷ []) l.count l.bytes l.v l.least
