use Rattle.std.proofs.Common.{◌≡◌, ◌++◌, drop, flat_map, codes}
use Rattle.up_report.specs.ClauseTexts.{variable_text}
use Rattle.up_report.proofs.clause_writing.push_more_variables.Given as goal

abbrev pub invariant-each : goal.invariant-each
invariant-each l =
    l.into.items ++ flat_map (λ v. codes ", " ++ variable_text v) (drop l.v-index l.variables) ≡ l.fn.into.items ++ flat_map (λ v. codes ", " ++ variable_text v) l.variables
