use Rattle.std.proofs.Common.{◌≡◌, ◌++◌, drop, flat_map, codes}
use Rattle.up_report.specs.ClauseTexts.{denial_text}
use Rattle.up_report.proofs.clause_writing.push_more_denials.Given as goal

abbrev pub invariant-each : goal.invariant-each
invariant-each l =
    l.into.items ++ flat_map (λ lit. codes " | " ++ denial_text l.names lit) (drop l.lit-index l.lits) ≡ l.fn.into.items ++ flat_map (λ lit. codes " | " ++ denial_text l.names lit) l.lits
