use Rattle.std.proofs.Common.{◌≡◌, ◌++◌, ◌+◌, drop, flat_map, codes}
use Rattle.up_report.specs.ClauseTexts.{binder_texts}
use Rattle.up_report.proofs.clause_writing.push_more_binders.Given as goal

abbrev pub invariant-each : goal.invariant-each
invariant-each l =
    l.into.items ++ flat_map (λ u. codes ", " ++ u) (binder_texts l.names (l.i + 1) (drop l.i l.sorts)) ≡ l.fn.into.items ++ flat_map (λ u. codes ", " ++ u) (binder_texts l.names 1 l.sorts)
