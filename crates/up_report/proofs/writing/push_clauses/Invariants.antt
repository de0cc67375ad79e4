use Rattle.std.proofs.Common.{◌≡◌, ◌++◌, take}
use Rattle.up_report.specs.Texts.{clauses_text}
use Rattle.up_report.proofs.writing.push_clauses.Given as goal

abbrev pub invariant-each : goal.invariant-each
invariant-each l = l.into.items ≡ l.fn.into.items ++ clauses_text l.names (take l.kept-index l.clauses)
