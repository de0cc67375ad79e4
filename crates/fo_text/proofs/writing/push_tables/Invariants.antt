use Rattle.std.proofs.Common.{◌≡◌, ◌++◌, drop}
use Rattle.fo_text.specs.Texts.{table_lines}
use Rattle.fo_text.proofs.writing.push_tables.Given as goal

abbrev pub invariant-each : goal.invariant-each
invariant-each l = l.into.items ++ table_lines (drop l.i l.names) (drop l.i l.tables) ≡ l.fn.into.items ++ table_lines l.names l.tables
