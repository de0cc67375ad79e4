use Rattle.std.proofs.Common.{◌≡◌, drop}
use Rattle.fo_text.specs.Reading.{tables_at}
use Rattle.fo_text.proofs.Loops.{with_front}
use Rattle.fo_text.proofs.reading.read_tables.Given as goal

abbrev pub invariant-each : goal.invariant-each
invariant-each l = with_front l.tables (tables_at (drop l.line-index l.lines) l.rest) ≡ tables_at l.lines l.bytes
