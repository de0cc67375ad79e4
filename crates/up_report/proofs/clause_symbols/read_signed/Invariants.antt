use Rattle.std.proofs.Common.{length}
use Rattle.up_report.specs.ClauseReading.{head_text, symbol_heads}
use Rattle.up_report.proofs.ClauseOptions.{BlocksTried}
use Rattle.up_report.proofs.clause_symbols.read_signed.Given as goal

abbrev pub invariant-each : goal.invariant-each
invariant-each l = BlocksTried (head_text l.sig l.names) (symbol_heads l.sig l.sorts l.sign) (length l.sig.symbols) l.bytes l.k l.least
