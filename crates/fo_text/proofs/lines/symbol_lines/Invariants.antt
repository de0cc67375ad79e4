use Rattle.std.proofs.Common.{◌≡◌, ◌++◌, drop, map}
use Rattle.fo_text.specs.Reading.{lines_of, cut}
use Rattle.fo_text.proofs.lines.symbol_lines.Given as goal

abbrev pub invariant-each : goal.invariant-each
invariant-each l = l.lines ++ map cut (lines_of l.sizes l.mutable (drop l.i l.symbols) (drop l.i l.names)) ≡ map cut (lines_of l.sizes l.mutable l.symbols l.names)
