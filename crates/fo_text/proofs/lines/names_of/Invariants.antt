use Rattle.std.proofs.Common.{◌≡◌, ◌++◌, drop}
use Rattle.fo_text.specs.Texts.{names_like}
use Rattle.fo_text.proofs.lines.names_of.Given as goal

abbrev pub invariant-each : goal.invariant-each
invariant-each l = l.some ++ names_like l.mutable (drop l.i l.symbols) (drop l.i l.names) ≡ names_like l.mutable l.symbols l.names
