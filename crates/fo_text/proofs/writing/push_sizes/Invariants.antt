use Rattle.std.proofs.Common.{◌≡◌, ◌++◌, drop}
use Rattle.fo_text.specs.Texts.{sort_lines}
use Rattle.fo_text.proofs.writing.push_sizes.Given as goal

abbrev pub invariant-each : goal.invariant-each
invariant-each l = l.into.items ++ sort_lines (drop l.i l.names) (drop l.i l.sizes) ≡ l.fn.into.items ++ sort_lines l.names l.sizes
