use Rattle.std.proofs.Common.{◌≡◌, ◌++◌, drop}
use Rattle.up_report.specs.Texts.{map_lines}
use Rattle.up_report.proofs.writing.push_maps.Given as goal

abbrev pub invariant-each : goal.invariant-each
invariant-each l = l.into.items ++ map_lines (drop l.i l.names) (drop l.i l.maps) ≡ l.fn.into.items ++ map_lines l.names l.maps
