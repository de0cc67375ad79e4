use Rattle.std.proofs.Common.{◌≡◌, drop}
use Rattle.up_report.specs.Reading.{gathered, maps_at}
use Rattle.up_report.proofs.link_reading.read_maps.Given as goal

abbrev pub invariant-each : goal.invariant-each
invariant-each l = gathered l.maps (maps_at (drop l.i l.names) (drop l.i l.from) (drop l.i l.to) l.rest) ≡ maps_at l.names l.from l.to l.bytes
