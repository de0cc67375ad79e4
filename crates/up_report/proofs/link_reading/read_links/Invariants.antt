use Rattle.std.proofs.Common.{◌≡◌, ◌-◌, ◌≤◌}
use Rattle.up_report.specs.Reading.{gathered, links_at}
use Rattle.up_report.proofs.link_reading.read_links.Given as goal

abbrev pub invariant-each : goal.invariant-each
invariant-each l = record {
  some : 1 ≤ l.copies;
  same : gathered l.links (links_at l.sig l.names (l.count - l._i) l.copies l.rest) ≡ links_at l.sig l.names l.count 1 l.bytes;
}
