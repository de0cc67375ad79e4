use Rattle.std.proofs.Common.{◌≡◌, ◌-◌}
use Rattle.fo_text.specs.Reading.{values_at}
use Rattle.up_report.specs.Reading.{gathered}
use Rattle.up_report.proofs.link_reading.read_images.Given as goal

abbrev pub invariant-each : goal.invariant-each
invariant-each l = gathered l.images (values_at (l.count - l.i) l.most l.rest) ≡ values_at l.count l.most l.bytes
