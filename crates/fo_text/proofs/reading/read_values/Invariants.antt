use Rattle.std.proofs.Common.{◌≡◌, ◌-◌}
use Rattle.fo_text.specs.Reading.{values_at}
use Rattle.fo_text.proofs.Loops.{with_front}
use Rattle.fo_text.proofs.reading.read_values.Given as goal

abbrev pub invariant-each : goal.invariant-each
invariant-each l = with_front l.values (values_at (l.entries - l.i) l.most l.rest) ≡ values_at l.entries l.most l.bytes
