use Rattle.std.proofs.Common.{◌≡◌, drop}
use Rattle.fo_text.specs.Reading.{sizes_at}
use Rattle.fo_text.proofs.Loops.{with_front}
use Rattle.fo_text.proofs.reading.read_sizes.Given as goal

abbrev pub invariant-each : goal.invariant-each
invariant-each l = with_front l.sizes (sizes_at (drop l.name-index l.names) l.rest) ≡ sizes_at l.names l.bytes
