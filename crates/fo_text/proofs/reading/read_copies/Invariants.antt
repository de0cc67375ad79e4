use Rattle.std.proofs.Common.{◌≡◌, ◌-◌}
use Rattle.fo_text.specs.Reading.{copies_at}
use Rattle.fo_text.proofs.Loops.{with_front}
use Rattle.fo_text.proofs.reading.read_copies.Given as goal

abbrev pub invariant-each : goal.invariant-each
invariant-each l = with_front l.copies (copies_at l.lines (l.count - l.k) l.k l.rest) ≡ copies_at l.lines l.count 0 l.bytes
