use Rattle.std.proofs.Common.{◌≡◌, ◌-◌}
use Rattle.fo_text.specs.Reading.{reaches, begins_some}
use Rattle.fo_text.proofs.parts.begins_one.Given as goal

-- what is still to be tried decides
abbrev pub invariant-each : goal.invariant-each
invariant-each l = reaches (l.lengths - l.step) l.least l.most l.low l.high ≡ begins_some l.least l.most l.number
