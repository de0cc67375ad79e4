use Rattle.std.proofs.Common.{◌≡◌, drop}
use Rattle.std.specs.Prelude.{max}
use Rattle.up_diagram.specs.Trying.{most}
use Rattle.up_diagram.proofs.meeting.most_of.Given as goal

-- with those from this one on it is the bound of all
abbrev pub invariant-each : goal.invariant-each
invariant-each l = max l.bound (most (drop l.v-index l.variables)) ≡ most l.variables
