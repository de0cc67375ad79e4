use Rattle.std.proofs.Common.{◌≡◌}
use Rattle.up_core.specs.Lapsing.{IsLapsed}
use Rattle.up_core.specs.Mirror.{Pairs}
use Rattle.up_core.specs.Places.{is_live}
use Rattle.up_core.proofs.Parts.{IsPart}
use Rattle.up_core.proofs.Placed.{next_of}
use Rattle.up_core.proofs.lapsing.lapse_all.Given as goal

-- the entries before the next live one have lapsed where they are hit, and the others are as they
-- were
abbrev pub invariant-each : goal.invariant-each
invariant-each l = record {
  lapsed : Pairs l.fn.entries l.entries (IsPart (IsLapsed l.lapse.history.now l.lapse.sig.now l.lapse.cube.now l.lapse.low l.lapse.high) (next_of is_live l.fn.entries l.k-index));
  room : l.picks ≡ l.fn.picks;
}
