use Rattle.std.proofs.Common.{◌≡◌}
use Rattle.prop_cdcl.proofs.offers.offer.Given as goal

abbrev pub invariant-loop-at : goal.invariant-loop-at
invariant-loop-at l = record {
  vars : l.checked.vars ≡ l.initial.checked.vars;
  given : l.checked.given ≡ l.initial.checked.given;
}
