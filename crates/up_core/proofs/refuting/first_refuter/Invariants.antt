use Rattle.std.proofs.Common.{◌≡◌}
use Rattle.up_core.specs.Places.{is_live}
use Rattle.up_core.specs.Refuting.{IsRefuting}
use Rattle.up_core.proofs.Placed.{NoneBefore}
use Rattle.up_core.proofs.refuting.first_refuter.Given as goal

-- no live clause before this one refutes the state
abbrev pub invariant-each : goal.invariant-each
invariant-each l = record {
  none : NoneBefore is_live l.clauses.items (λ _ e. IsRefuting l.history l.sig l.w l.level e) (λ _ e r. r.live) l.at;
  room : l.picks ≡ l.fn.picks;
}
