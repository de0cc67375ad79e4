use Rattle.std.proofs.Common.{◌≡◌}
use Rattle.up_core.specs.Covering.{CanGoFor}
use Rattle.up_core.specs.Places.{is_live}
use Rattle.up_core.proofs.Placed.{NoneBefore}
use Rattle.up_core.proofs.covering.first_by.Given as goal

-- the clause may go for no live one before this one
abbrev pub invariant-each : goal.invariant-each
invariant-each l = record {
  none : NoneBefore is_live l.clauses.items (λ b e. CanGoFor l.history l.gone (record { number = b; entry = e })) (λ b e r. r.covering.by_live) l.at;
  room : l.picks ≡ l.fn.picks;
}
