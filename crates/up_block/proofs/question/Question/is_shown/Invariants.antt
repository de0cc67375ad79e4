use Rattle.std.proofs.Common.{◌≡◌}
use Rattle.up_block.proofs.question.Question.is_shown.Given as goal

-- there is as much room as before
abbrev pub invariant-each : goal.invariant-each
invariant-each l = record { room : l.picks ≡ l.fn.picks }
