use Rattle.std.proofs.Common.{◌≡◌, true}
use Rattle.up_core.specs.Choice.{is_to_push, may_rise}
use Rattle.up_core.proofs.Chosen.{push-may}
use Rattle.up_core.proofs.Placed.{NoneBefore}
use Rattle.up_core.proofs.tasks.next_push.Given as goal

-- the pushes of those before this one are out
abbrev pub invariant-each : goal.invariant-each
invariant-each l =
    NoneBefore (may_rise l.clauses.frontier) l.clauses.items (λ k e. is_to_push l.clauses.frontier l.jobs k e ≡ true) (push-may l.clauses.frontier l.jobs) l.k-index
