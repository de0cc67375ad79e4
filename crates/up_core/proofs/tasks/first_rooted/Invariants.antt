use Rattle.std.proofs.Common.{◌≡◌, true}
use Rattle.up_core.specs.Choice.{is_rooted}
use Rattle.up_core.specs.Places.{is_unfinished}
use Rattle.up_core.proofs.OpenChosen.{rooted-unfinished}
use Rattle.up_core.proofs.Placed.{NoneBefore}
use Rattle.up_core.proofs.tasks.first_rooted.Given as goal

-- none of those that aren't done before this one is rooted
abbrev pub invariant-each : goal.invariant-each
invariant-each l = NoneBefore is_unfinished l.obligations.items (λ _ e. is_rooted e.progress ≡ true) rooted-unfinished l.at
