use Rattle.std.proofs.Common.{◌≡◌}
use Rattle.turnstile.specs.Place.{IsSameSeat}
use Rattle.turnstile.proofs.steps.win.Given as goal

abbrev pub invariant-loop : goal.invariant-loop
invariant-loop g l = IsSameSeat l.fn.place l.place × (l.place.me ≡ l.fn.place.me)
