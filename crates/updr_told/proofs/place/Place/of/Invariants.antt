use Rattle.updr_told.proofs.Walking.{Walked}
use Rattle.updr_told.proofs.place.Place.of.Given as goal

abbrev pub invariant-each : goal.invariant-each
invariant-each l = Walked l.before l.byte-index l.line l.column
