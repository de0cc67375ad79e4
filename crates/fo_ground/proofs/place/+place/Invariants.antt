use Rattle.std.proofs.Common.{◌≡◌, map, take}
use Rattle.fo_ground.specs.Instances.{place_of}
use Rattle.fo_ground.specs.Layout.{slot}
use Rattle.fo_ground.proofs.place.+place.Given as goal

abbrev pub invariant-places-each : goal.invariant-places-each
invariant-places-each l = l.places.items ≡ map (λ t. place_of l.u.terms (slot l.u l.lay) t l.env) (take l.t-index l.ts)
