use Rattle.std.proofs.Common.{ap}
use Rattle.prop_check.specs.Kept.{Kept}
use Rattle.prop_plain.proofs.Paths.{offer_within}
use Rattle.prop_plain.proofs.search.offer.Goals as goal

pub add-requires-clause-within : goal.add-requires-clause-within
add-requires-clause-within c =
    offer_within _ _ _ _ c.requires.within (ap (λ (k : Kept). k.vars) c.reserve.ensures.same) c.in_ok-clause.ensures
