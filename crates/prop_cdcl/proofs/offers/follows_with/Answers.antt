use Rattle.prop_cdcl.proofs.Asked.{within_same, implied_for}
use Rattle.prop_cdcl.proofs.offers.follows_with.Goals as goal

pub follows_by-requires : goal.follows_by-requires
follows_by-requires c = within_same _ _ _ c.requires c.in_ok-offer.ensures.vars

pub returns-clause-sound : goal.returns-clause-sound
returns-clause-sound c = λ is. implied_for _ _ _ (c.follows_by.ensures.sound is) c.in_ok-offer.ensures.given
