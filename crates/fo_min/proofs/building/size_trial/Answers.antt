use Rattle.fo_min.proofs.BuildingLemmas.{size-trial}
use Rattle.fo_min.proofs.building.size_trial.Goals as goal

pub returns : goal.returns
returns c = size-trial c.args.q.now c.args.sizes.now c.in_ok-covers.field-0 c.with_claim.result c.in_ok-covers.ensures c.with_claim.ensures.copies c.with_claim.ensures.claims
