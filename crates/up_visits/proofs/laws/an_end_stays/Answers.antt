use Rattle.up_visits.proofs.OthersEvents.{still_ended}
use Rattle.up_visits.proofs.laws.an_end_stays.Goals as goal

pub returns : goal.returns
returns c = still_ended
