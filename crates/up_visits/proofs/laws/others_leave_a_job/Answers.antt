use Rattle.up_visits.proofs.OthersEvents.{still_held}
use Rattle.up_visits.proofs.laws.others_leave_a_job.Goals as goal

pub returns : goal.returns
returns c = still_held
