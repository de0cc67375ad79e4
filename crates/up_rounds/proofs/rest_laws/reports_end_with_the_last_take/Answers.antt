use Rattle.up_rounds.proofs.AfterJobs.{none_else}
use Rattle.up_rounds.proofs.rest_laws.reports_end_with_the_last_take.Goals as goal

pub returns : goal.returns
returns c = none_else
