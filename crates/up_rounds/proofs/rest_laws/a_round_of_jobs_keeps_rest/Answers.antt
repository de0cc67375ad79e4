use Rattle.up_rounds.proofs.AfterJobs.{rest_jobs}
use Rattle.up_rounds.proofs.rest_laws.a_round_of_jobs_keeps_rest.Goals as goal

pub returns : goal.returns
returns c = rest_jobs
