use Rattle.up_jobs.proofs.Givens.{can-solve}
use Rattle.up_jobs.proofs.given_laws.what_fits_can_be_solved.Goals as goal

pub returns : goal.returns
returns c = can-solve
