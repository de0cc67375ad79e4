use Rattle.up_seats.proofs.Reporting.{holder}
use Rattle.up_rounds.proofs.rest_laws.only_seats_with_jobs_report.Goals as goal

pub returns : goal.returns
returns c = holder
