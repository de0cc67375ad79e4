use Rattle.up_seats.proofs.Reporting.{free_reports}
use Rattle.up_rounds.proofs.rest_laws.reports_cost_nothing_once_steps_are_spent.Goals as goal

pub returns : goal.returns
returns c = free_reports
