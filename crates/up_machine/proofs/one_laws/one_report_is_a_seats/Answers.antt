use Rattle.up_machine.proofs.OneReport.{report_once}
use Rattle.up_machine.proofs.one_laws.one_report_is_a_seats.Goals as goal

pub returns : goal.returns
returns c = report_once
