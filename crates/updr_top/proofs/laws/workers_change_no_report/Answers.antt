use Rattle.updr_top.proofs.OneVerdict.{one_report}
use Rattle.updr_top.proofs.laws.workers_change_no_report.Goals as goal

pub returns : goal.returns
returns c = one_report
