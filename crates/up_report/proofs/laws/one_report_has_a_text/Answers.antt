use Rattle.up_report.proofs.ReadReports.{one_report}
use Rattle.up_report.proofs.laws.one_report_has_a_text.Goals as goal

pub returns : goal.returns
returns c = λ sig names bytes r s is_sig can h k. one_report sig names is_sig can bytes r s h k
