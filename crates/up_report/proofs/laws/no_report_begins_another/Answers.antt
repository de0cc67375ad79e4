use Rattle.up_report.proofs.ReadReports.{no_more}
use Rattle.up_report.proofs.laws.no_report_begins_another.Goals as goal

pub returns : goal.returns
returns c = λ sig names bytes more r s is_sig can h k. no_more sig names is_sig can bytes more r s h k
