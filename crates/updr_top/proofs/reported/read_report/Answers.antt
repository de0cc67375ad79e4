use Rattle.std.proofs.Common.{sym}
use Rattle.updr_top.proofs.reported.read_report.Goals as goal

pub returns-in-Ok-clause-found : goal.returns-in-Ok-clause-found
returns-in-Ok-clause-found c = record { is = c.in-Ok.ensures.found; only = λ other is. sym (c.in-Ok.ensures.only other is) }
