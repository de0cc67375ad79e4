use denote.Param.Send.{sendable}
use Rattle.std.proofs.Common.{◌∙◌}
use Rattle.up_core.proofs.Crossing.{inside_send}
use Rattle.up_visits.proofs.Leaving.{left_visit}
use Rattle.up_visits.proofs.reporting.report_back.Goals as goal

pub first-worker-requires-send-S : goal.first-worker-requires-send-S
first-worker-requires-send-S g c κs = search (sendable, inside_send)

pub enter-core-requires-send-S : goal.enter-core-requires-send-S
enter-core-requires-send-S g c κs = search (sendable, inside_send)

pub leave-requires-send-S : goal.leave-requires-send-S
leave-requires-send-S g c κs = search (sendable, inside_send)

pub returns-clause-visit : goal.returns-clause-visit
returns-clause-visit g c =
    left_visit c.args.shared.now c.args.pass.now c.enter-core.result c.report_or_return.new.core c.first-worker.result c.enter-core.ensures.base c.enter-core.ensures.goes_on c.requires.ready.one c.first-worker.ensures.least
    c.report_or_return.ensures.acted.acted
    c.leave.new.pass (c.leave.ensures.numbers.0 ∙ c.enter-core.ensures.numbers.0, c.leave.ensures.numbers.1 ∙ c.enter-core.ensures.numbers.1) c.leave.ensures.seen
