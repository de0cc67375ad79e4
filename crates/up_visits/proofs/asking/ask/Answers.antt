use denote.Param.Send.{sendable}
use Rattle.std.proofs.Common.{◌∙◌}
use Rattle.up_core.proofs.Crossing.{inside_send}
use Rattle.up_visits.proofs.Entering.{found_idle}
use Rattle.up_visits.proofs.Leaving.{left_told, left_visit}
use Rattle.up_visits.proofs.asking.ask.Goals as goal

pub first-worker-requires-send-S : goal.first-worker-requires-send-S
first-worker-requires-send-S g c κs = search (sendable, inside_send)

pub enter-core-requires-send-S : goal.enter-core-requires-send-S
enter-core-requires-send-S g c κs = search (sendable, inside_send)

pub leave-requires-send-S : goal.leave-requires-send-S
leave-requires-send-S g c κs = search (sendable, inside_send)

pub returns-clause-visit : goal.returns-clause-visit
returns-clause-visit g c =
    left_visit c.args.shared.now c.args.pass.now c.enter-core.result c.do_due-asked.new.core c.first-worker.result c.enter-core.ensures.base c.enter-core.ensures.goes_on c.requires.ready.one c.first-worker.ensures.least
    c.do_due-asked.ensures.acted.acted
    c.leave.new.pass (c.leave.ensures.numbers.0 ∙ c.enter-core.ensures.numbers.0, c.leave.ensures.numbers.1 ∙ c.enter-core.ensures.numbers.1) c.leave.ensures.seen

pub returns-clause-told : goal.returns-clause-told
returns-clause-told g c =
    left_told c.args.shared.now c.args.pass.now c.enter-core.result c.do_due-asked.new.core c.first-worker.result c.enter-core.ensures.base c.enter-core.ensures.goes_on c.requires.ready.one c.first-worker.ensures.least
    c.do_due-asked.ensures.acted.acted
    c.leave.new.pass (c.leave.ensures.numbers.0 ∙ c.enter-core.ensures.numbers.0, c.leave.ensures.numbers.1 ∙ c.enter-core.ensures.numbers.1) c.leave.ensures.seen
    c.do_due-asked.result c.do_due-asked.ensures.told

pub do_due-asked-requires : goal.do_due-asked-requires
do_due-asked-requires g c =
    record { idle = found_idle c.args.shared.now c.args.pass.now c.enter-core.result c.first-worker.result c.enter-core.ensures.base c.enter-core.ensures.goes_on c.requires.ready.one c.first-worker.ensures.least c.requires.idle }
