use denote.Param.Send.{sendable}
use Rattle.std.proofs.Common.{◌∙◌}
use Rattle.up_core.proofs.Crossing.{inside_send}
use Rattle.up_visits.proofs.Leaving.{left_idle, left_last, left_visit}
use Rattle.up_machine.specs.declared.event.Why.TheVariants as Y
use Rattle.up_visits.proofs.Acting.{put_acted, put_idle}
use Rattle.up_visits.proofs.giving_up.give_up.Goals as goal

pub first-worker-requires-send-S : goal.first-worker-requires-send-S
first-worker-requires-send-S g c κs = search (sendable, inside_send)

pub enter-core-requires-send-S : goal.enter-core-requires-send-S
enter-core-requires-send-S g c κs = search (sendable, inside_send)

pub leave-requires-send-S : goal.leave-requires-send-S
leave-requires-send-S g c κs = search (sendable, inside_send)

pub returns-clause-visit : goal.returns-clause-visit
returns-clause-visit g c =
    left_visit c.args.shared.now c.args.pass.now c.enter-core.result c.put_back.new.core c.first-worker.result c.enter-core.ensures.base c.enter-core.ensures.goes_on c.requires.ready.one c.first-worker.ensures.least
    (put_acted c.enter-core.result c.put_back.new.core c.first-worker.result Y.NoMemory c.put_back.ensures)
    c.leave.new.pass (c.leave.ensures.numbers.0 ∙ c.enter-core.ensures.numbers.0, c.leave.ensures.numbers.1 ∙ c.enter-core.ensures.numbers.1) c.leave.ensures.seen

pub returns-clause-last : goal.returns-clause-last
returns-clause-last g c =
    left_last c.args.shared.now c.args.pass.now c.enter-core.result c.put_back.new.core c.first-worker.result c.enter-core.ensures.base c.enter-core.ensures.goes_on c.requires.ready.one c.first-worker.ensures.least
    (put_acted c.enter-core.result c.put_back.new.core c.first-worker.result Y.NoMemory c.put_back.ensures)
    c.leave.new.pass (c.leave.ensures.numbers.0 ∙ c.enter-core.ensures.numbers.0, c.leave.ensures.numbers.1 ∙ c.enter-core.ensures.numbers.1) c.leave.ensures.seen
    c.requires.none

pub returns-clause-idle : goal.returns-clause-idle
returns-clause-idle g c =
    left_idle c.args.shared.now c.args.pass.now c.enter-core.result c.put_back.new.core c.first-worker.result c.enter-core.ensures.base c.enter-core.ensures.goes_on c.requires.ready.one c.first-worker.ensures.least
    (put_acted c.enter-core.result c.put_back.new.core c.first-worker.result Y.NoMemory c.put_back.ensures)
    c.leave.new.pass (c.leave.ensures.numbers.0 ∙ c.enter-core.ensures.numbers.0, c.leave.ensures.numbers.1 ∙ c.enter-core.ensures.numbers.1) c.leave.ensures.seen
    (put_idle c.enter-core.result c.put_back.new.core c.first-worker.result Y.NoMemory c.put_back.ensures)
