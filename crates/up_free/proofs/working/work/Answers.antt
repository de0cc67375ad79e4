use denote.Param.Send.{sendable}
use Rattle.up_core.proofs.Crossing.{inside_send}
use Rattle.up_free.proofs.working.work.Goals as goal

pub first-worker-requires-send-S : goal.first-worker-requires-send-S
first-worker-requires-send-S g c κs = search (sendable, inside_send)
