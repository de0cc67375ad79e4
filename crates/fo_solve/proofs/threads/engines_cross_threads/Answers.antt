use denote.Param.Send.{sendable}
use Rattle.fo_solve.proofs.Crossing.{engine_send}
use Rattle.fo_solve.proofs.threads.engines_cross_threads.Goals as goal

pub crosses_threads-requires-send-T : goal.crosses_threads-requires-send-T
crosses_threads-requires-send-T c κs = search (sendable, engine_send)
