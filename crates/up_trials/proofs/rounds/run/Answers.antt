use denote.Param.Send.{sendable}
use Rattle.fo_solve.proofs.Crossing.{engine_send}
use Rattle.up_trials.proofs.rounds.run.Goals as goal

pub infer_rounds-requires-send-M-One : goal.infer_rounds-requires-send-M-One
infer_rounds-requires-send-M-One g c κs within = search (sendable, engine_send)
