use denote.Param.Send.{sendable}
use Rattle.std.proofs.Crossing.{crosses}
use Rattle.turnstile.proofs.pass.Pass.TheSendSync as pass
use Rattle.up_free.proofs.Crossing.{core_send}
use Rattle.up_free.proofs.threads.passes_cross_threads.Goals as goal

pub is_sent-requires-send-T : goal.is_sent-requires-send-T
is_sent-requires-send-T c κs = search (sendable, crosses, core_send, pass.the_send) depth 20
