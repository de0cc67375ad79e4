use denote.Param.Send.{sendable}
use Rattle.std.proofs.Crossing.{crosses}
use Rattle.turnstile.proofs.turnstile.Turnstile.TheSendSync as turnstile
use Rattle.up_free.proofs.Crossing.{core_send}
use Rattle.up_free.proofs.threads.turnstiles_cross_threads.Goals as goal

pub is_shared-requires-sync-T : goal.is_shared-requires-sync-T
is_shared-requires-sync-T c κs = search (sendable, crosses, core_send, turnstile.the_sync) depth 20
