use denote.Param.Send.{sendable}
use Rattle.up_core.proofs.Crossing.{inside_send, inside_sync}
use Rattle.up_core.proofs.threads.machines_cross_threads.Goals as goal

pub crosses_threads-requires-send-T : goal.crosses_threads-requires-send-T
crosses_threads-requires-send-T c κs = search (sendable, inside_send)

pub crosses_threads-requires-sync-T : goal.crosses_threads-requires-sync-T
crosses_threads-requires-sync-T c κs = search (sendable, inside_sync)
