use denote.Param.Send.{sendable}
use Rattle.up_machine.proofs.Crossing.{event_send, event_sync}
use Rattle.up_machine.proofs.threads.events_cross_threads.Goals as goal

pub crosses_threads-requires-2-send-T : goal.crosses_threads-requires-2-send-T
crosses_threads-requires-2-send-T c κs = search (sendable, event_send)

pub crosses_threads-requires-2-sync-T : goal.crosses_threads-requires-2-sync-T
crosses_threads-requires-2-sync-T c κs = search (sendable, event_sync)
