-- Threads may send one another events, and share them, since they may those of which events are made.
use denote.Param.Send.{IsSend, IsSync, sendable}
use denote.Param.SendFields.{as_row_send, as_row_sync, variants_send, variants_sync}
use denote.Hole.{as_row}
use denote.Struct.Field.{u32-field}
use Rattle.std.proofs.Crossing.{crosses}
use Rattle.fo_core.proofs.boxed.Boxed.TheSendSync as boxed
use Rattle.fo_core.proofs.formula.Formula.TheLaws.TheKnot as formula
use Rattle.fo_core.proofs.seq.Seq.TheSendSync as seq
use Rattle.fo_core.proofs.term.Term.TheLaws.TheKnot as term
use Rattle.fo_min.specs.contracts.found.Excess as Excess
use Rattle.up_machine.specs.contracts.end.End as End
use Rattle.up_machine.specs.contracts.event.Event.{enum, the_row}
use Rattle.fo_core.specs.contracts.world.World.{the_field as world}
use Rattle.fo_core.proofs.world.World.TheSendSync.{the_field_send as world_sends, the_field_sync as world_syncs}
use Rattle.up_diagram.specs.contracts.cube.Cube.{the_field as cube}
use Rattle.up_diagram.proofs.cube.Cube.TheSendSync.{the_field_send as cube_sends, the_field_sync as cube_syncs}
use Rattle.up_claims.specs.contracts.kind.Kind.{the_field as kind}
use Rattle.up_claims.proofs.kind.Kind.TheSendSync.{the_field_send as kind_sends, the_field_sync as kind_syncs}
use Rattle.up_machine.specs.contracts.job.Job.{the_field as job}
use Rattle.up_machine.proofs.job.Job.TheSendSync.{the_field_send as job_sends, the_field_sync as job_syncs}
use Rattle.up_machine.specs.contracts.event.Why.{the_field as why}
use Rattle.up_machine.proofs.event.Why.TheSendSync.{the_field_send as why_sends, the_field_sync as why_syncs}
use Rattle.up_machine.specs.contracts.event.Origin.{the_field as origin}
use Rattle.up_machine.proofs.event.Origin.TheSendSync.{the_field_send as origin_sends, the_field_sync as origin_syncs}

-- what events hold, as their parts
number_send : IsSend (as_row u32-field)
number_send = search (sendable, as_row_send)

number_sync : IsSync (as_row u32-field)
number_sync = search (sendable, as_row_sync)

world_send : IsSend (as_row world)
world_send = as_row_send world world_sends

world_sync : IsSync (as_row world)
world_sync = as_row_sync world world_syncs

cube_send : IsSend (as_row cube)
cube_send = as_row_send cube cube_sends

cube_sync : IsSync (as_row cube)
cube_sync = as_row_sync cube cube_syncs

kind_send : IsSend (as_row kind)
kind_send = as_row_send kind kind_sends

kind_sync : IsSync (as_row kind)
kind_sync = as_row_sync kind kind_syncs

job_send : IsSend (as_row job)
job_send = as_row_send job job_sends

job_sync : IsSync (as_row job)
job_sync = as_row_sync job job_syncs

why_send : IsSend (as_row why)
why_send = as_row_send why why_sends

why_sync : IsSync (as_row why)
why_sync = as_row_sync why why_syncs

origin_send : IsSend (as_row origin)
origin_send = as_row_send origin origin_sends

origin_sync : IsSync (as_row origin)
origin_sync = as_row_sync origin origin_syncs

excess_send : IsSend (as_row Excess.the_field)
excess_send = search (sendable, crosses, formula.crosses, term.crosses, seq.the_send, boxed.the_send) depth 20

excess_sync : IsSync (as_row Excess.the_field)
excess_sync = search (sendable, crosses, formula.crosses, term.crosses, seq.the_sync, boxed.the_sync) depth 20

-- variant by variant
end_send : IsSend (as_row End.the_field)
end_send = variants_send End.enum ((number_send, tt), ((world_send, tt), (tt, (tt, (tt, ((kind_send, (excess_send, tt)), tt))))))

end_sync : IsSync (as_row End.the_field)
end_sync = variants_sync End.enum ((number_sync, tt), ((world_sync, tt), (tt, (tt, (tt, ((kind_sync, (excess_sync, tt)), tt))))))

pub event_send : IsSend the_row
event_send = variants_send enum ((number_send, (world_send, tt)), ((number_send, (job_send, tt)), ((number_send, (why_send, tt)), ((number_send, (cube_send, tt)), ((number_send, (origin_send, tt)), ((number_send, (number_send, tt)), ((number_send, tt), ((number_send, (world_send, tt)), ((number_send, tt), ((number_send, tt), ((number_send, (end_send, tt)), ((number_send, (number_send, (number_send, tt))), tt))))))))))))

pub event_sync : IsSync the_row
event_sync = variants_sync enum ((number_sync, (world_sync, tt)), ((number_sync, (job_sync, tt)), ((number_sync, (why_sync, tt)), ((number_sync, (cube_sync, tt)), ((number_sync, (origin_sync, tt)), ((number_sync, (number_sync, tt)), ((number_sync, tt), ((number_sync, (world_sync, tt)), ((number_sync, tt), ((number_sync, tt), ((number_sync, (end_sync, tt)), ((number_sync, (number_sync, (number_sync, tt))), tt))))))))))))
