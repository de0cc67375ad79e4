-- Threads may send one another what a machine keeps, and share it.
use denote.Param.Send.{IsSend, IsSync, sendable}
use denote.Param.SendFields.{declared_send, declared_sync}
use Rattle.std.proofs.Crossing.{crosses}
use Rattle.fo_core.proofs.boxed.Boxed.TheSendSync as boxed
use Rattle.fo_core.proofs.formula.Formula.TheLaws.TheKnot as formula
use Rattle.fo_core.proofs.order.Order.TheSendSync as order
use Rattle.fo_core.proofs.seq.Seq.TheSendSync as seq
use Rattle.fo_core.proofs.signature.Sig.TheSendSync as sig
use Rattle.fo_core.proofs.term.Term.TheLaws.TheKnot as term
use Rattle.up_diagram.proofs.picks.Picks.TheSendSync as picks
use Rattle.up_machine.proofs.Crossing.{event_send, event_sync}
use Rattle.up_core.proofs.state.State.TheSendSync as state
use Rattle.up_core.specs.contracts.kept.Core.TheInside.{the_type, the_row}

-- field by field: the system, the order, the limits, the history, the numbers, the room, the picks
pub inside_send : IsSend the_row
inside_send =
    declared_send the_type (
      search (sendable, crosses, formula.crosses, term.crosses, boxed.the_send, seq.the_send, sig.the_field_send) depth 20,
      (
        search (sendable, crosses, order.the_send) depth 20,
        (
          search sendable depth 20,
          (
            search (sendable, crosses, event_send) depth 20,
            (
              search (sendable, state.the_send) depth 20,
              (search sendable depth 20, (search (sendable, picks.the_send) depth 20, (search sendable depth 20, (search sendable depth 20, tt)))),
            ),
          ),
        ),
      ),
    )

pub inside_sync : IsSync the_row
inside_sync =
    declared_sync the_type (
      search (sendable, crosses, formula.crosses, term.crosses, boxed.the_sync, seq.the_sync, sig.the_field_sync) depth 20,
      (
        search (sendable, crosses, order.the_sync) depth 20,
        (
          search sendable depth 20,
          (
            search (sendable, crosses, event_sync) depth 20,
            (
              search (sendable, state.the_sync) depth 20,
              (search sendable depth 20, (search (sendable, picks.the_sync) depth 20, (search sendable depth 20, (search sendable depth 20, tt)))),
            ),
          ),
        ),
      ),
    )
