-- Threads may share a system, an order and a turnstile of machines, and send one another its passes.
use denote.Param.Send.{IsSend, IsSync, sendable}
use Rattle.std.proofs.Crossing.{crosses}
use Rattle.fo_core.proofs.boxed.Boxed.TheSendSync as boxed
use Rattle.fo_core.proofs.formula.Formula.TheLaws.TheKnot as formula
use Rattle.fo_core.proofs.order.Order.TheSendSync as order
use Rattle.fo_core.proofs.seq.Seq.TheSendSync as seq
use Rattle.fo_core.proofs.signature.Sig.TheSendSync as sig
use Rattle.fo_core.proofs.term.Term.TheLaws.TheKnot as term
use Rattle.fo_core.specs.contracts.system.System as System
use Rattle.fo_core.specs.contracts.order.Order as Order
use Rattle.up_core.proofs.Crossing.{inside_send}
use Rattle.up_core.specs.contracts.kept.Core as Core
use Rattle.up_core.specs.contracts.kept_value.Basis as Basis
use Rattle.up_machine.specs.contracts.event.Event as Event
use Rattle.up_core.specs.contracts.kept_value.CoreKeptValue.TheImpl as kept
use Rattle.turnstile.specs.contracts.turnstile.Turnstile as Turnstile
use Rattle.turnstile.specs.contracts.pass.Pass as Pass
use Rattle.turnstile.proofs.pass.Pass.TheSendSync as pass
use Rattle.turnstile.proofs.turnstile.Turnstile.TheSendSync as turnstile

pub system_sync : IsSync System.the_row
system_sync = search (sendable, crosses, formula.crosses, term.crosses, boxed.the_sync, seq.the_sync, sig.the_field_sync) depth 20

pub order_sync : IsSync Order.the_row
order_sync = search (sendable, crosses, order.the_sync) depth 20

pub core_send : IsSend Core.the_row
core_send = search (sendable, inside_send)

pub turnstile_sync : IsSync (Turnstile.the_row Core.the_row Basis.the_row Event.the_row kept.ghosts)
turnstile_sync = search (sendable, crosses, core_send, turnstile.the_sync) depth 20

pub pass_send : IsSend (Pass.the_row Core.the_row Basis.the_row Event.the_row kept.ghosts)
pass_send = search (sendable, crosses, core_send, pass.the_send) depth 20
