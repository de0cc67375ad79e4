use denote.Param.Send.{arg_send, param_send, sendable}
use denote.Param.SendFields.{declared_send}
use mir.Syntax.{named}
use denote.Param.{param}
use denote.Exit.{no}
use denote.Ref.{ShrRef}
use denote.Struct.Field.{u32-field}
use denote.Struct.Tuple.{type_at}
use Rattle.std.proofs.Common.{◌+◌, ◌/◌, ◌∷◌, [], arith}
use Rattle.std.proofs.Crossing.{crosses}
use Rattle.turnstile.proofs.pass.Pass.TheSendSync as pass
use Rattle.up_core.proofs.Crossing.{inside_send}
use Rattle.std.specs.contracts.alloc.Global as Global
use Rattle.fo_core.specs.contracts.order.Order as Order
use Rattle.fo_core.specs.contracts.system.System as System
use Rattle.turnstile.specs.contracts.pass.Pass as Pass
use Rattle.turnstile.specs.contracts.turnstile.Turnstile as Turnstile
use Rattle.up_core.specs.contracts.kept.Core as Core
use Rattle.up_core.specs.contracts.kept_value.Basis as Basis
use Rattle.up_core.specs.contracts.kept_value.CoreKeptValue.TheImpl as kept
use Rattle.up_machine.specs.contracts.event.Event as Event
use Rattle.up_free.proofs.Crossing.{core_send, order_sync, pass_send, system_sync, turnstile_sync}
use Rattle.up_free.proofs.Spreading.{joined}
use Rattle.up_free.proofs.crew.+fn-spread-join+arg2+fn-spread-join+arg3+spread.Goals as goal

pub returns : goal.returns
returns g t c =
    let s = c.split-upper.ensures in
    let j = c.join.ensures in
    let first = c.first.ensures.least in
    let at = c.first.result + c.args.width / 2 in
    let low = s.lower.0 in
    joined c.args.shared.now c.args.pass c.split-upper.new.pass c.split-upper.result c.join-lower.result.0 c.join-lower.result.1 c.join.new.pass at s.lower s.upper (omega arith) (omega arith) c.join-lower.ensures.first c.join-lower.ensures.second j.own j.outside j.numbers j.goes_on j.goes_on_other

pub first-requires-send-S : goal.first-requires-send-S
first-requires-send-S g t c κs = search (sendable, inside_send)

pub split-upper-requires-send-S : goal.split-upper-requires-send-S
split-upper-requires-send-S g t c κs = search (sendable, inside_send)

pub join-lower-requires-send-A : goal.join-lower-requires-send-A
join-lower-requires-send-A g t c κs within = search (sendable, crosses, core_send, pass.the_send) depth 20

pub join-requires-send-S : goal.join-requires-send-S
join-requires-send-S g t c κs = search (sendable, inside_send)

-- field by field: the runtime, the allocator, the makers, the system, the order, the turnstile, the
-- pass, the gate, the width
pub join-lower-requires-send-F : goal.join-lower-requires-send-F
join-lower-requires-send-F g t c κs within =
    let sync = c.requires.sync in
    let turnstile = Turnstile.the_row Core.the_row Basis.the_row Event.the_row kept.ghosts in
    let pass = Pass.the_row Core.the_row Basis.the_row Event.the_row kept.ghosts in
    let fields = ShrRef (named 6) κs.1.1.1.1.1.1.0 (param 2 g.row.R)
    ∷ Global.the_row
    ∷ ShrRef (named 7) κs.1.1.1.1.1.1.1.0 (param 0 g.row.M)
    ∷ ShrRef (named 8) κs.1.1.1.1.1.1.1.1.0 System.the_row
    ∷ ShrRef (named 9) κs.1.1.1.1.1.1.1.1.1.0 Order.the_row
    ∷ ShrRef (named 10) κs.1.1.1.1.1.1.1.1.1.1.0 turnstile
    ∷ pass
    ∷ ShrRef (named 11) κs.1.1.1.1.1.1.1.1.1.1.1.0 (param 1 g.row.G)
    ∷ u32-field.row
    ∷ [] in
    param_send 1 _ (arg_send _ no _ (declared_send (type_at _ fields) (
      search (sendable, sync.0) depth 20,
      (
        search (sendable, crosses) depth 20,
        (
          search (sendable, sync.1) depth 20,
          (
            search (sendable, system_sync) depth 20,
            (
              search (sendable, order_sync) depth 20,
              (search (sendable, turnstile_sync) depth 20, (search (sendable, pass_send) depth 20, (search (sendable, sync.2) depth 20, (search sendable depth 20, tt)))),
            ),
          ),
        ),
      ),
    )))
