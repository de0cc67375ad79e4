-- Threads may send one another an engine, since they may what it keeps.
use denote.Param.Send.{IsSend, sendable}
use denote.Param.SendFields.{declared_send}
use Rattle.std.proofs.Crossing.{crosses}
use Rattle.fo_core.proofs.boxed.Boxed.TheSendSync as boxed
use Rattle.fo_core.proofs.formula.Formula.TheLaws.TheKnot as formula
use Rattle.fo_core.proofs.seq.Seq.TheSendSync as seq
use Rattle.fo_core.proofs.term.Term.TheLaws.TheKnot as term
use Rattle.fo_ground.proofs.groundwork.Groundwork.TheSendSync as groundwork
use Rattle.prop_cdcl.proofs.solver.Solver.TheSendSync as solver
use Rattle.fo_solve.specs.contracts.claims.Claims as claims
use Rattle.fo_solve.specs.contracts.claims.Switched as switched
use Rattle.fo_solve.specs.contracts.context.Context.TheInside as inside
use Rattle.fo_solve.specs.contracts.contexts.Contexts as contexts
use Rattle.fo_solve.specs.contracts.engine.Engine as engine

switched_send : IsSend switched.the_row
switched_send = search (sendable, crosses, formula.crosses, term.crosses, boxed.the_send, seq.the_send) depth 20

-- the claims, the search, how many clauses there are
claims_send : IsSend claims.the_row
claims_send =
    declared_send claims.the_type (
      search (sendable, crosses, switched_send) depth 20,
      (search (sendable, solver.the_send) depth 20, (search sendable depth 20, tt)),
    )

-- the groundwork, the claims, how many were asked for
inside_send : IsSend inside.the_row
inside_send =
    declared_send inside.the_type (
      search (sendable, groundwork.the_send) depth 20,
      (search (sendable, claims_send) depth 20, (search sendable depth 20, tt)),
    )

contexts_send : IsSend contexts.the_row
contexts_send = search (sendable, crosses, inside_send) depth 20

-- field by field: the limit, the contexts
pub engine_send : IsSend engine.the_row
engine_send = declared_send engine.the_type (search sendable depth 20, (search (sendable, contexts_send) depth 20, tt))
