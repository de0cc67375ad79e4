use Rattle.std.proofs.Common.{◌<◌, subst}
use Rattle.up_machine.specs.declared.limits.Limits.{Limits}
use Rattle.up_rounds.proofs.AllTakes.{next_free, taking_more, taking_starts, taking_stops}
use Rattle.up_rounds.proofs.taking.take_jobs.Goals as goal

pub seats-init : goal.seats-init
seats-init c = taking_starts c.args.core.now c.new-briefs.result.items c.new-briefs.ensures.items

pub take_next-requires-clause-free : goal.take_next-requires-clause-free
take_next-requires-clause-free c =
    next_free c.args.core.now c.seats.core c.seats.briefs.items c.seats.seat c.seats.invariant c.requires
    (subst (λ (l : Limits). c.seats.seat < l.batch) c.limits.ensures c.seats-test.true)

pub returns-in-None : goal.returns-in-None
returns-in-None c =
    taking_stops c.args.core.now c.seats.core c.seats.briefs.items c.seats.seat c.seats.invariant c.take_next.new.core c.in_ok-brief.field-0 c.in-None.is c.in_ok-brief.ensures

pub seats-preserved : goal.seats-preserved
seats-preserved c =
    taking_more c.args.core.now c.seats.core c.seats.briefs.items c.seats.seat c.seats.invariant c.take_next.new.core c.in-Some.brief c.in_ok-brief.field-0 c.push.new.self.items c.in-Some.is c.in_ok-push-in-Some.ensures.items c.in_ok-brief.ensures
