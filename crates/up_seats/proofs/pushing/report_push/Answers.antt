use Rattle.std.proofs.Common.{subst}
use Rattle.up_jobs.specs.declared.solved.Solved.TheVariants as S
use Rattle.up_machine.specs.declared.end.End.TheVariants as N
use Rattle.up_machine.specs.declared.event.Event.TheVariants as E
use Rattle.up_seats.specs.Telling.{HasAnswered}
use Rattle.up_seats.proofs.PushReports.{to-raise, to-end-push}
use Rattle.up_seats.proofs.Told.{plain, has-answered}
use Rattle.up_seats.proofs.pushing.report_push.Goals as goal

pub raise-requires : goal.raise-requires
raise-requires c =
    let h = subst (λ x. HasAnswered c.args.core.now c.args.seat (S.Push x)) c.in-Holds.is c.requires in
    (to-raise c.args.core.now c.args.seat h).known

pub close-requires-clause-known : goal.close-requires-clause-known
close-requires-clause-known c =
    let h = subst (λ x. HasAnswered c.args.core.now c.args.seat (S.Push x)) c.in-Over.is c.requires in
    (to-end-push c.args.core.now c.args.seat c.in-Over.what c.in-Over.excess h).known

pub returns-in-Holds : goal.returns-in-Holds
returns-in-Holds c =
    let h = subst (λ x. HasAnswered c.args.core.now c.args.seat (S.Push x)) c.in-Holds.is c.requires in
    let a = c.raise.ensures in
    has-answered c.args.core.now c.raise.new.self c.args.seat (E.Raise c.args.seat) c.raise.result c.is_ok.result
    (to-raise c.args.core.now c.args.seat h) plain
    (record { made = a.made; same = a.same; when = a.when; is = c.is_ok.ensures.value })

pub returns-in-Over : goal.returns-in-Over
returns-in-Over c =
    let h = subst (λ x. HasAnswered c.args.core.now c.args.seat (S.Push x)) c.in-Over.is c.requires in
    let a = c.close.ensures in
    has-answered c.args.core.now c.close.new.self c.args.seat (E.Close c.args.seat (N.Over c.in-Over.what c.in-Over.excess)) c.close.result c.is_ok-in-Over.result
    (to-end-push c.args.core.now c.args.seat c.in-Over.what c.in-Over.excess h) plain
    (record { made = a.made; same = a.same; when = a.when; is = c.is_ok-in-Over.ensures.value })
