use Rattle.std.proofs.Common.{subst}
use Rattle.up_jobs.specs.declared.solved.Solved.TheVariants as S
use Rattle.up_machine.specs.declared.end.End.TheVariants as N
use Rattle.up_machine.specs.declared.event.Event.TheVariants as E
use Rattle.up_seats.specs.Telling.{HasAnswered}
use Rattle.up_seats.proofs.Told.{plain, has-answered}
use Rattle.up_seats.proofs.WorkReports.{to-end-work}
use Rattle.up_seats.proofs.working.report_work.Goals as goal

pub close-requires-clause-known : goal.close-requires-clause-known
close-requires-clause-known c =
    let h = subst (λ x. HasAnswered c.args.core.now c.args.seat (S.Work x)) c.in-Over.is c.requires in
    (to-end-work c.args.core.now c.args.seat c.in-Over.what c.in-Over.excess h).known

pub returns-in-Over : goal.returns-in-Over
returns-in-Over c =
    let h = subst (λ x. HasAnswered c.args.core.now c.args.seat (S.Work x)) c.in-Over.is c.requires in
    let a = c.close.ensures in
    has-answered c.args.core.now c.close.new.self c.args.seat (E.Close c.args.seat (N.Over c.in-Over.what c.in-Over.excess)) c.close.result c.is_ok.result
    (to-end-work c.args.core.now c.args.seat c.in-Over.what c.in-Over.excess h) plain
    (record { made = a.made; same = a.same; when = a.when; is = c.is_ok.ensures.value })
