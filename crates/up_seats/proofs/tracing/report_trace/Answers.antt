use Rattle.std.proofs.Common.{subst}
use Rattle.up_jobs.specs.declared.solved.Solved.TheVariants as S
use Rattle.up_machine.specs.declared.end.End.TheVariants as N
use Rattle.up_machine.specs.declared.event.Event.TheVariants as E
use Rattle.up_seats.specs.Telling.{HasAnswered}
use Rattle.up_seats.proofs.Told.{plain, has-answered}
use Rattle.up_seats.proofs.TraceReports.{to-end-run, to-end-none, to-end-trace}
use Rattle.up_seats.proofs.tracing.report_trace.Goals as goal

pub close-requires-clause-known : goal.close-requires-clause-known
close-requires-clause-known c =
    let h = subst (λ x. HasAnswered c.args.core.now c.args.seat (S.Trace x)) c.in-Run.is c.requires in
    (to-end-run c.args.core.now c.args.seat c.in-Run.run' h).known

pub returns-in-Run : goal.returns-in-Run
returns-in-Run c =
    let h = subst (λ x. HasAnswered c.args.core.now c.args.seat (S.Trace x)) c.in-Run.is c.requires in
    let a = c.close.ensures in
    has-answered c.args.core.now c.close.new.self c.args.seat (E.Close c.args.seat (N.Unsafe c.in-Run.run')) c.close.result c.is_ok.result
    (to-end-run c.args.core.now c.args.seat c.in-Run.run' h) plain
    (record { made = a.made; same = a.same; when = a.when; is = c.is_ok.ensures.value })

pub close-requires-in-NoRun-clause-known : goal.close-requires-in-NoRun-clause-known
close-requires-in-NoRun-clause-known c =
    let h = subst (λ x. HasAnswered c.args.core.now c.args.seat (S.Trace x)) c.in-NoRun.is c.requires in
    (to-end-none c.args.core.now c.args.seat h).known

pub returns-in-NoRun : goal.returns-in-NoRun
returns-in-NoRun c =
    let h = subst (λ x. HasAnswered c.args.core.now c.args.seat (S.Trace x)) c.in-NoRun.is c.requires in
    let a = c.close-in-NoRun.ensures in
    has-answered c.args.core.now c.close-in-NoRun.new.self c.args.seat (E.Close c.args.seat N.NoUniversal) c.close-in-NoRun.result c.is_ok-in-NoRun.result
    (to-end-none c.args.core.now c.args.seat h) plain
    (record { made = a.made; same = a.same; when = a.when; is = c.is_ok-in-NoRun.ensures.value })

pub close-requires-in-Over-clause-known : goal.close-requires-in-Over-clause-known
close-requires-in-Over-clause-known c =
    let h = subst (λ x. HasAnswered c.args.core.now c.args.seat (S.Trace x)) c.in-Over.is c.requires in
    (to-end-trace c.args.core.now c.args.seat c.in-Over.what c.in-Over.excess h).known

pub returns-in-Over : goal.returns-in-Over
returns-in-Over c =
    let h = subst (λ x. HasAnswered c.args.core.now c.args.seat (S.Trace x)) c.in-Over.is c.requires in
    let a = c.close-in-Over.ensures in
    has-answered c.args.core.now c.close-in-Over.new.self c.args.seat (E.Close c.args.seat (N.Over c.in-Over.what c.in-Over.excess)) c.close-in-Over.result c.is_ok-in-Over.result
    (to-end-trace c.args.core.now c.args.seat c.in-Over.what c.in-Over.excess h) plain
    (record { made = a.made; same = a.same; when = a.when; is = c.is_ok-in-Over.ensures.value })
