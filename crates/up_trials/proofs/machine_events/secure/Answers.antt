use Rattle.std.proofs.Common.{subst, refl}
use Rattle.up_jobs.specs.declared.solved.Solved.TheVariants as S
use Rattle.up_machine.specs.declared.event.Event.TheVariants as E
use Rattle.up_seats.specs.Seats.{IsAnswered}
use Rattle.up_seats.proofs.LookReports.{to-secure, of-empty}
use Rattle.up_trials.proofs.Others.{free_after, made_where_ok}
use Rattle.up_trials.proofs.machine_events.secure.Goals as goal

pub secure-requires : goal.secure-requires
secure-requires g c =
    let nothing = of-empty c.as_slice.result.now c.take-brief.result.avoid c.is_empty.result c.as_slice.ensures c.is_empty.ensures c.if-not-is_empty.false in
    let found = subst (λ x. IsAnswered c.take-brief.new.core c.args.worker c.take-brief.result (S.Look x)) c.in-Nothing.is c.looked.ensures in
    (to-secure c.take-brief.new.core c.args.worker c.take-brief.result found nothing).known

pub returns : goal.returns
returns g c =
    let made = made_where_ok c.take-brief.new.core c.secure.new.self (E.Secure c.args.worker) c.secure.result c.expect.result c.expect.ensures c.secure.ensures.made in
    free_after c.take-brief.new.core c.secure.new.self (E.Secure c.args.worker) made refl
