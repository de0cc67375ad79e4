use Rattle.std.proofs.Common.{subst}
use Rattle.up_jobs.specs.declared.solved.Solved.TheVariants as S
use Rattle.up_seats.specs.Seats.{IsAnswered}
use Rattle.up_seats.proofs.LookReports.{to-find-no-more, of-some}
use Rattle.up_trials.proofs.machine_events.give_back.Goals as goal

pub give_back-requires : goal.give_back-requires
give_back-requires g c =
    let look = c.args.look.now in
    let something = of-some c.as_slice.result.now look.brief.avoid c.is_empty.result c.as_slice.ensures c.is_empty.ensures c.if-is_empty.false in
    let found = subst (λ x. IsAnswered c.args.core.now c.args.worker look.brief (S.Look x)) c.in-Nothing.is c.requires in
    (to-find-no-more c.args.core.now c.args.worker look.brief found something).known
