use Rattle.std.proofs.Common.{subst}
use Rattle.up_jobs.specs.declared.solved.Solved.TheVariants as S
use Rattle.up_seats.specs.Seats.{IsAnswered}
use Rattle.up_seats.proofs.PushReports.{to-raise}
use Rattle.up_trials.proofs.machine_events.raise.Goals as goal

pub raise-requires : goal.raise-requires
raise-requires g c =
    let found = subst (λ x. IsAnswered c.take-brief.new.core c.args.worker c.take-brief.result (S.Push x)) c.in-Holds.is c.pushed.ensures in
    (to-raise c.take-brief.new.core c.args.worker (c.take-brief.result, found)).known
