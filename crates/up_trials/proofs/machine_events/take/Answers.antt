use Rattle.up_machine.specs.declared.event.Event.TheVariants as E
use Rattle.up_rounds.proofs.OneTake.{may_take}
use Rattle.up_trials.proofs.Others.{keeps_with_room}
use Rattle.up_trials.proofs.machine_events.take.Goals as goal

pub take_job-requires-clause-may : goal.take_job-requires-clause-may
take_job-requires-clause-may g c =
    may_take c.args.core.now c.reserve.new.self c.args.worker c.reserve.ensures.same c.in-Job.job (λ job due. c.requires) c.in-Job.ensures

pub returns-clause-others : goal.returns-clause-others
returns-clause-others g c =
    keeps_with_room c.args.core.now c.reserve.new.self c.take_job.new.core (E.Take c.args.worker c.in-Job.job) c.reserve.ensures.same c.take_job.ensures.made
