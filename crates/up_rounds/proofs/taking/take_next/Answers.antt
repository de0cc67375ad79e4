use Rattle.up_rounds.proofs.OneTake.{may_take, takes_none, takes_one}
use Rattle.up_rounds.proofs.taking.take_next.Goals as goal

pub take_job-requires-clause-may : goal.take_job-requires-clause-may
take_job-requires-clause-may c = may_take c.args.core.now c.reserve.new.self c.args.seat c.in_ok-reserve.ensures.same c.in-Job.job c.requires.free c.in-Job.ensures

pub returns-in_ok-take_job-in-Job : goal.returns-in_ok-take_job-in-Job
returns-in_ok-take_job-in-Job c =
    takes_one c.args.core.now c.reserve.new.self c.args.seat c.in_ok-reserve.ensures.same c.take_job.new.core c.in-Job.job c.in_ok-take_job-in-Job.field-0 c.requires.in_batch c.in-Job.ensures c.take_job.ensures.made c.in_ok-take_job-in-Job.ensures.briefed

pub returns-in_default : goal.returns-in_default
returns-in_default c = takes_none c.args.core.now c.reserve.new.self c.args.seat c.in_ok-reserve.ensures.same c.next_task.result c.next_task.ensures c.in_default.not-Job
