use Rattle.up_rounds.proofs.FirstDue.{finished, for_jobs, nobody_idle, open_for_job, retired}
use Rattle.up_rounds.proofs.settling.begin.Goals as goal

pub retire_first-requires-clause-not_ended : goal.retire_first-requires-clause-not_ended
retire_first-requires-clause-not_ended c =
    open_for_job c.args.core.now c.reserve.new.self c.in_ok-reserve.ensures.same c.in-Job.field-0 c.in-Job.ensures

pub returns-then-branch : goal.returns-then-branch
returns-then-branch c =
    retired c.args.core.now c.reserve.new.self c.in_ok-reserve.ensures.same c.in-Job.field-0 c.in-Job.ensures c.retire_first.new.core c.in_ok-retire_first-in-Job.field-0 c.if-branch.true c.in_ok-retire_first-in-Job.ensures

pub unreachable-requires : goal.unreachable-requires
unreachable-requires c =
    nobody_idle c.args.core.now c.reserve.new.self c.in_ok-reserve.ensures.same c.requires c.stays_sound.ensures.legal c.in-Idle.ensures

pub returns-in-Finish : goal.returns-in-Finish
returns-in-Finish c =
    finished c.args.core.now c.reserve.new.self c.in_ok-reserve.ensures.same c.finish.new.self c.in-Finish.short c.in-Finish.ensures c.finish.ensures.made

pub returns-else-branch : goal.returns-else-branch
returns-else-branch c =
    for_jobs c.args.core.now c.reserve.new.self c.in_ok-reserve.ensures.same c.in-Job.field-0 c.in-Job.ensures c.retire_first.new.core c.in_ok-retire_first-in-Job.field-0 c.if-branch.false c.in_ok-retire_first-in-Job.ensures
