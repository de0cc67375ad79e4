use Rattle.std.proofs.Common.{length, ap, subst}
use Rattle.up_rounds.specs.Asking.{HaveAllReported}
use Rattle.up_rounds.proofs.RoundsOn.{all_solvable, few_briefs, jobs_go_on}
use Rattle.up_rounds.proofs.rounds.make_jobs.Goals as goal

pub solve_jobs-requires-clause-asked : goal.solve_jobs-requires-clause-asked
solve_jobs-requires-clause-asked g c κs within =
    all_solvable c.args.core.now c.take_jobs.new.core c.in_ok-briefs.briefs.items c.in_ok-briefs.ensures c.system.result.now c.order.result.now c.as_slice.result.now c.system.ensures c.order.ensures c.as_slice.ensures.value

pub report_all-requires-clause-few : goal.report_all-requires-clause-few
report_all-requires-clause-few g c =
    few_briefs c.args.core.now c.take_jobs.new.core c.in_ok-briefs.briefs.items c.in_ok-briefs.ensures c.stays_sound.ensures.in_range c.as_slice-2.result.now c.as_slice-2.ensures.value

pub returns-clause-gone_on : goal.returns-clause-gone_on
returns-clause-gone_on g c =
    let reported = subst (λ n. HaveAllReported c.take_jobs.new.core n c.report_all.new.core) (ap length c.as_slice-2.ensures.value) c.report_all.ensures in
    jobs_go_on c.args.core.now c.requires.rest c.requires.jobs c.stays_sound.ensures.in_range c.take_jobs.new.core c.in_ok-briefs.briefs.items c.in_ok-briefs.ensures c.report_all.new.core reported
    c.jobs_come_to_an_end.ensures c.stays_sound-2.ensures.infer.system c.stays_sound-2.ensures.legal
