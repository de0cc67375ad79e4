use Rattle.std.proofs.Common.{◌<◌, ◌^◌, arith}
use Rattle.std.proofs.lemmas.Result.{IfOk-weaker}
use Rattle.up_seats.proofs.TakenJobs.{holds_job, is_briefed, since_take}
use Rattle.up_seats.proofs.taking.take_job.Goals as goal

pub brief-requires : goal.brief-requires
brief-requires c =
    holds_job c.args.core.now c.take.new.self c.args.seat c.args.job c.take.ensures.made (omega arith) c.requires.variables c.requires.may c.stays_sound.ensures.in_range c.stays_sound.ensures.legal

pub returns-clause-briefed : goal.returns-clause-briefed
returns-clause-briefed c =
    let before = c.args.core.now in
    let narrow : before.variables < 2 ^ 32 = omega arith in
    let sound = c.stays_sound.ensures in
    IfOk-weaker c.brief.result _ _
    (is_briefed before c.take.new.self c.args.seat c.args.job c.take.ensures.made narrow c.requires.variables c.requires.may sound.in_range sound.legal sound.infer)
    (c.brief.ensures.taken (since_take before c.take.new.self c.args.seat c.args.job c.take.ensures.made narrow c.requires.variables c.requires.may sound.in_range sound.legal))

pub returns-clause-holds : goal.returns-clause-holds
returns-clause-holds c =
    holds_job c.args.core.now c.take.new.self c.args.seat c.args.job c.take.ensures.made (omega arith) c.requires.variables c.requires.may c.stays_sound.ensures.in_range c.stays_sound.ensures.legal
