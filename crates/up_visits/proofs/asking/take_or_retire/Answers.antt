use Rattle.std.proofs.Common.{refl}
use Rattle.up_machine.specs.declared.event.Event.TheVariants as E
use Rattle.up_seats.proofs.Made.{made_event, made_nothing}
use Rattle.up_visits.proofs.Acting.{acted_none, acted_one, idle_jobless, may_take}
use Rattle.up_visits.proofs.asking.take_or_retire.Goals as goal

pub take_job-requires-clause-may : goal.take_job-requires-clause-may
take_job-requires-clause-may c = may_take c.args.core.now c.args.worker c.args.job c.requires.idle c.requires.due

pub returns-in-Ok-Some-clause-acted : goal.returns-in-Ok-Some-clause-acted
returns-in-Ok-Some-clause-acted c =
    let e = E.Retire c.args.worker c.in-Ok-Some.cover.gone c.in-Ok-Some.cover.by in
    acted_one c.args.core.now c.retire.new.self c.args.worker e (made_event c.args.core.now c.retire.new.self e c.retire.ensures.made) refl refl

pub returns-in-Ok-Some-clause-told : goal.returns-in-Ok-Some-clause-told
returns-in-Ok-Some-clause-told c =
    let e = E.Retire c.args.worker c.in-Ok-Some.cover.gone c.in-Ok-Some.cover.by in
    idle_jobless c.args.core.now c.retire.new.self c.args.worker e c.retire.ensures.made tt c.requires.idle

pub returns-in-Ok-clause-acted : goal.returns-in-Ok-clause-acted
returns-in-Ok-clause-acted c =
    let e = E.Take c.args.worker c.args.job in
    acted_one c.args.core.now c.take_job.new.core c.args.worker e (made_event c.args.core.now c.take_job.new.core e c.take_job.ensures.made) refl refl

pub returns-in-Err-take_job-clause-acted : goal.returns-in-Err-take_job-clause-acted
returns-in-Err-take_job-clause-acted c =
    let e = E.Take c.args.worker c.args.job in
    acted_one c.args.core.now c.take_job.new.core c.args.worker e (made_event c.args.core.now c.take_job.new.core e c.take_job.ensures.made) refl refl

pub returns-in-Err-clause-acted : goal.returns-in-Err-clause-acted
returns-in-Err-clause-acted c = acted_none c.args.core.now c.args.core.now c.args.worker (made_nothing c.args.core.now)
