use Rattle.std.proofs.Common.{refl}
use Rattle.up_machine.specs.declared.event.Event.TheVariants as E
use Rattle.up_machine.specs.Rounds.{end_of}
use Rattle.up_seats.proofs.Made.{made_event}
use Rattle.up_visits.proofs.Acting.{acted_one, acted_room, acted_same, idle_jobless, idle_same, jobless_end}
use Rattle.up_visits.proofs.asking.do_due.Goals as goal

pub returns-then-is_err-clause-acted : goal.returns-then-is_err-clause-acted
returns-then-is_err-clause-acted c = acted_same c.args.core.now c.reserve.new.self c.args.worker c.reserve.ensures.same

pub returns-in-Job-clause-acted : goal.returns-in-Job-clause-acted
returns-in-Job-clause-acted c = acted_room c.args.core.now c.reserve.new.self c.take_or_retire.new.core c.args.worker c.reserve.ensures.same c.take_or_retire.ensures.acted

pub returns-in-Advance-clause-acted : goal.returns-in-Advance-clause-acted
returns-in-Advance-clause-acted c =
    let b = c.reserve.new.self in
    let d = c.advance.new.self in
    let e = E.Advance c.args.worker in
    acted_room c.args.core.now b d c.args.worker c.reserve.ensures.same (acted_one b d c.args.worker e (made_event b d e c.advance.ensures.made) refl refl)

pub returns-in-Advance-clause-told : goal.returns-in-Advance-clause-told
returns-in-Advance-clause-told c =
    let b = c.reserve.new.self in
    idle_jobless b c.advance.new.self c.args.worker (E.Advance c.args.worker) c.advance.ensures.made tt (idle_same c.args.core.now b c.args.worker c.reserve.ensures.same c.requires.idle)

pub returns-in-Finish-clause-acted : goal.returns-in-Finish-clause-acted
returns-in-Finish-clause-acted c =
    let b = c.reserve.new.self in
    let d = c.finish.new.self in
    let e = E.Close c.args.worker (end_of c.in-Finish.short) in
    acted_room c.args.core.now b d c.args.worker c.reserve.ensures.same (acted_one b d c.args.worker e (made_event b d e c.finish.ensures.made) refl refl)

pub returns-in-Finish-clause-told : goal.returns-in-Finish-clause-told
returns-in-Finish-clause-told c =
    let b = c.reserve.new.self in
    let e = E.Close c.args.worker (end_of c.in-Finish.short) in
    idle_jobless b c.finish.new.self c.args.worker e c.finish.ensures.made (jobless_end c.in-Finish.short c.args.worker) (idle_same c.args.core.now b c.args.worker c.reserve.ensures.same c.requires.idle)

pub returns-in-Idle-clause-acted : goal.returns-in-Idle-clause-acted
returns-in-Idle-clause-acted c = acted_same c.args.core.now c.reserve.new.self c.args.worker c.reserve.ensures.same

pub returns-in-Ended-clause-acted : goal.returns-in-Ended-clause-acted
returns-in-Ended-clause-acted c = acted_same c.args.core.now c.reserve.new.self c.args.worker c.reserve.ensures.same
