use Rattle.std.proofs.Common.{subst}
use Rattle.up_machine.specs.declared.event.Event.TheVariants as E
use Rattle.up_machine.specs.declared.event.Why.TheVariants as Y
use Rattle.up_core.specs.Known.{IsNotNow}
use Rattle.up_seats.proofs.PushReports.{to-fail, to-refute-fail}
use Rattle.up_seats.proofs.Told.{plain, now-unrefuted, is-spent, has-answered-then, known-then}
use Rattle.up_seats.proofs.pushing.report_fail.Goals as goal

pub test_fail-requires : goal.test_fail-requires
test_fail-requires c = (to-fail c.args.core.now c.args.seat c.args.step c.requires).known

pub fail-requires : goal.fail-requires
fail-requires c =
    known-then c.args.core.now c.test_fail.new.self c.args.seat (E.Fail c.args.seat c.args.step) c.in-Ok.ensures.same (to-fail c.args.core.now c.args.seat c.args.step c.requires)

pub give_back-requires : goal.give_back-requires
give_back-requires c =
    let why = c.in-Err-Refuted in
    let refuted = subst (IsNotNow c.args.core.now (E.Fail c.args.seat c.args.step)) why.field-0-is why.ensures.when in
    known-then c.args.core.now c.test_fail.new.self c.args.seat (E.Return c.args.seat (Y.Refuted c.args.step why.clause)) why.ensures.same
    (to-refute-fail c.args.core.now c.args.seat c.args.step why.clause c.requires refuted)

pub returns-in-Ok : goal.returns-in-Ok
returns-in-Ok c =
    let e = E.Fail c.args.seat c.args.step in
    let a = c.fail.ensures in
    has-answered-then c.args.core.now c.test_fail.new.self c.fail.new.self c.args.seat e c.fail.result c.is_ok.result c.in-Ok.ensures.same
    (to-fail c.args.core.now c.args.seat c.args.step c.requires) (now-unrefuted c.args.core.now e c.in-Ok.ensures.when)
    (record { made = a.made; same = a.same; when = a.when; is = c.is_ok.ensures.value })

pub returns-in-Err-Refuted : goal.returns-in-Err-Refuted
returns-in-Err-Refuted c =
    let why = c.in-Err-Refuted in
    let refuted = subst (IsNotNow c.args.core.now (E.Fail c.args.seat c.args.step)) why.field-0-is why.ensures.when in
    let a = c.give_back.ensures in
    has-answered-then c.args.core.now c.test_fail.new.self c.give_back.new.self c.args.seat (E.Return c.args.seat (Y.Refuted c.args.step why.clause)) c.give_back.result c.is_ok-in-Err-Refuted.result why.ensures.same
    (to-refute-fail c.args.core.now c.args.seat c.args.step why.clause c.requires refuted) plain
    (record { made = a.made; same = a.same; when = a.when; is = c.is_ok-in-Err-Refuted.ensures.value })

pub returns-in-Err-Spent : goal.returns-in-Err-Spent
returns-in-Err-Spent c =
    let why = c.in-Err-Spent in
    let e = E.Fail c.args.seat c.args.step in
    is-spent c.args.core.now c.test_fail.new.self c.args.seat e (to-fail c.args.core.now c.args.seat c.args.step c.requires)
    (subst (IsNotNow c.args.core.now e) why.field-0-is why.ensures.when) why.ensures.same
