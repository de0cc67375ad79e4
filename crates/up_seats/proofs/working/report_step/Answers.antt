use Rattle.std.proofs.Common.{sym, subst}
use Rattle.up_block.specs.declared.blocking.Blocking.TheVariants as B
use Rattle.up_machine.specs.declared.event.Event.TheVariants as E
use Rattle.up_machine.specs.declared.event.Origin.TheVariants as O
use Rattle.up_machine.specs.declared.event.Why.TheVariants as Y
use Rattle.up_core.specs.Known.{IsNotNow}
use Rattle.up_seats.specs.Telling.{IsToTell}
use Rattle.up_seats.proofs.SoundCore.{sound-of}
use Rattle.up_seats.proofs.Told.{plain, now-unrefuted, is-spent, has-answered-then, known-then}
use Rattle.up_seats.proofs.WorkReports.{to-step, to-drop, to-refute-step, few-of-step}
use Rattle.up_seats.proofs.working.report_step.Goals as goal

pub test_before-requires : goal.test_before-requires
test_before-requires c = (to-step c.args.core.now c.args.seat c.args.step c.requires).known

pub before-requires-clause-known : goal.before-requires-clause-known
before-requires-clause-known c =
    known-then c.args.core.now c.test_before.new.self c.args.seat (E.Before c.args.seat (O.Step c.args.step)) c.in-Ok.ensures.same (to-step c.args.core.now c.args.seat c.args.step c.requires)

pub before-requires-clause-few : goal.before-requires-clause-few
before-requires-clause-few c =
    let s = c.stays_sound.ensures in
    few-of-step c.args.core.now c.args.seat c.args.step (sound-of c.args.core.now s.infer s.in_range s.legal) c.requires

pub drop_ob-requires : goal.drop_ob-requires
drop_ob-requires c =
    let why = c.in-Err-Own in
    let own = (subst (IsNotNow c.args.core.now (E.Before c.args.seat (O.Step c.args.step))) why.field-0-is why.ensures.when).1 in
    known-then c.args.core.now c.test_before.new.self c.args.seat (E.Drop c.args.seat why.clause) why.ensures.same
    (to-drop c.args.core.now c.args.seat (B.Step c.args.step) why.clause tt c.requires own)

pub give_back-requires : goal.give_back-requires
give_back-requires c =
    let why = c.in-Err-Refuted in
    let refuted = subst (IsNotNow c.args.core.now (E.Before c.args.seat (O.Step c.args.step))) why.field-0-is why.ensures.when in
    let told = subst (λ p. IsToTell c.args.core.now c.args.seat (E.Return c.args.seat (Y.Refuted p why.clause))) (sym c.world_of-step.ensures) (to-refute-step c.args.core.now c.args.seat c.args.step why.clause c.requires refuted) in
    known-then c.args.core.now c.test_before.new.self c.args.seat (E.Return c.args.seat (Y.Refuted c.world_of-step.result why.clause)) why.ensures.same told

pub returns-in-Ok : goal.returns-in-Ok
returns-in-Ok c =
    let e = E.Before c.args.seat (O.Step c.args.step) in
    let a = c.before-in-Ok.ensures in
    has-answered-then c.args.core.now c.test_before.new.self c.before-in-Ok.new.self c.args.seat e c.before-in-Ok.result c.is_ok.result c.in-Ok.ensures.same
    (to-step c.args.core.now c.args.seat c.args.step c.requires) (now-unrefuted c.args.core.now e c.in-Ok.ensures.when)
    (record { made = a.made; same = a.same; when = a.when; is = c.is_ok.ensures.value })

pub returns-in-Err-Own : goal.returns-in-Err-Own
returns-in-Err-Own c =
    let why = c.in-Err-Own in
    let own = (subst (IsNotNow c.args.core.now (E.Before c.args.seat (O.Step c.args.step))) why.field-0-is why.ensures.when).1 in
    let a = c.drop_ob.ensures in
    has-answered-then c.args.core.now c.test_before.new.self c.drop_ob.new.self c.args.seat (E.Drop c.args.seat why.clause) c.drop_ob.result c.is_ok-in-Err-Own.result why.ensures.same
    (to-drop c.args.core.now c.args.seat (B.Step c.args.step) why.clause tt c.requires own) plain
    (record { made = a.made; same = a.same; when = a.when; is = c.is_ok-in-Err-Own.ensures.value })

pub returns-in-Err-Refuted : goal.returns-in-Err-Refuted
returns-in-Err-Refuted c =
    let why = c.in-Err-Refuted in
    let refuted = subst (IsNotNow c.args.core.now (E.Before c.args.seat (O.Step c.args.step))) why.field-0-is why.ensures.when in
    let told = subst (λ p. IsToTell c.args.core.now c.args.seat (E.Return c.args.seat (Y.Refuted p why.clause))) (sym c.world_of-step.ensures) (to-refute-step c.args.core.now c.args.seat c.args.step why.clause c.requires refuted) in
    let a = c.give_back.ensures in
    has-answered-then c.args.core.now c.test_before.new.self c.give_back.new.self c.args.seat (E.Return c.args.seat (Y.Refuted c.world_of-step.result why.clause)) c.give_back.result c.is_ok-in-Err-Refuted.result why.ensures.same
    told plain
    (record { made = a.made; same = a.same; when = a.when; is = c.is_ok-in-Err-Refuted.ensures.value })

pub returns-in-Err-Spent : goal.returns-in-Err-Spent
returns-in-Err-Spent c =
    let why = c.in-Err-Spent in
    let e = E.Before c.args.seat (O.Step c.args.step) in
    is-spent c.args.core.now c.test_before.new.self c.args.seat e (to-step c.args.core.now c.args.seat c.args.step c.requires)
    (subst (IsNotNow c.args.core.now e) why.field-0-is why.ensures.when) why.ensures.same
