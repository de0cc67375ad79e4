use Rattle.std.proofs.Common.{subst}
use Rattle.up_machine.specs.declared.event.Event.TheVariants as E
use Rattle.up_machine.specs.declared.event.Why.TheVariants as Y
use Rattle.up_core.specs.Known.{IsNotNow}
use Rattle.up_seats.proofs.LookReports.{to-seed, to-refute-seed, few-of-seed}
use Rattle.up_seats.proofs.SoundCore.{sound-of}
use Rattle.up_seats.proofs.Told.{plain, now-unrefuted, is-spent, has-answered-then, known-then}
use Rattle.up_seats.proofs.looking.report_seed.Goals as goal

pub test_seed-requires : goal.test_seed-requires
test_seed-requires c =
    let s = c.stays_sound.ensures in
    let sound = sound-of c.args.core.now s.infer s.in_range s.legal in
    (to-seed c.args.core.now c.args.seat c.args.seed sound c.requires).known

pub seed-requires-clause-known : goal.seed-requires-clause-known
seed-requires-clause-known c =
    let s = c.stays_sound.ensures in
    let sound = sound-of c.args.core.now s.infer s.in_range s.legal in
    known-then c.args.core.now c.test_seed.new.self c.args.seat (E.Seed c.args.seat c.args.seed) c.in-Ok.ensures.same (to-seed c.args.core.now c.args.seat c.args.seed sound c.requires)

pub seed-requires-clause-few : goal.seed-requires-clause-few
seed-requires-clause-few c =
    let s = c.stays_sound.ensures in
    few-of-seed c.args.core.now c.args.seat c.args.seed (sound-of c.args.core.now s.infer s.in_range s.legal) c.requires

pub give_back-requires : goal.give_back-requires
give_back-requires c =
    let s = c.stays_sound.ensures in
    let sound = sound-of c.args.core.now s.infer s.in_range s.legal in
    let why = c.in-Err-Refuted in
    let refused = subst (IsNotNow c.args.core.now (E.Seed c.args.seat c.args.seed)) why.field-0-is why.ensures.when in
    known-then c.args.core.now c.test_seed.new.self c.args.seat (E.Return c.args.seat (Y.Refuted c.args.seed why.clause)) why.ensures.same
    (to-refute-seed c.args.core.now c.args.seat c.args.seed why.clause sound c.requires refused)

pub returns-in-Ok : goal.returns-in-Ok
returns-in-Ok c =
    let s = c.stays_sound.ensures in
    let sound = sound-of c.args.core.now s.infer s.in_range s.legal in
    let e = E.Seed c.args.seat c.args.seed in
    let a = c.seed.ensures in
    has-answered-then c.args.core.now c.test_seed.new.self c.seed.new.self c.args.seat e c.seed.result c.is_ok.result c.in-Ok.ensures.same
    (to-seed c.args.core.now c.args.seat c.args.seed sound c.requires) (now-unrefuted c.args.core.now e c.in-Ok.ensures.when)
    (record { made = a.made; same = a.same; when = a.when; is = c.is_ok.ensures.value })

pub returns-in-Err-Refuted : goal.returns-in-Err-Refuted
returns-in-Err-Refuted c =
    let s = c.stays_sound.ensures in
    let sound = sound-of c.args.core.now s.infer s.in_range s.legal in
    let why = c.in-Err-Refuted in
    let refused = subst (IsNotNow c.args.core.now (E.Seed c.args.seat c.args.seed)) why.field-0-is why.ensures.when in
    let a = c.give_back.ensures in
    has-answered-then c.args.core.now c.test_seed.new.self c.give_back.new.self c.args.seat (E.Return c.args.seat (Y.Refuted c.args.seed why.clause)) c.give_back.result c.is_ok-in-Err-Refuted.result why.ensures.same
    (to-refute-seed c.args.core.now c.args.seat c.args.seed why.clause sound c.requires refused) plain
    (record { made = a.made; same = a.same; when = a.when; is = c.is_ok-in-Err-Refuted.ensures.value })

pub returns-in-Err-Spent : goal.returns-in-Err-Spent
returns-in-Err-Spent c =
    let s = c.stays_sound.ensures in
    let sound = sound-of c.args.core.now s.infer s.in_range s.legal in
    let e = E.Seed c.args.seat c.args.seed in
    let why = c.in-Err-Spent in
    is-spent c.args.core.now c.test_seed.new.self c.args.seat e (to-seed c.args.core.now c.args.seat c.args.seed sound c.requires)
    (subst (IsNotNow c.args.core.now e) why.field-0-is why.ensures.when) why.ensures.same
