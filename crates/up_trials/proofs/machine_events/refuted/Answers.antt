use Rattle.std.proofs.Common.{◌≡◌, sym, subst}
use Rattle.std.specs.Result.{IfOk}
use Rattle.up_machine.specs.declared.event.Event.TheVariants as E
use Rattle.up_machine.specs.declared.event.Why.TheVariants as Y
use Rattle.up_machine.specs.declared.not_now.NotNow.TheVariants as W
use Rattle.up_core.specs.Known.{IsKnown, IsNotNow}
use Rattle.up_seats.proofs.LookReports.{to-seed, to-refute-seed}
use Rattle.up_seats.proofs.SoundCore.{sound-of}
use Rattle.up_seats.proofs.Told.{known-then}
use Rattle.up_trials.proofs.machine_events.refuted.Goals as goal

pub seed-requires-clause-known : goal.seed-requires-clause-known
seed-requires-clause-known g c =
    let s = c.stays_sound.ensures in
    let same = subst (λ r. IfOk r (λ x. x ≡ c.args.found)) c.expect-copy.ensures c.copy.ensures in
    let told = to-seed c.args.core.now c.args.worker c.args.found (sound-of c.args.core.now s.infer s.in_range s.legal) c.requires in
    subst (λ x. IsKnown c.args.core.now (E.Seed c.args.worker x)) (sym same) told.known

pub give_back-requires : goal.give_back-requires
give_back-requires g c =
    let s = c.stays_sound.ensures in
    let why = c.in-Err-Refuted in
    let same = subst (λ r. IfOk r (λ x. x ≡ c.args.found)) c.expect-copy.ensures c.copy.ensures in
    let of_copy = subst (IsNotNow c.args.core.now (E.Seed c.args.worker c.expect-copy.result)) why.field-0-is why.ensures.when in
    let refused = subst (λ x. IsNotNow c.args.core.now (E.Seed c.args.worker x) (W.Refuted why.clause)) same of_copy in
    known-then c.args.core.now c.seed.new.self c.args.worker (E.Return c.args.worker (Y.Refuted c.args.found why.clause)) why.ensures.same
    (to-refute-seed c.args.core.now c.args.worker c.args.found why.clause (sound-of c.args.core.now s.infer s.in_range s.legal) c.requires refused)
