use Rattle.std.proofs.Common.{refl}
use Rattle.up_machine.specs.declared.event.Event.TheVariants as E
use Rattle.up_seats.proofs.LookReports.{to-seed}
use Rattle.up_seats.proofs.SoundCore.{sound-of}
use Rattle.up_trials.proofs.Others.{free_after, keeps, made_where_ok}
use Rattle.up_trials.proofs.machine_events.report_seed.Goals as goal

pub seed-requires-clause-known : goal.seed-requires-clause-known
seed-requires-clause-known g c =
    let s = c.stays_sound.ensures in
    (to-seed c.args.core.now c.args.worker c.args.found (sound-of c.args.core.now s.infer s.in_range s.legal) c.requires).known

pub returns-clause-free : goal.returns-clause-free
returns-clause-free g c =
    let made = made_where_ok c.args.core.now c.seed.new.self (E.Seed c.args.worker c.args.found) c.seed.result c.expect.result c.expect.ensures c.seed.ensures.made in
    free_after c.args.core.now c.seed.new.self (E.Seed c.args.worker c.args.found) made refl

pub returns-clause-others : goal.returns-clause-others
returns-clause-others g c =
    let made = made_where_ok c.args.core.now c.seed.new.self (E.Seed c.args.worker c.args.found) c.seed.result c.expect.result c.expect.ensures c.seed.ensures.made in
    keeps c.args.core.now c.seed.new.self (E.Seed c.args.worker c.args.found) made
