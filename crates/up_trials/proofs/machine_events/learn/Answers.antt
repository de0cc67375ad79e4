use Rattle.std.proofs.Common.{refl}
use Rattle.up_machine.specs.declared.event.Event.TheVariants as E
use Rattle.up_seats.proofs.WorkReports.{to-learn}
use Rattle.up_trials.proofs.Others.{free_after, keeps, made_where_ok}
use Rattle.up_trials.proofs.machine_events.learn.Goals as goal

pub learn-requires : goal.learn-requires
learn-requires g c = (to-learn c.args.core.now c.args.worker c.args.cube c.requires).known

pub returns-clause-free : goal.returns-clause-free
returns-clause-free g c =
    let made = made_where_ok c.args.core.now c.learn.new.self (E.Learn c.args.worker c.args.cube) c.learn.result c.expect.result c.expect.ensures c.learn.ensures.made in
    free_after c.args.core.now c.learn.new.self (E.Learn c.args.worker c.args.cube) made refl

pub returns-clause-others : goal.returns-clause-others
returns-clause-others g c =
    let made = made_where_ok c.args.core.now c.learn.new.self (E.Learn c.args.worker c.args.cube) c.learn.result c.expect.result c.expect.ensures c.learn.ensures.made in
    keeps c.args.core.now c.learn.new.self (E.Learn c.args.worker c.args.cube) made
