use Rattle.up_rounds.proofs.RoundsOn.{begins_way, is_run}
use Rattle.up_rounds.proofs.rounds.infer_rounds.Goals as goal

pub make_rounds-requires-clause-under_way : goal.make_rounds-requires-clause-under_way
make_rounds-requires-clause-under_way g c κs within =
    begins_way c.args.sys.now c.args.order.now c.args.limits c.in_ok-core.core c.in_ok-core.ensures

pub returns : goal.returns
returns g c =
    is_run c.args.sys.now c.args.order.now c.args.limits c.in_ok-core.core c.in_ok-core.ensures c.make_rounds.new.core
    c.in_ok-make_rounds.ensures c.stays_sound.ensures.legal
