use Rattle.up_rounds.proofs.RoundsOn.{begun_rest, begun_settled}
use Rattle.up_rounds.proofs.rounds.make_round.Goals as goal

pub make_jobs-requires-clause-rest : goal.make_jobs-requires-clause-rest
make_jobs-requires-clause-rest g c κs within =
    begun_rest c.args.core.now c.begin.new.core c.in_ok-begin.field-0 c.in_ok-begin.ensures c.requires.resting c.in-Jobs.is

pub returns-in-Settled-clause-turned : goal.returns-in-Settled-clause-turned
returns-in-Settled-clause-turned g c =
    begun_settled c.args.core.now c.begin.new.core c.in_ok-begin.field-0 c.in_ok-begin.ensures c.requires.resting c.in-Settled.is
    c.settling_comes_to_an_end.ensures c.retiring_comes_to_an_end.ensures c.stays_sound.ensures.legal
