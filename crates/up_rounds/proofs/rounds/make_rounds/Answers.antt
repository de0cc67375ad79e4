use Rattle.up_rounds.proofs.RoundsOn.{less_left, same_both, same_on, turned_on, under_way_on}
use Rattle.up_rounds.proofs.rounds.make_rounds.Goals as goal

pub rounds-smaller : goal.rounds-smaller
rounds-smaller g c = less_left c.rounds.core c.make_round.new.core (turned_on c.rounds.core c.make_round.new.core c.in_ok-make_round.field-0 c.if-branch.false c.in_ok-make_round.ensures.turned)

pub rounds-preserved : goal.rounds-preserved
rounds-preserved g c =
    let on = turned_on c.rounds.core c.make_round.new.core c.in_ok-make_round.field-0 c.if-branch.false c.in_ok-make_round.ensures.turned in
    record {
      same = same_both c.args.core.now c.rounds.core c.make_round.new.core c.rounds.invariant.same (same_on c.rounds.core c.make_round.new.core on.round on.made);
      under_way = under_way_on c.rounds.core c.make_round.new.core c.rounds.invariant.under_way on;
      finders = c.in_ok-make_round.ensures.finders;
    }
