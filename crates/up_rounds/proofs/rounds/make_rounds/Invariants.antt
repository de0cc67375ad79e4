use Rattle.std.proofs.Common.{◌≡◌}
use Rattle.std.specs.List.{All}
use Rattle.up_rounds.specs.Going.{IsOfSame, IsUnderWay, left_in}
use Rattle.up_rounds.proofs.rounds.make_rounds.Given as goal

abbrev pub invariant-rounds : goal.invariant-rounds
invariant-rounds g l = record {
  same : IsOfSame l.fn.core l.core;
  under_way : IsUnderWay l.core;
  finders : All (λ f. g.M.One.Finder.limit f ≡ g.M.Finders.limit l.makers) l.crew.finders.items;
}

abbrev pub decreases-rounds : goal.decreases-rounds
decreases-rounds g l = left_in l.core
