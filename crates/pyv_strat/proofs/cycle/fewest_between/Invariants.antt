use Rattle.std.proofs.Common.{◌≡◌, length}
use Rattle.pyv_strat.specs.Walks.{IsLayer, NoneReturns}
use Rattle.pyv_strat.proofs.cycle.fewest_between.Given as goal

-- no shorter walk leads back
abbrev pub invariant-lengths : goal.invariant-lengths
invariant-lengths l = record {
  long : length l.layer.items ≡ l.sorts;
  marks : IsLayer l.edges (λ b. b ≡ l.sort) l.between l.layer.items;
  none : NoneReturns l.edges l.between l.sort;
}
