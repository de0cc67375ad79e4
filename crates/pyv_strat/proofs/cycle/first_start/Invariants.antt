use Rattle.std.proofs.Common.{◌≡◌, ℕ, ◌<◌, ◌≤◌, IfNone, IfSome}
use Rattle.pyv_strat.specs.Walks.{NoneReturns}
use Rattle.pyv_strat.proofs.StartLemmas.{IsBest}
use Rattle.pyv_strat.proofs.cycle.first_start.Given as goal

-- the best start among the sorts before this one
abbrev pub invariant-each : goal.invariant-each
invariant-each l = record {
  fewest : (a : ℕ) → a < l.sort → NoneReturns l.edges l.limit a;
  none : IfNone l.best (l.limit ≡ l.sorts);
  some : IfSome l.best (IsBest l.edges l.sorts l.limit l.sort);
  few : l.limit ≤ l.sorts;
}
