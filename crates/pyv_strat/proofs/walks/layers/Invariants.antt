use Rattle.std.proofs.Common.{◌≡◌, length}
use Rattle.pyv_strat.specs.Walks.{IsLayer, AreLayers}
use Rattle.pyv_strat.proofs.walks.layers.Given as goal

-- the layers before this one are kept
abbrev pub invariant-each : goal.invariant-each
invariant-each l = record {
  kept : AreLayers l.edges l.goal l.sorts l.k l.layers;
  long : length l.layer.items ≡ l.sorts;
  next : IsLayer l.edges (λ b. b ≡ l.goal) l.k l.layer.items;
}
