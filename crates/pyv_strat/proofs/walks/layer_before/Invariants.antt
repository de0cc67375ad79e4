use Rattle.std.proofs.Common.{◌≡◌, ℕ, ◌↔◌, length}
use Rattle.pyv_strat.specs.Walks.{Marks}
use Rattle.pyv_strat.proofs.LayerLemmas.{LeadsBefore}
use Rattle.pyv_strat.proofs.walks.layer_before.Given as goal

-- the sorts from which one of the edges before this one leads to a marked sort are marked
abbrev pub invariant-each : goal.invariant-each
invariant-each l = record {
  long : length l.before.items ≡ length l.layer;
  marks : (a : ℕ) → Marks l.before.items a ↔ LeadsBefore l.edges l.layer l.e-index a;
}
