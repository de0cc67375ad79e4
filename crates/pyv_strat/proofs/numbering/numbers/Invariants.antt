use Rattle.std.proofs.Common.{◌≡◌, ℕ, suc, ◌<◌, length, get_or}
use Rattle.pyv_strat.specs.Walks.{IsLayer}
use Rattle.pyv_strat.proofs.NumberLemmas.{Height}
use Rattle.pyv_strat.proofs.numbering.numbers.Given as goal

-- the layer is of the walks of one edge less, and of fewer edges than these the longest are known
abbrev pub invariant-lengths : goal.invariant-lengths
invariant-lengths l = record {
  long : length l.layer.items ≡ l.sorts;
  many : length l.numbers.items ≡ l.sorts;
  marks : (m : ℕ) → suc m ≡ l.k → IsLayer l.edges (λ b. b < l.sorts) m l.layer.items;
  heights : (a : ℕ) → a < l.sorts → Height l.edges l.sorts l.k a (get_or l.numbers.items a 0);
}
