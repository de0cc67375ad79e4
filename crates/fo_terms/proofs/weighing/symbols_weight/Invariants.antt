use Rattle.std.proofs.Common.{◌≡◌, take}
use Rattle.fo_core.specs.Weights.{added}
use Rattle.fo_core.specs.QueryWeight.{cut, symbol_weight}
use Rattle.fo_terms.proofs.weighing.symbols_weight.Given as goal

-- the symbols so far
abbrev pub invariant-each : goal.invariant-each
invariant-each l = l.sum ≡ cut (added (symbol_weight l.copies l.counts) (take l.symbol-index l.symbols))
