use Rattle.std.proofs.Common.{◌≡◌, ◌*◌, take}
use Rattle.std.specs.Prelude.{slice_index}
use Rattle.fo_core.specs.Weights.{added, power}
use Rattle.fo_core.specs.QueryWeight.{cut}
use Rattle.fo_terms.proofs.weighing.symbol_weight.Given as goal

-- the arguments so far
abbrev pub invariant-each : goal.invariant-each
invariant-each l = l.sum ≡ cut (added (λ a. power l.counts l.symbol.args * slice_index l.counts a) (take l.sort-index l.sort-items))
