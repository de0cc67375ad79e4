use Rattle.std.proofs.Common.{◌≡◌, take}
use Rattle.fo_core.specs.declared.signature.Symbol.{Symbol}
use Rattle.fo_core.specs.Weights.{added, power}
use Rattle.fo_core.specs.QueryWeight.{cut}
use Rattle.fo_terms.proofs.weighing.skolem_nodes.Given as goal

-- the Skolem functions so far
abbrev pub invariant-each : goal.invariant-each
invariant-each l = l.sum ≡ cut (added (λ (s : Symbol). power l.counts s.args) (take l.symbol-index l.skolems))
