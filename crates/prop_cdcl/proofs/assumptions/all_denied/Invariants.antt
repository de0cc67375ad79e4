use Rattle.std.proofs.Common.{◌≡◌, map, take}
use Rattle.prop_core.specs.Formula.{negated}
use Rattle.prop_cdcl.proofs.assumptions.all_denied.Given as goal

abbrev pub invariant-loop-lit : goal.invariant-loop-lit
invariant-loop-lit l = l.clause ≡ map negated (take l.lit-index l.assumptions)
