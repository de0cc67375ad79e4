use Rattle.std.proofs.Common.{◌≡◌, ◌++◌, take}
use Rattle.prop_cdcl.proofs.Asked.{units}
use Rattle.prop_cdcl.proofs.assumptions.assumed.Given as goal

abbrev pub invariant-loop-lit : goal.invariant-loop-lit
invariant-loop-lit l = l.clauses ≡ l.initial.clauses ++ units (take l.lit-index l.assumptions)
