use Rattle.std.proofs.Common.{refl}
use Rattle.prop_cdcl.proofs.Asked.{within_units, units_end}
use Rattle.prop_cdcl.proofs.assumptions.assumed.Goals as goal

pub returns-clause-within : goal.returns-clause-within
returns-clause-within c =
    within_units _ _ _ _ _ c.in_ok-clauses.ensures.within c.requires c.vars.ensures (units_end _ _ _ _ _ _ c.loop-lit-test.false c.loop-lit.invariant c.in_ok-clauses.ensures.value refl)
