use Rattle.std.proofs.Common.{take}
use Rattle.prop_core.specs.Formula.{AreWithin}
use Rattle.prop_core.proofs.cnf.Cnf.is_well_formed.Given as goal

abbrev pub invariant-loop-clause : goal.invariant-loop-clause
invariant-loop-clause l = AreWithin l.self.vars (take l.clause-index l.clause-items)
