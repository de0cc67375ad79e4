use Rattle.std.proofs.Common.{take}
use Rattle.prop_core.specs.Formula.{MeetsAll, value_of}
use Rattle.prop_core.proofs.cnf.Cnf.is_met.Given as goal

abbrev pub invariant-loop-clause : goal.invariant-loop-clause
invariant-loop-clause l = MeetsAll (value_of l.values) (take l.clause-index l.clause-items)
