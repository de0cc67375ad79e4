use Rattle.prop_core.specs.Formula.{MeetsClause, value_of}
use Rattle.prop_core.proofs.Loops.{all_next, all_end, not_all, said, denied, whole, broken}
use Rattle.prop_core.proofs.cnf.Cnf.is_met.Goals as goal

pub returns-then-not-is_met : goal.returns-then-not-is_met
returns-then-not-is_met c =
    broken (not_all (MeetsClause (value_of c.args.values.now)) _ _ _ _ c.loop-clause-test.true c.clause-item.is c.as_slice-clause-items.ensures (denied _ c.is_met.ensures c.if-not-is_met.true))

pub loop-clause-preserved : goal.loop-clause-preserved
loop-clause-preserved c =
    all_next (MeetsClause (value_of c.args.values.now)) _ _ _ c.loop-clause-test.true c.loop-clause.invariant c.clause-item.is (said _ c.is_met.ensures c.if-not-is_met.false)

pub returns : goal.returns
returns c = whole (all_end (MeetsClause (value_of c.args.values.now)) _ _ _ c.loop-clause-test.false c.loop-clause.invariant c.as_slice-clause-items.ensures)
