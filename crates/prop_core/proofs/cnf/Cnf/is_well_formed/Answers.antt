use Rattle.prop_core.specs.Formula.{IsWithin}
use Rattle.prop_core.proofs.Loops.{all_next, all_end, not_all, said, denied, whole, broken}
use Rattle.prop_core.proofs.cnf.Cnf.is_well_formed.Goals as goal

pub returns-then-not-is_within : goal.returns-then-not-is_within
returns-then-not-is_within c =
    broken (not_all (IsWithin c.args.self.now.vars) _ _ _ _ c.loop-clause-test.true c.clause-item.is c.as_slice-clause-items.ensures (denied _ c.is_within.ensures c.if-not-is_within.true))

pub loop-clause-preserved : goal.loop-clause-preserved
loop-clause-preserved c =
    all_next (IsWithin c.args.self.now.vars) _ _ _ c.loop-clause-test.true c.loop-clause.invariant c.clause-item.is (said _ c.is_within.ensures c.if-not-is_within.false)

pub returns : goal.returns
returns c = whole (all_end (IsWithin c.args.self.now.vars) _ _ _ c.loop-clause-test.false c.loop-clause.invariant c.as_slice-clause-items.ensures)
