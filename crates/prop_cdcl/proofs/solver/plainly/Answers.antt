use Rattle.prop_cdcl.proofs.Asked.{plain_values, plain_denied}
use Rattle.prop_cdcl.proofs.solver.plainly.Goals as goal

pub returns-in-Sat : goal.returns-in-Sat
returns-in-Sat c =
    let said = rw c.in-Sat.is at c.in_ok-values.ensures.answer in
    plain_values _ _ _ _ _ _ c.in_ok-cnf.ensures.vars c.in_ok-cnf.ensures.clauses said

pub returns : goal.returns
returns c =
    let said = rw c.in-Unsat.is at c.in_ok-values.ensures.exact in
    plain_denied _ _ _ _ c.in_ok-cnf.ensures.clauses (said.0 tt) c.in_ok-all_denied-in-Unsat.ensures
