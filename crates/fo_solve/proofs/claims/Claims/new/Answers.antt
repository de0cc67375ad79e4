use Rattle.std.proofs.Common.{[]}
use Rattle.fo_solve.proofs.Switching.{axioms-switched, same-switched}
use Rattle.fo_solve.proofs.claims.Claims.new.Goals as goal

pub returns : goal.returns
returns c =
    let axioms = c.in_ok-axioms.axioms in
    let solver = c.in_ok-solver.solver in
    same-switched c.args.ground.now [] c.new-2.result.items axioms.vars solver.vars axioms.clauses solver.clauses c.new-2.ensures.items c.in_ok-solver.ensures.vars c.in_ok-solver.ensures.clauses
    (axioms-switched c.args.ground.now axioms.vars axioms.clauses c.in_ok-axioms.ensures)
