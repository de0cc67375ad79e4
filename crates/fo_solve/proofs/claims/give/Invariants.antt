use Rattle.std.proofs.Common.{◌≡◌, ◌++◌, take}
use Rattle.fo_solve.proofs.claims.give.Given as goal

-- the clauses so far were given
abbrev pub invariant-each : goal.invariant-each
invariant-each l = record {
  vars : l.solver.vars ≡ l.fn.solver.vars;
  clauses : l.solver.clauses ≡ l.fn.solver.clauses ++ take l.clause-index l.clauses;
}
