use Rattle.std.proofs.Common.{arith}
use Rattle.up_report.proofs.ClauseVariables.{variable_guessed}
use Rattle.up_report.proofs.clause_variables.find_variable.Goals as goal

pub returns-in-Ok : goal.returns-in-Ok
returns-in-Ok c =
    variable_guessed c.args.sorts.now c.args.ending c.args.sort c.guess-v.result c.in-Ok.e c.args.bytes.now c.in-Ok.rest.now (omega arith) (omega arith) c.if-sorts-v.false (c.in-Ok.ensures {u = tt})
