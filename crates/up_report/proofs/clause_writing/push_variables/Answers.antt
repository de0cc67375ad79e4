use Rattle.std.proofs.Common.{◌≡◌, ℕ, List, subst, OnOk, arith}
use Rattle.up_report.proofs.ClauseWriting.{variables_joined}
use Rattle.up_report.proofs.clause_writing.push_variables.Goals as goal

pub returns-in_ok-push_variable-in-len1-up : goal.returns-in_ok-push_variable-in-len1-up
returns-in_ok-push_variable-in-len1-up c =
    subst (λ (l : List ℕ). OnOk c.push_more_variables.result (c.push_more_variables.new.into.items ≡ l))
    (variables_joined c.args.variables.now c.args.into.now.items c.push_variable.new.into.items (omega (arith, c.in-len1-up.len_at_least)) c.in_ok-push_variable-in-len1-up.ensures)
    c.push_more_variables.ensures
