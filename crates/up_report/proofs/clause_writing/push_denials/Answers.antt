use Rattle.std.proofs.Common.{◌≡◌, ℕ, List, subst, OnOk}
use Rattle.up_report.proofs.ClauseWriting.{denials_joined, is_there}
use Rattle.up_report.proofs.clause_writing.push_denials.Goals as goal

pub returns : goal.returns
returns c =
    subst (λ (l : List ℕ). OnOk c.push_more_denials.result (c.push_more_denials.new.into.items ≡ l))
    (denials_joined c.args.names.now c.args.lits.now c.index-lits-0.result c.args.into.now.items c.push_denial.new.into.items (is_there _ _ c.is_empty.ensures c.if-is_empty.false) c.index-lits-0.is c.in_ok-push_denial.ensures)
    c.push_more_denials.ensures
