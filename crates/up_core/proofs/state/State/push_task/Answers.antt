use Rattle.std.proofs.Common.{subst, None, Some}
use Rattle.up_core.specs.Choice.{IsFirstPlace, is_to_push}
use Rattle.up_core.proofs.Chosen.{push-none, push-some}
use Rattle.up_core.proofs.state.State.push_task.Goals as goal

pub returns-in-Some : goal.returns-in-Some
returns-in-Some c sys limits history m mirror =
    let s = c.args.self.now in
    push-some sys limits history m s mirror c.in-Some.k
    (subst (λ js. IsFirstPlace s.clauses.items (is_to_push s.clauses.frontier js) (Some c.in-Some.k)) c.as_slice.ensures.value c.in-Some.ensures)

pub returns-in-None : goal.returns-in-None
returns-in-None c sys limits history m mirror =
    let s = c.args.self.now in
    push-none sys limits history m s mirror
    (subst (λ js. IsFirstPlace s.clauses.items (is_to_push s.clauses.frontier js) None) c.as_slice.ensures.value c.in-None.ensures)
