use Rattle.std.proofs.Common.{ap, subst, ◌∙◌}
use Rattle.up_machine.proofs.Lists.{some_injective}
use Rattle.up_core.specs.declared.state.ClauseEntry.{ClauseEntry}
use Rattle.up_core.specs.Refuting.{IsFirstMet, pushed_in}
use Rattle.up_core.proofs.refuting.fail_refuter.Goals as goal

pub returns-in-Some-clause-first : goal.returns-in-Some-clause-first
returns-in-Some-clause-first c entry is =
    let s = c.args.state.now in
    let w = c.args.worker in
    let found = c.in-Some.ensures ∙ ap (λ cs. pushed_in w cs c.as_slice.result.now) c.entries.ensures ∙ ap (pushed_in w s.clauses.items) c.as_slice.ensures.value in
    let same = some_injective c.in-Some.entry entry (found ∙ is) in
    subst (λ (e : ClauseEntry). IsFirstMet c.args.history.now c.args.sig.now c.args.w.now e.level s.clauses.items c.first_refuter.result) same
    c.first_refuter.ensures.first
