use Rattle.updr_top.proofs.Complete.{is_complete}
use Rattle.updr_top.proofs.Shown.{is_search}
use Rattle.updr_top.proofs.top.run_plain.Goals as goal

pub returns-clause-served : goal.returns-clause-served
returns-clause-served g c =
    let answers = rw c.deref.ensures.value at c.answer-outcome.ensures in
    record { answers = answers; complete = is_complete _ _ answers.complete }

pub returns-clause-search : goal.returns-clause-search
returns-clause-search g c =
    let answers = rw c.deref.ensures.value at c.answer-outcome.ensures in
    is_search _ _ answers.answer
