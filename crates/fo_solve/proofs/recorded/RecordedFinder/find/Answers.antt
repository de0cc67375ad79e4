use Rattle.std.proofs.Common.{subst}
use Rattle.fo_solve.specs.Answering.{Record, AreAnswers}
use Rattle.fo_solve.proofs.NextLemmas.{next_answers, next_same}
use Rattle.fo_solve.proofs.recorded.RecordedFinder.find.Goals as goal

pub returns-in_default-clause-handed : goal.returns-in_default-clause-handed
returns-in_default-clause-handed c answer next = absurd (c.in_default.ensures answer next)

pub returns-in_default-clause-kept : goal.returns-in_default-clause-kept
returns-in_default-clause-kept c answer next = absurd (c.in_default.ensures answer next)

pub returns-clause-found : goal.returns-clause-found
returns-clause-found c =
    let all = subst (λ (r : Record). AreAnswers r.sys.sig r.limit r.kept) c.self.view_is c.self.invariant.1 in
    rw c.in_ok-found.ensures (next_answers c.args.self.now c.args.sys.now c.args.q.now c.in-Some.kept.now all c.in-Some.ensures)

pub returns-clause-kept : goal.returns-clause-kept
returns-clause-kept c answer next =
    rw c.in_ok-found.ensures (next_same c.args.self.now c.args.sys.now c.args.q.now c.in-Some.kept.now answer c.in-Some.ensures next)

pub returns-clause-anew : goal.returns-clause-anew
returns-clause-anew c none = absurd (none c.in-Some.kept.now c.in-Some.ensures)
