use Rattle.up_cert.proofs.AskedLemmas.{safe-clauses, bounded-clauses}
use Rattle.up_cert.proofs.judging.judge.Goals as goal

pub judge_safe-requires-clause-clauses : goal.judge_safe-requires-clause-clauses
judge_safe-requires-clause-clauses g c =
    rw c.as_slice.ensures
    (safe-clauses c.args.sys.now c.args.order.now c.in-Safe.field-0 c.in-Safe.clauses (rw c.in-Safe.is at c.requires.asked))

pub judge_bounded-requires-clause-clauses : goal.judge_bounded-requires-clause-clauses
judge_bounded-requires-clause-clauses g c =
    rw c.as_slice-in-Bounded.ensures
    (bounded-clauses c.args.sys.now c.args.order.now c.in-Bounded.last c.in-Bounded.clauses c.in-Bounded.leaves (rw c.in-Bounded.is at c.requires.asked))
