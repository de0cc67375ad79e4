use Rattle.std.proofs.Common.{◌<◌, ◌≤◌, ℕ, length, arith, below_more}
use Rattle.fo_core.proofs.Answered.{never, always, false_from}
use Rattle.up_claims.specs.Frames.{Avoids}
use Rattle.up_claims.specs.Verdicts.{cubes_from}
use Rattle.up_cert.specs.Clauses.{IsExcluded}
use Rattle.up_cert.specs.VerdictSpots.{clause_at}
use Rattle.up_cert.proofs.FrameLemmas.{outside, not-outside}
use Rattle.up_cert.proofs.HaltLemmas.{clause-cube}
use Rattle.up_cert.proofs.leaving.is_outside.Goals as goal

pub is_excluded-requires-clause-cube : goal.is_excluded-requires-clause-cube
is_excluded-requires-clause-cube c =
    let lt : c.each.k < length c.args.clauses.now = omega (arith, c.each-test.true) in
    rw c.clause_of-kept.ensures (clause-cube c.args.sys.now.sig c.args.clauses.now c.each.k c.requires.clauses.sorted lt)

pub returns-then-branch : goal.returns-then-branch
returns-then-branch c =
    let lt : c.each.k < length c.args.clauses.now = omega (arith, c.each-test.true) in
    let excluded = (rw c.clause_of-kept.ensures at c.in_ok-is_excluded.ensures).0 c.if-branch.true in
    never (Avoids c.args.sys.now.sig c.args.w.now 0 (cubes_from c.args.clauses.now c.args.level))
    (not-outside c.args.sys.now c.args.w.now c.args.level c.args.clauses.now c.each.k lt excluded)

pub each-preserved : goal.each-preserved
each-preserved c =
    below_more (λ (j : ℕ). ¬ IsExcluded c.args.sys.now c.args.w.now c.args.level (clause_at c.args.clauses.now j)) c.each.k c.each.invariant
    (false_from c.in_ok-is_excluded.field-0 c.if-branch.false (rw c.clause_of-kept.ensures at c.in_ok-is_excluded.ensures))

pub returns : goal.returns
returns c =
    let le : length c.args.clauses.now ≤ c.each.k = omega (arith, c.each-test.false) in
    always (Avoids c.args.sys.now.sig c.args.w.now 0 (cubes_from c.args.clauses.now c.args.level))
    (outside c.args.sys.now c.args.w.now c.args.level c.args.clauses.now (λ j lt. c.each.invariant j (omega (arith, lt, le))))
