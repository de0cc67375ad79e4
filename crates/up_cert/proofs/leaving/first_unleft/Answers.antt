use Rattle.std.proofs.Common.{◌≡◌, ◌+◌, ◌∷◌, [], ℕ, None, refl, sym, ◌∙◌, subst, arith}
use Rattle.fo_core.proofs.Answered.{false_from}
use Rattle.up_claims.specs.declared.verdict.Verdict.TheVariants.{Bounded}
use Rattle.up_claims.specs.Verdicts.{IsLeave}
use Rattle.up_cert.specs.declared.spot.What.TheVariants as what
use Rattle.up_cert.specs.Trying.{Looks}
use Rattle.up_cert.specs.VerdictSpots.{spot, leaves_to}
use Rattle.up_cert.proofs.LookLemmas.{looks-more, looks-wrong, look-passes, look-fails}
use Rattle.up_cert.proofs.PassLemmas.{leaf}
use Rattle.up_cert.proofs.leaving.first_unleft.Goals as goal

pub returns-then-not-branch-clause-looks : goal.returns-then-not-branch-clause-looks
returns-then-not-branch-clause-looks c =
    let sys = c.args.sys.now in
    let clauses = c.args.clauses.now in
    let leaves = c.args.leaves.now in
    let told = Bounded c.args.last clauses leaves in
    let k = c.each.k in
    let fails = false_from c.in_ok-is_leave.field-0 c.if-not-branch.true (rw c.leave_of-leave.ensures at c.in_ok-is_leave.ensures.shown) in
    looks-wrong sys told (λ (j : ℕ). spot what.Leave (j + 1) ∷ []) c.args.last k (spot what.Leave (k + 1)) c.each-test.true c.each.invariant.passed
    (look-fails sys told (spot what.Leave (k + 1)) refl (λ h. fails (subst (IsLeave sys clauses (k + 1)) (leaf sys c.args.last clauses leaves k) h)))

pub each-preserved : goal.each-preserved
each-preserved c =
    let sys = c.args.sys.now in
    let clauses = c.args.clauses.now in
    let leaves = c.args.leaves.now in
    let told = Bounded c.args.last clauses leaves in
    let k = c.each.k in
    let left = (rw c.leave_of-leave.ensures at c.in_ok-is_leave.ensures.shown).0 c.if-not-branch.false in
    record {
      same = c.in_ok-is_leave.ensures.same ∙ c.each.invariant.same;
      passed = looks-more sys told (λ (j : ℕ). spot what.Leave (j + 1) ∷ []) k c.each.invariant.passed
          (look-passes sys told (spot what.Leave (k + 1)) refl (subst (IsLeave sys clauses (k + 1)) (sym (leaf sys c.args.last clauses leaves k)) left));
    }

pub returns-clause-looks : goal.returns-clause-looks
returns-clause-looks c =
    let end : c.each.k ≡ c.args.last = omega (arith, c.each-test.false, c.each.auto.k-end) in
    subst (λ (n : ℕ). Looks c.args.sys.now (Bounded c.args.last c.args.clauses.now c.args.leaves.now) (leaves_to n) None) end c.each.invariant.passed
