use Rattle.std.proofs.Common.{◌≡◌, ◌≤◌, Some, get_or, length, not, true, slice_get, subst, sym, ap, ◌∙◌, arith}
use Rattle.std.proofs.lemmas.Option.{slice_get-get_or}
use Rattle.up_machine.proofs.Lists.{both_true}
use Rattle.up_core.specs.Choice.{has_job, is_push_of, is_to_push, may_rise}
use Rattle.up_core.proofs.Chosen.{not-out, push-may}
use Rattle.up_core.proofs.Placed.{placed, first-listed, none-before-more, none-listed}
use Rattle.up_core.proofs.tasks.next_push.Goals as goal

pub returns-then-not-push_is_out : goal.returns-then-not-push_is_out
returns-then-not-push_is_out c =
    let s = c.args.clauses.now in
    let js = c.args.jobs.now in
    let k = get_or c.due-due.result.now c.each.k-index 0 in
    let at = subst (λ ks. slice_get ks c.each.k-index ≡ Some k) c.due-due.ensures (slice_get-get_or c.due-due.result.now c.each.k-index 0 (omega (arith, c.each-test.true, c.each.auto.k-index-end))) in
    let e = placed (may_rise s.frontier) s.items c.each.k-index k at in
    first-listed (may_rise s.frontier) s.items (λ k e. is_to_push s.frontier js k e ≡ true) (push-may s.frontier js) c.each.k-index k e.element c.each.invariant at e.there
    (both_true (may_rise s.frontier e.element) (not (has_job (is_push_of k) js)) e.passes (ap not (sym c.push_is_out.ensures ∙ c.if-not-push_is_out.true)))

pub each-preserved : goal.each-preserved
each-preserved c =
    let s = c.args.clauses.now in
    let js = c.args.jobs.now in
    let k = get_or c.due-due.result.now c.each.k-index 0 in
    let at = subst (λ ks. slice_get ks c.each.k-index ≡ Some k) c.due-due.ensures (slice_get-get_or c.due-due.result.now c.each.k-index 0 (omega (arith, c.each-test.true, c.each.auto.k-index-end))) in
    let e = placed (may_rise s.frontier) s.items c.each.k-index k at in
    none-before-more (may_rise s.frontier) s.items (λ k e. is_to_push s.frontier js k e ≡ true) (push-may s.frontier js) c.each.k-index k e.element c.each.invariant at e.there
    (not-out s.frontier js k e.element (ap not (sym c.push_is_out.ensures ∙ c.if-not-push_is_out.false)))

pub returns : goal.returns
returns c =
    let s = c.args.clauses.now in
    none-listed (may_rise s.frontier) s.items (λ k e. is_to_push s.frontier c.args.jobs.now k e ≡ true) (push-may s.frontier c.args.jobs.now) c.each.k-index c.each.invariant
    (subst (λ ks. length ks ≤ c.each.k-index) c.due-due.ensures (omega (arith, c.each-test.false, c.each.auto.k-index-end)))
