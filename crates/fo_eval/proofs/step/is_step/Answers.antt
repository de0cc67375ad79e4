use Rattle.std.proofs.Common.{◌∙◌, List, get_or, subst, ap}
use Rattle.fo_core.specs.declared.system.Step.{Step}
use Rattle.fo_core.specs.Runs.{LeadsOn}
use Rattle.fo_eval.proofs.FillLemmas.{CanJudge-at, no_step, one_more}
use Rattle.fo_core.proofs.Answered.{false_from}
use Rattle.std.proofs.lemmas.List.{get_or_default}
use Rattle.fo_eval.proofs.step.is_step.Goals as goal

pub leads-requires-clause-ready : goal.leads-requires-clause-ready
leads-requires-clause-ready c =
    let item = c.step-item.is ∙ ap (λ (ss : List Step). get_or ss c.each.i c.step-item.result) c.as_slice-step-items.ensures in
    let lt = rw c.as_slice-step-items.ensures at c.each-test.true in
    rw (c.each.invariant.same, item) (CanJudge-at c.args.sys.now c.args.w.now c.args.copy c.args.env.now c.each.i c.step-item.result c.requires.judge c.requires.next lt)

pub returns-clause-first : goal.returns-clause-first
returns-clause-first c =
    let le = rw c.as_slice-step-items.ensures at c.each-test.false in
    let none = rw c.as_slice-step-items.ensures at c.each.invariant.before in
    no_step c.args.sys.now c.args.w.now c.args.copy c.each.i le none

pub each-preserved : goal.each-preserved
each-preserved c =
    let Fails : Step → Type 0 = λ s. ¬ LeadsOn c.args.sys.now c.args.w.now c.args.copy s in
    let here = false_from c.leads.result c.if-leads.false c.leads.ensures.truth in
    record {
      same = c.leads.ensures.same ∙ c.each.invariant.same;
      before = one_more Fails c.as_slice-step-items.result.now c.each.i c.step-item.result c.each-test.true c.step-item.is c.each.invariant.before here;
    }

pub returns-then-leads-clause-first : goal.returns-then-leads-clause-first
returns-then-leads-clause-first c =
    let is = c.as_slice-step-items.ensures in
    let led = c.leads.ensures.truth.0 c.if-leads.true in
    record {
      state = c.is_state.ensures.truth.0 c.if-not-is_state.false;
      next_state = c.is_state-else-not-is_state.ensures.truth.0 c.if-not-is_state-2.false;
      within = rw is at c.each-test.true;
      leads = λ d. subst (λ (ss : List Step). LeadsOn c.args.sys.now c.args.w.now c.args.copy (get_or ss c.each.i d)) is
          (subst (LeadsOn c.args.sys.now c.args.w.now c.args.copy) (c.step-item.is ∙ get_or_default c.as_slice-step-items.result.now c.each.i c.step-item.result d c.each-test.true) led);
      none_before = rw is at c.each.invariant.before;
    }
