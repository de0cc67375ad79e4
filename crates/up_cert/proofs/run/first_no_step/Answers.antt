use Rattle.std.proofs.Common.{◌∙◌, ℕ}
use Rattle.fo_core.specs.Runs.{IsStep}
use Rattle.up_cert.proofs.SpotLemmas.{one_more, stepped, not_false}
use Rattle.up_cert.proofs.run.first_no_step.Goals as goal

pub each-preserved : goal.each-preserved
each-preserved c = record {
  same = c.is_step.ensures.same ∙ c.each.invariant.same;
  before = one_more (λ (k : ℕ). IsStep c.args.sys.now c.args.w.now k) c.each.k c.each.invariant.before (stepped c.args.sys.now c.args.w.now c.each.k c.is_step.result c.is_step.ensures.first (not_false c.is_none.result _ c.is_none.ensures c.if-is_none.false));
}
