use Rattle.std.proofs.Common.{◌∙◌, ℕ}
use Rattle.fo_core.specs.Runs.{IsState}
use Rattle.up_cert.proofs.SpotLemmas.{one_more}
use Rattle.up_cert.proofs.run.first_no_state.Goals as goal

pub each-preserved : goal.each-preserved
each-preserved c = record {
  same = c.is_state.ensures.same ∙ c.each.invariant.same;
  before = one_more (λ (k : ℕ). IsState c.args.sys.now c.args.w.now k) c.each.k c.each.invariant.before (c.is_state.ensures.truth.0 c.if-not-is_state.false);
}
