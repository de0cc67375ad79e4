use Rattle.std.proofs.Common.{◌∙◌, List, ℕ, Some, ap₂}
use Rattle.updr_told.specs.Ends.{printing}
use Rattle.updr_told.specs.declared.status.Status.{Status}
use Rattle.updr_top.proofs.infer.reported.Goals as goal

pub returns : goal.returns
returns c = record {
  verdict = c.in_ok-verdict.verdict;
  told = c.in_ok-verdict.ensures;
  is = c.leaving.ensures ∙ ap₂ (λ (s : Status) (text : List ℕ). printing s text (Some c.args.core)) c.status_of-status.ensures c.in_ok-text.ensures;
}
