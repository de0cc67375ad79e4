use Rattle.std.proofs.Common.{◌≡◌, ◌∙◌, ℕ, Some, length, ap, ap₂}
use Rattle.up_claims.specs.declared.report.Numbers.{Numbers}
use Rattle.up_gen.specs.Models.{model_text_of}
use Rattle.up_rounds.specs.Courses.{IsRun}
use Rattle.updr_told.specs.Ends.{printing}
use Rattle.updr_told.specs.declared.status.Status.{Status}
use Rattle.updr_top.specs.Demo.{demo_line, demo_text, usual_limits}
use Rattle.updr_top.proofs.Finished.{own_limits, rounds_finished}
use Rattle.updr_top.proofs.SearchEnds.{search_ends}
use Rattle.updr_top.proofs.demo.demonstrated.Goals as goal

pub returns : goal.returns
returns c =
    let n = c.args.relations in
    let line = c.in_ok-line.line.items in
    let same : line ≡ demo_text n c.args.meant.now c.args.core c.in_ok-verdict.verdict =
    c.in_ok-line.ensures
    ∙ ap (λ (b : ℕ). demo_line n b c.status_of-status.result c.numbers-numbers.result) c.requires.length
    ∙ ap₂ (λ (s : Status) (ns : Numbers). demo_line n (length (model_text_of n)) s ns) c.status_of-status.ensures c.numbers-numbers.ensures in
    let is = c.leaving.ensures ∙ ap (λ (s : Status). printing s line (Some c.args.core)) c.status_of-status.ensures in
    λ cs. search_ends IsRun (demo_text n) usual_limits c.args.meant.now cs c.args.core c.requires.ran line c.leaving.result c.in_ok-verdict.verdict c.in_ok-verdict.ensures same is

pub told_verdict-requires : goal.told_verdict-requires
told_verdict-requires c = own_limits _ _ _ (rounds_finished _ _ _ _ c.requires.ran)
