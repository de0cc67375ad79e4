-- The report is refused, or the system is, or what is judged is a row of the command.
use Rattle.std.proofs.Common.{◌≡◌, ◌∙◌, arith}
use Rattle.std.proofs.lemmas.List.{get_or_default}
use Rattle.std.proofs.lemmas.Result.{err_from_is_err_and}
use Rattle.fo_core.specs.declared.order.Order.{Order}
use Rattle.fo_core.specs.declared.order.Purpose.TheVariants.{Infer}
use Rattle.up_claims.specs.declared.report.Report.{Report}
use Rattle.up_core.specs.View.{CoreView}
use Rattle.updr_told.specs.Ends.{End}
use Rattle.updr_table.specs.Rows.{content_at, contents_of}
use Rattle.updr_table.proofs.Serving.{refused_ends}
use Rattle.updr_words.specs.Jobs.{job_of}
use Rattle.updr_model.specs.Cycles.{RefusesSystem}
use Rattle.updr_model.specs.OnModel.{Given}
use Rattle.updr_top.specs.Check.{check_limit, judge_table}
use Rattle.updr_top.specs.Reading.{IsTheReport, RefusesReport}
use Rattle.updr_top.specs.Reported.{IsAsked, if_ordered}
use Rattle.updr_top.proofs.Judgeable.{can_judge}
use Rattle.updr_top.proofs.ReportEnds.{both_refused, judged_ends, short_second, unordered_ends, unread_ends}
use Rattle.updr_top.proofs.check.CheckOnModelCore.run.Goals as goal

pub returns-in_err-report : goal.returns-in_err-report
returns-in_err-report g c =
    let p = err_from_is_err_and c.from_residual.result c.from_residual.ensures.1 in
    let given : Given = record { meant = c.args.meant.now; contents = contents_of c.args.contents.now } in
    let rows = judge_table (check_limit (job_of c.args.job.now)) in
    let refused = rw c.content.ensures at c.in_err-report.ensures.refused in
    rw (p.1, p.2) (refused_ends Report (RefusesReport given.meant (content_at given.contents 1)) _
    (λ end h. unread_ends given (if_ordered rows) end h) c.in_err-report.field-0.0 refused)

pub returns-in_err-order : goal.returns-in_err-order
returns-in_err-order g c =
    let p = err_from_is_err_and c.from_residual-in_err-order.result c.from_residual-in_err-order.ensures.1 in
    let given : Given = record { meant = c.args.meant.now; contents = contents_of c.args.contents.now } in
    let rows = judge_table (check_limit (job_of c.args.job.now)) in
    let report = c.in_ok-report.report in
    let is : IsTheReport given.meant (content_at given.contents 1) report = rw c.content.ensures at c.in_ok-report.ensures.found in
    let both = both_refused Order c.in_err-order.field-0.0 (λ (end : End CoreView). IsAsked report.verdict) (RefusesSystem Infer given.meant.sys given.meant.names) c.in_err-order.ensures.asked c.in_err-order.ensures.refused in
    rw (p.1, p.2) (refused_ends Order (λ end. IsAsked report.verdict × RefusesSystem Infer given.meant.sys given.meant.names end) _
    (λ end h. unordered_ends given report is rows end h.0 h.1) c.in_err-order.field-0.0 both)

pub judged-requires : goal.judged-requires
judged-requires g c =
    let contents = contents_of c.args.contents.now in
    let is : IsTheReport c.args.meant.now (content_at contents 1) c.in_ok-report.report = rw c.content.ensures at c.in_ok-report.ensures.found in
    can_judge c.args.meant.now (content_at contents 1) c.in_ok-report.report c.in_ok-order.order c.requires.model is.is (short_second contents c.requires.suits.short) c.in_ok-order.ensures.rises

pub returns : goal.returns
returns g c =
    let given : Given = record { meant = c.args.meant.now; contents = contents_of c.args.contents.now } in
    let limit = check_limit (job_of c.args.job.now) in
    let report = c.in_ok-report.report in
    let is : IsTheReport given.meant (content_at given.contents 1) report = rw c.content.ensures at c.in_ok-report.ensures.found in
    let one = c.requires.suits.given in
    let same : c.finder-finder.result.limit ≡ limit =
    c.finder-finder.ensures ∙ c.index.ensures ∙ get_or_default c.args.job.now.numbers.items 0 c.index.result.now 0 (omega (arith, one)) in
    judged_ends given report is c.in_ok-order.order c.in_ok-order.ensures.rises (judge_table limit) c.in_ok-judged.field-0 (rw same at c.in_ok-judged.ensures given.contents)
