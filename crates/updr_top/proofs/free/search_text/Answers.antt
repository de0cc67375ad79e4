-- The text or the system is refused, or the search ends by a row of the table.
use Rattle.std.proofs.Common.{arith}
use Rattle.std.proofs.lemmas.List.{length-map}
use Rattle.std.proofs.lemmas.Result.{err_from_is_err_and}
use Rattle.fo_core.specs.declared.order.Order.{Order}
use Rattle.fo_core.specs.declared.order.Purpose.TheVariants as purpose
use Rattle.pyv_sorts.specs.declared.model.Elaborated.{Elaborated}
use Rattle.updr_table.specs.Rows.{content_at, contents_of}
use Rattle.updr_table.proofs.Serving.{refused_ends}
use Rattle.updr_model.specs.Cycles.{RefusesSystem}
use Rattle.updr_model.specs.Texts.{RefusesText}
use Rattle.updr_model.proofs.Ending.{short_content}
use Rattle.updr_words.specs.Jobs.{job_of}
use Rattle.updr_top.proofs.FreeEnds.{of_cycle, of_search, of_text}
use Rattle.updr_top.proofs.free.search_text.Goals as goal

pub content-requires : goal.content-requires
content-requires g c =
    let all = c.requires.all_read in
    let long = length-map c.args.contents.now (λ b. b.items) in
    omega (arith, all, long)

pub read_model-requires : goal.read_model-requires
read_model-requires g c = rw c.content.ensures (short_content (contents_of c.args.contents.now) c.requires.short)

pub returns-in_err-meant : goal.returns-in_err-meant
returns-in_err-meant g c =
    let p = err_from_is_err_and c.from_residual.result c.from_residual.ensures.1 in
    let contents = contents_of c.args.contents.now in
    let refused = rw c.content.ensures at c.in_err-meant.ensures.refused in
    rw (p.1, p.2) (refused_ends Elaborated (RefusesText (content_at contents 0)) _
    (λ end h. of_text (job_of c.args.job.now) contents end h) c.in_err-meant.field-0.0 refused)

pub returns-in_err-order : goal.returns-in_err-order
returns-in_err-order g c =
    let p = err_from_is_err_and c.from_residual-in_err-order.result c.from_residual-in_err-order.ensures.1 in
    let contents = contents_of c.args.contents.now in
    let meant = c.in_ok-meant.meant in
    let means = rw c.content.ensures at c.in_ok-meant.ensures.found in
    rw (p.1, p.2) (refused_ends Order (RefusesSystem purpose.Infer meant.sys meant.names) _
    (λ end h. of_cycle (job_of c.args.job.now) contents end meant means h) c.in_err-order.field-0.0 c.in_err-order.ensures.refused)

pub returns : goal.returns
returns g c =
    let contents = contents_of c.args.contents.now in
    let means = rw c.content.ensures at c.in_ok-meant.ensures.found in
    of_search (job_of c.args.job.now) contents c.in_ok-search.field-0 c.in_ok-meant.meant means (c.in_ok-order.order.numbers, c.in_ok-order.ensures.rises) (c.in_ok-search.ensures contents)
