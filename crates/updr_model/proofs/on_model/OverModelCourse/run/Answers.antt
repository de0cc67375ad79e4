-- The text is refused, or a row over what it means is a row of the command.
use Rattle.std.proofs.Common.{refl, arith}
use Rattle.std.proofs.lemmas.List.{length-map}
use Rattle.std.proofs.lemmas.Result.{err_from_is_err_and}
use Rattle.pyv_sorts.specs.declared.model.Elaborated.{Elaborated}
use Rattle.updr_table.specs.Rows.{content_at, contents_of}
use Rattle.updr_table.proofs.Serving.{refused_ends, wider_ends}
use Rattle.updr_words.specs.Jobs.{job_of}
use Rattle.updr_model.specs.OnModel.{Given}
use Rattle.updr_model.specs.Texts.{RefusesText}
use Rattle.updr_model.proofs.Ending.{given_ends, short_content, text_ends}
use Rattle.updr_model.proofs.on_model.OverModelCourse.run.Goals as goal

pub content-requires : goal.content-requires
content-requires g c =
    let all = c.requires.suits.all_read in
    let some = g.met.W.OnModel.sound.model in
    let long = length-map c.args.contents.now (λ b. b.items) in
    omega (arith, all, some, long)

pub read_model-requires : goal.read_model-requires
read_model-requires g c = rw c.content.ensures (short_content (contents_of c.args.contents.now) c.requires.suits.short)

pub returns-in_err-meant : goal.returns-in_err-meant
returns-in_err-meant g c =
    let p = err_from_is_err_and c.from_residual.result c.from_residual.ensures.1 in
    let contents = contents_of c.args.contents.now in
    let refused = rw c.content.ensures at c.in_err-meant.ensures.refused in
    rw (p.1, p.2) (refused_ends Elaborated (RefusesText (content_at contents 0)) _
    (λ end h. text_ends contents (g.W.OnModel.rows (job_of c.args.job.now)) end h) c.in_err-meant.field-0.0 refused)

pub returns : goal.returns
returns g c =
    let contents = contents_of c.args.contents.now in
    let given : Given = record { meant = c.in_ok-meant.meant; contents = contents } in
    let text = rw c.content.ensures at c.in_ok-meant.ensures.found in
    wider_ends _ _
    (λ end h. given_ends contents given (record { text = text; same = refl }) (g.W.OnModel.rows (job_of c.args.job.now)) end h) c.run.result c.run.ensures
