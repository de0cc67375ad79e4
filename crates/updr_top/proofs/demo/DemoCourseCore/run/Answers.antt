-- The text that is made is refused, or a row over what it means is a row of the command.
use denote.Param.Send.{sendable}
use Rattle.std.proofs.Common.{◌≡◌, ◌∙◌, ◌≤◌, List, ℕ, [], ◌∷◌, length, sym, subst, ap, arith}
use Rattle.std.proofs.lemmas.Result.{err_from_is_err_and}
use Rattle.fo_core.specs.declared.order.Order.{Order}
use Rattle.fo_core.specs.declared.order.Purpose.TheVariants as purpose
use Rattle.fo_solve.proofs.Crossing.{engine_send}
use Rattle.pyv_sorts.specs.declared.model.Elaborated.{Elaborated}
use Rattle.up_gen.specs.Models.{model_text_of}
use Rattle.updr_table.specs.Rows.{Ends, contents_of}
use Rattle.updr_table.proofs.Serving.{refused_ends}
use Rattle.updr_model.specs.Cycles.{RefusesSystem}
use Rattle.updr_model.specs.Texts.{MeansText, RefusesText}
use Rattle.updr_top.specs.Demo.{demo_table, relations_of}
use Rattle.updr_top.proofs.DemoEnds.{of_cycle, of_search, of_text}
use Rattle.updr_words.specs.Jobs.{job_of}
use Rattle.updr_top.proofs.demo.DemoCourseCore.run.Goals as goal

pub read_model-requires : goal.read_model-requires
read_model-requires g c =
    let same = c.as_bytes-bytes.ensures.value ∙ c.as_str.ensures in
    let long : length c.as_bytes-bytes.result.now ≤ 2000 = subst (λ (t : List ℕ). length t ≤ 2000) (sym same) c.in_ok-text.ensures.short in
    omega (arith, long)

pub returns-in_err-meant : goal.returns-in_err-meant
returns-in_err-meant g c =
    let p = err_from_is_err_and c.from_residual-in_err-meant.result c.from_residual-in_err-meant.ensures.1 in
    let cs = contents_of c.args._contents.now in
    let n = relations_of (job_of c.args.job.now) in
    let text = c.as_bytes-bytes.result.now in
    let made : text ≡ model_text_of n = c.as_bytes-bytes.ensures.value ∙ c.as_str.ensures ∙ c.in_ok-text.ensures.text ∙ ap model_text_of c.relations_by-relations.ensures.is in
    rw (p.1, p.2) (refused_ends Elaborated (RefusesText text) _
    (λ end h. of_text n cs end text made h) c.in_err-meant.field-0.0 c.in_err-meant.ensures.refused)

pub returns-in_err-order : goal.returns-in_err-order
returns-in_err-order g c =
    let p = err_from_is_err_and c.from_residual-in_err-order.result c.from_residual-in_err-order.ensures.1 in
    let cs = contents_of c.args._contents.now in
    let n = relations_of (job_of c.args.job.now) in
    let meant = c.in_ok-meant.meant in
    let made : c.as_bytes-bytes.result.now ≡ model_text_of n = c.as_bytes-bytes.ensures.value ∙ c.as_str.ensures ∙ c.in_ok-text.ensures.text ∙ ap model_text_of c.relations_by-relations.ensures.is in
    let means = subst (λ (t : List ℕ). MeansText t meant.sys meant.names) made c.in_ok-meant.ensures.found in
    rw (p.1, p.2) (refused_ends Order (RefusesSystem purpose.Infer meant.sys meant.names) _
    (λ end h. of_cycle n cs end meant means h) c.in_err-order.field-0.0 c.in_err-order.ensures.refused)

pub returns : goal.returns
returns g c =
    let cs = contents_of c.args._contents.now in
    let n = relations_of (job_of c.args.job.now) in
    let meant = c.in_ok-meant.meant in
    let made : c.as_bytes-bytes.result.now ≡ model_text_of n = c.as_bytes-bytes.ensures.value ∙ c.as_str.ensures ∙ c.in_ok-text.ensures.text ∙ ap model_text_of c.relations_by-relations.ensures.is in
    let means = subst (λ (t : List ℕ). MeansText t meant.sys meant.names) made c.in_ok-meant.ensures.found in
    let end = c.in_ok-demonstrated.field-0 in
    let ends = subst (λ (k : ℕ). Ends (demo_table k) (record { meant = meant; contents = model_text_of n ∷ [] }) end) c.relations_by-relations.ensures.is (c.in_ok-demonstrated.ensures (model_text_of n ∷ [])) in
    of_search n cs end meant means (c.in_ok-order.order.numbers, c.in_ok-order.ensures.rises) ends

pub infer_rounds-requires-send-M-One : goal.infer_rounds-requires-send-M-One
infer_rounds-requires-send-M-One g c κs within = search (sendable, engine_send)
