-- The words are read by the form with `--free`, and served where they give it.
use Rattle.std.proofs.Common.{◌∙◌, ℕ, List, map, refl, subst, sym}
use Rattle.std.specs.Prelude.{string_bytes}
use Rattle.updr_words.specs.Forms.{Form, form_of}
use Rattle.updr_words.specs.Jobs.{IsJob, job_of}
use Rattle.updr_table.specs.Outside.{outside}
use Rattle.updr_table.proofs.Serving.{wider_ends}
use Rattle.updr_top.proofs.FreeWords.{may_end, not_given, not_read}
use Rattle.updr_top.proofs.free.serve_free.Goals as goal

pub serve_job-requires-after_bounds : goal.serve_job-requires-after_bounds
serve_job-requires-after_bounds g c κs within =
    let words : List (List ℕ) = map string_bytes c.args.words.now in
    (words, subst (λ (f : Form). IsJob f words (job_of c.in-Ok.job)) c.free_form-form.ensures c.in-Ok.ensures.found)

pub returns-then-index-clause-served : goal.returns-then-index-clause-served
returns-then-index-clause-served g c =
    let words : List (List ℕ) = map string_bytes c.args.words.now in
    let o = outside g.F.Files.contents g.F.Files.faults g.F.Files.refused c.args.files.now c.serve_job.new.files in
    wider_ends _ _ (λ end h. may_end words (form_of c.free_form-form.result) c.free_form-form.ensures (c.if-not-is_named.ensures.0 refl) (job_of c.in-Ok.job) c.in-Ok.ensures.found _ (sym c.if-index.true ∙ c.index.ensures) o end h) c.serve_job.result c.serve_job.ensures

pub returns-in-Ok-clause-others : goal.returns-in-Ok-clause-others
returns-in-Ok-clause-others g c =
    let words : List (List ℕ) = map string_bytes c.args.words.now in
    λ _. not_given words (form_of c.free_form-form.result) c.free_form-form.ensures (job_of c.in-Ok.job) c.in-Ok.ensures.found _ (sym c.if-index.false ∙ c.index.ensures)

pub returns-in-Err-Usage-clause-others : goal.returns-in-Err-Usage-clause-others
returns-in-Err-Usage-clause-others g c =
    let words : List (List ℕ) = map string_bytes c.args.words.now in
    let none = rw c.in-Err-Usage.field-0-is at c.in-Err-Usage.ensures.none in
    λ _. not_read words (form_of c.free_form-form.result) c.free_form-form.ensures (none refl)
