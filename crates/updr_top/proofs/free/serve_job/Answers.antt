-- The files are read, or the first that can't be is refused.
use Rattle.std.proofs.Common.{ℕ, Vec, Global, inl, inr}
use Rattle.std.proofs.lemmas.Result.{err_from_is_err_and}
use Rattle.updr_words.specs.Forms.{texts}
use Rattle.updr_words.specs.Jobs.{job_of}
use Rattle.updr_table.specs.Outside.{RefusesFirst, outside}
use Rattle.updr_table.specs.Rows.{contents_of}
use Rattle.updr_table.proofs.Serving.{refused_ends, suits, wider_ends}
use Rattle.updr_top.specs.Free.{free_form}
use Rattle.updr_top.proofs.free.serve_job.Goals as goal

pub returns-in_err-contents : goal.returns-in_err-contents
returns-in_err-contents g c =
    let p = err_from_is_err_and c.from_residual.result c.from_residual.ensures.1 in
    let o = outside g.F.Files.contents g.F.Files.faults g.F.Files.refused c.args.files.now c.read_files.new.files in
    let refused = rw c.deref.ensures.value at c.in_err-contents.ensures.refused in
    rw (p.1, p.2) (refused_ends (Vec (Vec ℕ Global) Global) (RefusesFirst o (texts c.args.job.now.files.items)) _ (λ end h. inl h) c.in_err-contents.field-0.0 refused)

pub search_text-requires-after_bounds : goal.search_text-requires-after_bounds
search_text-requires-after_bounds g c κs within =
    let o = outside g.F.Files.contents g.F.Files.faults g.F.Files.refused c.args.files.now c.read_files.new.files in
    let are = rw c.deref.ensures.value at c.in_ok-contents.ensures.contents in
    rw c.deref-2.ensures.value (suits free_form c.requires.0 (job_of c.args.job.now) c.requires.1 o (contents_of c.in_ok-contents.contents.items) are)

pub returns : goal.returns
returns g c =
    let are = rw c.deref.ensures.value at c.in_ok-contents.ensures.contents in
    let ends = rw c.deref-2.ensures.value at c.search_text.ensures in
    wider_ends _ _ (λ end h. inr (contents_of c.in_ok-contents.contents.items, are, h)) c.search_text.result ends
