-- The words are read, the files are read, and then the command's table decides.
use Rattle.std.proofs.Common.{ℕ, Vec, Global, map, sym, subst, refl}
use Rattle.std.specs.Prelude.{string_bytes}
use Rattle.std.proofs.lemmas.Result.{err_from_is_err_and}
use Rattle.updr_words.specs.Forms.{Form, IsSimple, form_of, texts}
use Rattle.updr_words.specs.Jobs.{job_of}
use Rattle.updr_table.specs.Commands.{MayEndBy, Suits}
use Rattle.updr_table.specs.Outside.{RefusesFirst, outside}
use Rattle.updr_table.specs.Rows.{contents_of}
use Rattle.updr_table.proofs.Serving.{asks_nothing, ran, refused_ends, refused_first, suits, wider_ends}
use Rattle.updr_table.proofs.listing.serve_one.Goals as goal

pub read-requires : goal.read-requires
read-requires g c = subst (λ (f : Form). IsSimple f) (sym c.form.ensures) g.met.C.Course.sound.simple

pub returns-in_err-contents-in-Ok : goal.returns-in_err-contents-in-Ok
returns-in_err-contents-in-Ok g c =
    let p = err_from_is_err_and c.from_residual.result c.from_residual.ensures.1 in
    let o = outside g.F.Files.contents g.F.Files.faults g.F.Files.refused c.args.files.now c.read_files.new.files in
    let words = map string_bytes c.args.words.now in
    let refused = rw c.deref.ensures.value at c.in_err-contents-in-Ok.ensures.refused in
    rw (p.1, p.2) (refused_ends (Vec (Vec ℕ Global) Global) (RefusesFirst o (texts c.in-Ok.job.files.items)) (MayEndBy g.C.Course.command o words)
    (refused_first g.C.Course.command o words (form_of c.form.result) c.form.ensures (job_of c.in-Ok.job) c.in-Ok.ensures.found)
    c.in_err-contents-in-Ok.field-0.0 refused)

pub run-requires-clause-suits : goal.run-requires-clause-suits
run-requires-clause-suits g c =
    let o = outside g.F.Files.contents g.F.Files.faults g.F.Files.refused c.args.files.now c.read_files.new.files in
    let words = map string_bytes c.args.words.now in
    let are = rw c.deref.ensures.value at c.in_ok-contents-in-Ok.ensures.contents in
    let job = job_of c.in-Ok.job in
    let contents = contents_of c.in_ok-contents-in-Ok.contents.items in
    rw c.deref-in-Ok.ensures.value (subst (λ (f : Form). Suits f job contents) c.form.ensures (suits (form_of c.form.result) words job c.in-Ok.ensures.found o contents are))

pub returns-in_ok-contents-in-Ok : goal.returns-in_ok-contents-in-Ok
returns-in_ok-contents-in-Ok g c =
    let o = outside g.F.Files.contents g.F.Files.faults g.F.Files.refused c.args.files.now c.read_files.new.files in
    let words = map string_bytes c.args.words.now in
    let are = rw c.deref.ensures.value at c.in_ok-contents-in-Ok.ensures.contents in
    let ends = rw c.deref-in-Ok.ensures.value at c.run.ensures in
    wider_ends _ _ (ran g.C.Course.command o words (form_of c.form.result) c.form.ensures (job_of c.in-Ok.job) c.in-Ok.ensures.found _ are) c.run.result ends

pub returns-in-Err-Usage : goal.returns-in-Err-Usage
returns-in-Err-Usage g c =
    let o = outside g.F.Files.contents g.F.Files.faults g.F.Files.refused c.args.files.now c.args.files.now in
    let words = map string_bytes c.args.words.now in
    let none = rw c.in-Err-Usage.field-0-is at c.in-Err-Usage.ensures.none in
    wider_ends _ _ (asks_nothing g.C.Course.command o words (form_of c.form.result) c.form.ensures (none refl)) c.usage.result c.usage.ensures
