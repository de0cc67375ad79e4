use Rattle.std.proofs.Common.{◌∙◌, ◌∷◌, map, sym, ap, inl, inr, Some}
use Rattle.std.specs.Prelude.{string_bytes}
use Rattle.updr_words.specs.Forms.{Form}
use Rattle.updr_table.specs.Commands.{IsNamed, MayEnd, MayEndBy}
use Rattle.updr_table.specs.Outside.{outside}
use Rattle.updr_table.proofs.Serving.{wider_ends}
use Rattle.updr_table.proofs.listing.MoreTable.serve.Goals as goal

pub returns-then-is_named : goal.returns-then-is_named
returns-then-is_named g c =
    let o = outside g.F.Files.contents g.F.Files.faults g.F.Files.refused c.args.files.now c.serve_one.new.files in
    let words = map string_bytes c.args.words.now in
    let named : IsNamed g.C.Course.command words = c.is_named.ensures.0 c.if-is_named.true ∙ ap (λ (f : Form). Some f.name) c.form.ensures in
    wider_ends (MayEndBy g.C.Course.command o words) (MayEnd (g.C.Course.command ∷ g.T.Table.commands) o words) (λ end h. inl (named, h)) c.serve_one.result c.serve_one.ensures

pub returns-else-is_named : goal.returns-else-is_named
returns-else-is_named g c =
    let o = outside g.F.Files.contents g.F.Files.faults g.F.Files.refused c.args.files.now c.serve.new.files in
    let words = map string_bytes c.args.words.now in
    let other : IsNamed g.C.Course.command words → ⊥ = λ is. let yes = c.is_named.ensures.1 (is ∙ ap (λ (f : Form). Some f.name) (sym c.form.ensures)) in let no = c.if-is_named.false in cc in
    wider_ends (MayEnd g.T.Table.commands o words) (MayEnd (g.C.Course.command ∷ g.T.Table.commands) o words) (λ end h. inr (other, h)) c.serve.result c.serve.ensures
