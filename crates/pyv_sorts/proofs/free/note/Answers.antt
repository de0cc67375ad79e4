use Rattle.std.proofs.Common.{◌≡◌, ◌∙◌, ap, sym}
use Rattle.pyv_sorts.specs.Placing.{name_in, names_in}
use Rattle.pyv_sorts.proofs.Numbering.{first_new, first_old}
use Rattle.pyv_sorts.proofs.Picking.{names_more}
use Rattle.pyv_sorts.proofs.free.note.Goals as goal

pub returns-in_ok-add-in-None-clause-firsts : goal.returns-in_ok-add-in-None-clause-firsts
returns-in_ok-add-in-None-clause-firsts c =
    ap names_in c.in_ok-push-in-None.ensures.items ∙ names_more c.args.firsts.now.items c.args.name
    ∙ sym (first_new (names_in c.args.firsts.now.items) (name_in c.args.name) c.args.words.now c.requires (sym c.in-None.ensures.is))

pub returns-in-Some-clause-firsts : goal.returns-in-Some-clause-firsts
returns-in-Some-clause-firsts c = sym (first_old (names_in c.args.firsts.now.items) (name_in c.args.name) c.args.words.now c.in-Some.field-0 c.requires (sym c.in-Some.ensures.is))
