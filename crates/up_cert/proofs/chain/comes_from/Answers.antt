use Rattle.up_cert.proofs.SpotLemmas.{stepped, not_false}
use Rattle.up_cert.proofs.WorldLemmas.{comes-from}
use Rattle.std.proofs.Common.{◌≡◌, length, sym, ◌∙◌}
use Rattle.up_cert.proofs.chain.comes_from.Goals as goal

pub returns-clause-shown : goal.returns-clause-shown
returns-clause-shown c =
    let link = c.args.link.now in
    let two : length link.origin.copies ≡ 2 = sym c.len.ensures ∙ c.if-len-ne2.false in
    let step = stepped c.args.sys.now link.origin 0 c.is_step.result c.is_step.ensures.first (not_false c.is_none.result _ c.is_none.ensures c.if-is_none.false) in
    comes-from c.args.sys.now c.args.before.now link c.same.result c.requires.worlds.origin two step (rw c.in_ok-alone.ensures at c.same.ensures)
