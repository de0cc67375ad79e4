use Rattle.std.proofs.Common.{◌≡◌, length, sym, ◌∙◌}
use Rattle.up_claims.specs.Verdicts.{cubes_from}
use Rattle.up_cert.proofs.SpotLemmas.{stepped, not_false}
use Rattle.up_cert.proofs.WorldLemmas.{step-into-ok}
use Rattle.up_cert.proofs.leaving.is_step_into.Goals as goal

pub returns-clause-shown : goal.returns-clause-shown
returns-clause-shown c =
    let w = c.args.w.now in
    let two : length w.copies ≡ 2 = sym c.len.ensures ∙ c.if-len-ne2.false in
    let step = stepped c.args.sys.now w 0 c.is_step.result c.is_step.ensures.first (not_false c.is_none.result _ c.is_none.ensures c.if-is_none.false) in
    let out = c.in_ok-is_outside.ensures.0 c.if-not-branch.false in
    step-into-ok c.args.sys.now (cubes_from c.args.clauses.now c.args.level) c.args.cube.now w c.meets_cube.result c.requires.world two step out c.meets_cube.ensures
