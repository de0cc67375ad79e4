use Rattle.std.proofs.Common.{refl, [], arith}
use Rattle.std.proofs.lemmas.Result.{err_from_is_err_and}
use Rattle.pyv_meaning.specs.Items.{claim_body}
use Rattle.pyv_meaning.specs.View.{view}
use Rattle.pyv_sorts.proofs.Meant.{built_sound, built_claim, parts_fail}
use Rattle.pyv_sorts.proofs.model.sentence.Goals as goal

pub returns-in_err-elaborate_body-clause-fault : goal.returns-in_err-elaborate_body-clause-fault
returns-in_err-elaborate_body-clause-fault c =
    let p = err_from_is_err_and c.from_residual.result c.from_residual.ensures.1 in
    rw (p.1, p.2) (parts_fail c.args.known.now (claim_body (view c.args.known.now.bytes c.args.tree.now)) refl refl c.in_err-elaborate_body.field-0.0 (c.in_err-elaborate_body.ensures.fault []))

pub returns-clause-sound : goal.returns-clause-sound
returns-clause-sound c = built_sound c.args.known.now (claim_body (view c.args.known.now.bytes c.args.tree.now)) refl refl c.in_ok-elaborate_body.field-0.params c.in_ok-elaborate_body.field-0.formula (c.in_ok-elaborate_body.ensures.found [])

pub returns-clause-means : goal.returns-clause-means
returns-clause-means c =
    built_claim c.args.known.now (claim_body (view c.args.known.now.bytes c.args.tree.now)) refl refl c.in_ok-elaborate_body.field-0.params c.in_ok-elaborate_body.field-0.formula (omega arith) (c.in_ok-elaborate_body.ensures.found [])
