use Rattle.std.proofs.Common.{refl, [], arith, true}
use Rattle.std.proofs.lemmas.Result.{err_from_is_err_and}
use Rattle.pyv_meaning.specs.View.{names_of}
use Rattle.pyv_sorts.specs.Elaborating.{body_of}
use Rattle.pyv_sorts.proofs.Meant.{built_sound, built_step, parts_fail, few_of}
use Rattle.pyv_sorts.proofs.model.step.Goals as goal

pub returns-in_err-params-clause-fault : goal.returns-in_err-params-clause-fault
returns-in_err-params-clause-fault c =
    let p = err_from_is_err_and c.from_residual-in_err-params.result c.from_residual-in_err-params.ensures.1 in
    let ms = names_of c.args.known.now.bytes c.args.modifies.now in
    rw (p.1, p.2) (parts_fail c.args.known.now (body_of c.args.known.now true c.args.params.now ms c.args.tree.now) c.in_ok-parameters_stand.ensures c.in_ok-modifies.ensures.tells c.in_err-params.field-0.0 (c.in_err-params.ensures.fault ms))

pub returns-clause-sound : goal.returns-clause-sound
returns-clause-sound c =
    let ms = names_of c.args.known.now.bytes c.args.modifies.now in
    built_sound c.args.known.now (body_of c.args.known.now true c.args.params.now ms c.args.tree.now) c.in_ok-parameters_stand.ensures c.in_ok-modifies.ensures.tells c.in_ok-params.field-0.params c.in_ok-params.field-0.formula (c.in_ok-params.ensures.found ms)

pub returns-clause-means : goal.returns-clause-means
returns-clause-means c =
    let ms = names_of c.args.known.now.bytes c.args.modifies.now in
    built_step c.args.known.now (body_of c.args.known.now true c.args.params.now ms c.args.tree.now) c.in_ok-parameters_stand.ensures c.in_ok-modifies.ensures.tells c.in_ok-params.field-0.params c.in_ok-modifies.modifies c.in_ok-params.field-0.formula
    (few_of c.args.known.now.bytes c.args.params.now 16 c.requires.few) c.in_ok-modifies.ensures.are (c.in_ok-params.ensures.found ms)
