use Rattle.std.proofs.Common.{◌≡◌, ◌∙◌, ap, sym, IfErr, refl}
use Rattle.std.proofs.lemmas.Result.{err_from_is_err_and}
use Rattle.pyv_meaning.specs.Closing.{frees, parts, whole}
use Rattle.pyv_meaning.specs.Tree.{bound_names, list_of}
use Rattle.pyv_meaning.specs.View.{view, views}
use Rattle.pyv_sorts.specs.Closures.{joined, each_frees}
use Rattle.pyv_sorts.specs.Elaborating.{body_of, PartsFail}
use Rattle.pyv_sorts.specs.Parts.{IsFaultOfParts}
use Rattle.pyv_sorts.proofs.Bodies.{answered_more, part_is_at_fault, parts_build, whole_frees, joined_frees}
use Rattle.pyv_sorts.proofs.body.elaborate_body.Goals as goal

pub returns-in_err-parts-in-Some-clause-fault : goal.returns-in_err-parts-in-Some-clause-fault
returns-in_err-parts-in-Some-clause-fault c = λ ms.
    let v = c.args.known.now in
    let b = body_of v c.args.step c.args.params.now ms c.args.tree.now in
    let xs = views v.bytes c.in-Some.members.now in
    let e = c.in-Some.ensures.1 in
    let p = err_from_is_err_and c.from_residual.result c.from_residual.ensures.1 in
    rw (p.1, p.2) (answered_more (IsFaultOfParts v.names v.sig b.step b.params xs) (PartsFail v b)
    (part_is_at_fault v b xs (ap parts e) (joined_frees v.names (bound_names b.params) xs ∙ ap (λ t. frees v.names t (bound_names b.params)) (sym e)))
    c.in_err-parts-in-Some.field-0.0 c.in_err-parts-in-Some.ensures.fault)

pub returns-in_err-parts-in-None-clause-fault : goal.returns-in_err-parts-in-None-clause-fault
returns-in_err-parts-in-None-clause-fault c = λ ms.
    let v = c.args.known.now in
    let b = body_of v c.args.step c.args.params.now ms c.args.tree.now in
    let xs = views v.bytes c.from_ref.result.now in
    let f = c.from_ref.ensures.value in
    let p = err_from_is_err_and c.from_residual-in_err-parts-in-None.result c.from_residual-in_err-parts-in-None.ensures.1 in
    rw (p.1, p.2) (answered_more (IsFaultOfParts v.names v.sig b.step b.params xs) (PartsFail v b)
    (part_is_at_fault v b xs (c.in-None.ensures.0 ∙ ap (λ ts. list_of (views v.bytes ts)) (sym f)) (ap (λ ts. joined (each_frees v.names (bound_names b.params) (views v.bytes ts))) f ∙ whole_frees v.names (bound_names b.params) (view v.bytes c.args.tree.now)))
    c.in_err-parts-in-None.field-0.0 c.in_err-parts-in-None.ensures.fault)

pub returns-in_ok-parts-in-Some-clause-found : goal.returns-in_ok-parts-in-Some-clause-found
returns-in_ok-parts-in-Some-clause-found c = λ ms.
    let v = c.args.known.now in
    let b = body_of v c.args.step c.args.params.now ms c.args.tree.now in
    let xs = views v.bytes c.in-Some.members.now in
    let e = c.in-Some.ensures.1 in
    parts_build v b xs (ap parts e) (joined_frees v.names (bound_names b.params) xs ∙ ap (λ t. frees v.names t (bound_names b.params)) (sym e))
    c.in_ok-parts-in-Some.parts.params c.in_ok-parts-in-Some.parts.formulas _ c.in_ok-parts-in-Some.ensures.found
    (sym (ap (λ t. whole t c.in_ok-parts-in-Some.parts.formulas) e))

pub returns-in_ok-parts-in-None-clause-found : goal.returns-in_ok-parts-in-None-clause-found
returns-in_ok-parts-in-None-clause-found c = λ ms.
    let v = c.args.known.now in
    let b = body_of v c.args.step c.args.params.now ms c.args.tree.now in
    let xs = views v.bytes c.from_ref.result.now in
    let f = c.from_ref.ensures.value in
    parts_build v b xs (c.in-None.ensures.0 ∙ ap (λ ts. list_of (views v.bytes ts)) (sym f)) (ap (λ ts. joined (each_frees v.names (bound_names b.params) (views v.bytes ts))) f ∙ whole_frees v.names (bound_names b.params) (view v.bytes c.args.tree.now))
    c.in_ok-parts-in-None.parts.params c.in_ok-parts-in-None.parts.formulas c.first.result c.in_ok-parts-in-None.ensures.found
    (c.first.ensures ∙ sym (c.in-None.ensures.1 c.in_ok-parts-in-None.parts.formulas))
