use Rattle.std.proofs.Common.{List, [], ◌∷◌, ◌++◌, refl, ap, subst, ◌∙◌}
use Rattle.fo_core.specs.declared.formula.Formula.{Formula}
use Rattle.fo_core.specs.declared.query.Query.{Query}
use Rattle.fo_core.specs.Queries.{MeetsQuery}
use Rattle.up_block.proofs.Questioned.{later-more}
use Rattle.up_block.proofs.question.Question.ask.Goals as goal

pub returns-in_ok-push-in-Model-clause-later : goal.returns-in_ok-push-in-Model-clause-later
returns-in_ok-push-in-Model-clause-later g c =
    let q : Query = c.args.self.now.query in
    let of_claims : List Formula → Query = λ fs. record { copies = q.copies; claims = fs } in
    let asked = c.in_ok-push.ensures.ok ∙ ap (λ f. q.claims ++ f ∷ []) c.in_ok-claim.ensures in
    let found = rw (c.in-Model.is) at c.in_ok-found.ensures.found in
    later-more c.args.sys.now c.args.self.now c.args.cube.now c.in-Model.w _
    (ap of_claims (c.drop_last.ensures q.claims c.in_ok-claim.field-0 c.in_ok-push.ensures.ok)) refl
    c.in_ok-push-in-Model.ensures.items c.requires.question
    (subst (λ fs. MeetsQuery c.args.sys.now.sig (of_claims fs) c.in-Model.w) asked found.1)
