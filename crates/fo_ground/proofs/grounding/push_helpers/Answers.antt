use Rattle.std.proofs.Common.{◌∙◌, ◌+◌, ◌++◌, ◌∷◌, [], length, ap, append_assoc}
use Rattle.std.specs.Prelude.{replicate}
use Rattle.std.proofs.lemmas.List.{length_push, replicate_more}
use Rattle.fo_ground.specs.declared.grounded.Atom.TheVariants.{Helper}
use Rattle.fo_ground.proofs.grounding.push_helpers.Goals as goal

pub each-preserved : goal.each-preserved
each-preserved c =
    let before = c.each.invariant.helpers in
    record {
      length = ap length c.in_ok-push.ensures.items ∙ length_push c.each.atoms.items Helper ∙ ap (λ n. n + 1) c.each.invariant.length;
      helpers = (
        before.0 + 1,
        c.in_ok-push.ensures.items ∙ ap (λ xs. xs ++ Helper ∷ []) before.1 ∙ append_assoc c.args.atoms.now.items (replicate before.0 Helper) (Helper ∷ []) ∙ ap (λ xs. c.args.atoms.now.items ++ xs) (replicate_more before.0 Helper),
      );
    }
