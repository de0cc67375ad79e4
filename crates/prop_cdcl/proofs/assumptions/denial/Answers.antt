use Rattle.std.proofs.Common.{◌∙◌, ◌++◌, ◌∷◌, [], ap, false}
use Rattle.prop_core.specs.declared.lit.Lit.{Lit}
use Rattle.prop_cdcl.proofs.Asked.{denial_more}
use Rattle.prop_cdcl.proofs.assumptions.denial.Goals as goal
use Rattle.prop_cdcl.proofs.assumptions.denial.Goals.{then-is_needed+in_ok-push, else-is_needed}

pub loop-lit-preserved : goal.loop-lit-preserved
loop-lit-preserved c =
    elim c.if-is_needed.branch [
      | then-is_needed+in_ok-push w ↦
          let none : Lit = record { var = 0; positive = false } in
          rw w.clause-is (denial_more _ _ _ _ none c.loop-lit-test.true c.loop-lit.invariant (w.in_ok-push.ensures.ok ∙ ap (λ (l : Lit). c.loop-lit.clause ++ l ∷ []) w.negated.ensures))
      | else-is_needed w ↦ rw w.clause-is c.loop-lit.invariant
    ]
