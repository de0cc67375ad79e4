use Rattle.std.proofs.Common.{List, subst}
use Rattle.std.specs.Prelude.{IsTrue, IfOk}
use Rattle.prop_core.specs.declared.lit.Lit.{Lit}
use Rattle.prop_check.specs.Kept.{IsImplied}
use Rattle.prop_cdcl.proofs.offers.follows_from_learnt.Goals as goal

pub returns-clause-sound : goal.returns-clause-sound
returns-clause-sound c =
    let P : List (List Lit) → Type 0 = λ cs. IfOk c.follows_with-2.result (λ b. IsTrue b → IsImplied cs c.args.clause.now) in
    subst P c.in_ok-follows_with.ensures.given c.follows_with-2.ensures.sound
