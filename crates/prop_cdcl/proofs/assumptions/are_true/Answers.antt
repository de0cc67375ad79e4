use Rattle.std.proofs.Common.{◌≡◌, false, refl}
use Rattle.std.proofs.lemmas.List.Elements.{All-more}
use Rattle.prop_core.specs.declared.lit.Lit.{Lit}
use Rattle.prop_core.specs.Formula.{value_of}
use Rattle.prop_core.proofs.Loops.{all_end, whole}
use Rattle.prop_cdcl.proofs.assumptions.are_true.Goals as goal

pub loop-lit-preserved : goal.loop-lit-preserved
loop-lit-preserved c =
    All-more (λ (l : Lit). value_of c.args.values.now l.var ≡ l.positive) _ _ (record { var = 0; positive = false }) c.loop-lit-test.true c.loop-lit.invariant (c.is_true.ensures.0 c.if-not-is_true.false)

pub returns : goal.returns
returns c = whole (all_end (λ (l : Lit). value_of c.args.values.now l.var ≡ l.positive) _ _ _ c.loop-lit-test.false c.loop-lit.invariant refl)
