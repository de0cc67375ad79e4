use Rattle.std.proofs.Common.{◌<◌, false}
use Rattle.std.proofs.lemmas.List.Elements.{All-more}
use Rattle.prop_core.specs.declared.lit.Lit.{Lit}
use Rattle.prop_core.proofs.Loops.{all_end, whole}
use Rattle.prop_core.proofs.clause.Clause.is_within.Goals as goal

pub loop-lit-preserved : goal.loop-lit-preserved
loop-lit-preserved c =
    All-more (λ (l : Lit). l.var < c.args.vars) _ _ (record { var = 0; positive = false }) c.loop-lit-test.true c.loop-lit.invariant c.if-lit-vars.false

pub returns : goal.returns
returns c = whole (all_end (λ (l : Lit). l.var < c.args.vars) _ _ _ c.loop-lit-test.false c.loop-lit.invariant c.as_slice-lit-items.ensures)
