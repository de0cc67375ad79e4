use Rattle.std.proofs.Common.{◌∙◌, sym, ap, subst}
use Rattle.fo_core.specs.declared.formula.Formula.TheVariants as F
use Rattle.fo_ground.specs.Layout.{IsLiteral, HasInstance}
use Rattle.fo_ground.proofs.AtomLemmas.{instance-Not, literal-Not, is_literal-Not}
use Rattle.fo_ground.proofs.emit.literal.Goals as goal

pub atom-requires-clause-instance : goal.atom-requires-clause-instance
atom-requires-clause-instance c =
    let h = subst (HasInstance c.args.u.now c.args.lay.now c.args.env.now) c.in-Not.is c.requires.instance in
    rw c.get.ensures (instance-Not c.args.u.now c.args.lay.now c.args.env.now c.in-Not.g h)

pub returns-in-Some : goal.returns-in-Some
returns-in-Some c =
    let h = rw c.in-Some.is at c.in_ok-var-in-Not.ensures in
    rw (c.in-Not.is, ← c.get.ensures) (literal-Not c.args.u.now c.args.lay.now c.args.env.now c.get.result.now c.in-Some.var h)

pub returns-in-None : goal.returns-in-None
returns-in-None c =
    let h = rw c.in-None.is at c.in_ok-var-in-Not.ensures in
    λ l. h (subst (λ (A : Type 0). A) (is_literal-Not c.get.result.now) (subst IsLiteral (c.in-Not.is ∙ ap F.Not (sym c.get.ensures)) l))
