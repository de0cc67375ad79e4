use Rattle.std.proofs.Common.{[], List, Bool, sym, subst}
use Rattle.std.specs.List.{All}
use Rattle.fo_core.specs.declared.formula.Formula.{Formula}
use Rattle.fo_core.specs.Sorted.{IsFormula}
use Rattle.fo_ground.specs.Groundworks.{HoldBy}
use Rattle.fo_ground.proofs.GroundworkLemmas.{held-from-world}
use Rattle.prop_core.specs.Formula.{IsWithin, value_of}
use Rattle.prop_cdcl.specs.Questions.{AreTrue, HaveNoValuesUnder}
use Rattle.fo_solve.proofs.Switching.{held, none-held, served-claims, switches-within}
use Rattle.fo_solve.proofs.context.world.Goals as goal

pub switch_on-requires-clause-sorted : goal.switch_on-requires-clause-sorted
switch_on-requires-clause-sorted c =
    let lay = c.args.ground.now.layout in
    subst (λ (fs : List Formula). All (λ f. IsFormula lay.sig lay.copies f []) fs) (sym c.as_slice.ensures) (served-claims c.args.ground.now c.args.sig.now c.args.form.now c.requires.serves c.requires.form)

pub solve_under-requires : goal.solve_under-requires
solve_under-requires c =
    let s = c.switch_on.new.self in
    let on = c.in_ok-switches in
    subst (IsWithin s.solver.vars) (sym c.as_slice-2.ensures.value)
    (switches-within c.args.ground.now s.kept.items s.solver.vars s.solver.clauses on.ensures.switched c.as_slice.result.now on.switches.items on.ensures.on)

-- the values make the switches true, so the claims hold by them
pub world-requires-clause-met : goal.world-requires-clause-met
world-requires-clause-met c =
    let s = c.switch_on.new.self in
    let on = c.in_ok-switches in
    let g = c.args.ground.now in
    let r = rw c.in-Values.is at c.in_ok-values.ensures.reply in
    let v = value_of c.in-Values.values in
    let true_on = subst (AreTrue v) c.as_slice-2.ensures.value r.2 in
    let holds = held g s.kept.items s.solver.vars s.solver.clauses on.ensures.switched c.as_slice.result.now on.switches.items on.ensures.on v r.1 true_on in
    subst (λ (vs : List Bool). HoldBy g c.args.form.now.claims (value_of vs)) (sym c.as_slice-in-Values.ensures) (subst (λ (fs : List Formula). HoldBy g fs v) c.as_slice.ensures holds)

-- a world would give such values
pub returns-clause-world : goal.returns-clause-world
returns-clause-world c w meets =
    let s = c.switch_on.new.self in
    let on = c.in_ok-switches in
    let g = c.args.ground.now in
    let none = (rw c.in-Denied.is at c.in_ok-values.ensures.exact).0 tt in
    let none_on = subst (HaveNoValuesUnder s.solver.clauses) c.as_slice-2.ensures.value none in
    let a = held-from-world g c.requires.ground c.args.sig.now c.args.form.now c.requires.serves c.requires.sig c.requires.form c.requires.light w meets in
    none-held g s.kept.items s.solver.vars s.solver.clauses on.ensures.switched c.as_slice.result.now on.switches.items on.ensures.on none_on a.0
    (subst (λ (fs : List Formula). HoldBy g fs a.0) (sym c.as_slice.ensures) a.1)
