use Rattle.std.proofs.Common.{◌<◌, arith, length}
use Rattle.fo_ground.specs.Axioms.{IsChangedFact}
use Rattle.fo_ground.proofs.AxiomLemmas.{range-none, range-more, range-as}
use Rattle.fo_ground.proofs.congruence.add_changed_facts.Goals as goal

pub each-init : goal.each-init
each-init c = range-none c.args.lay.now.base (IsChangedFact c.args.u.now c.args.lay.now c.args.symbol c.args.copy c.args.args.now) c.args.into.now.vars c.args.into.now.clauses 0 c.requires.over c.requires.within

pub each-preserved : goal.each-preserved
each-preserved c = range-more c.args.lay.now.base (IsChangedFact c.args.u.now c.args.lay.now c.args.symbol c.args.copy c.args.args.now) c.args.into.now.vars c.args.into.now.clauses 0 c.each.i c.each.into.vars c.each.into.clauses c.add_changed_fact.new.into.vars c.add_changed_fact.new.into.clauses (omega arith) c.each.invariant c.in_ok-add_changed_fact.ensures

pub returns : goal.returns
returns c = range-as c.args.lay.now.base (IsChangedFact c.args.u.now c.args.lay.now c.args.symbol c.args.copy c.args.args.now) c.args.into.now.vars c.args.into.now.clauses 0 (λ i. i < length c.args.args.now) c.each.i c.each.into.vars c.each.into.clauses (λ i lt. (omega arith, omega arith)) (λ i ge lt. omega arith) c.each.invariant
