use Rattle.std.proofs.Common.{◌<◌, arith, length}
use Rattle.fo_ground.specs.Axioms.{IsChangedRow}
use Rattle.fo_ground.proofs.AxiomLemmas.{range-none, range-more, range-as}
use Rattle.fo_ground.proofs.congruence.add_functions.Goals as goal

pub each-init : goal.each-init
each-init c = range-none c.args.lay.now.base (IsChangedRow c.args.u.now c.args.lay.now) c.args.into.now.vars c.args.into.now.clauses 0 c.requires.over c.requires.within

pub each-preserved : goal.each-preserved
each-preserved c = range-more c.args.lay.now.base (IsChangedRow c.args.u.now c.args.lay.now) c.args.into.now.vars c.args.into.now.clauses 0 c.each.place c.each.into.vars c.each.into.clauses c.add_changed_row.new.into.vars c.add_changed_row.new.into.clauses (omega arith) c.each.invariant c.in_ok-add_changed_row.ensures

pub returns : goal.returns
returns c = range-as c.args.lay.now.base (IsChangedRow c.args.u.now c.args.lay.now) c.args.into.now.vars c.args.into.now.clauses 0 (λ t. t < length c.args.u.now.terms) c.each.place c.each.into.vars c.each.into.clauses (λ i lt. (omega arith, omega (arith, c.len-place-end.ensures))) (λ i ge lt. omega (arith, c.len-place-end.ensures)) c.each.invariant
