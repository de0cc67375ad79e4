use Rattle.std.proofs.Common.{◌<◌, ◌∙◌, ap, arith, length}
use Rattle.fo_terms.specs.declared.terms.Ground.{Ground}
use Rattle.fo_terms.specs.Universe.{no_ground, term_at}
use Rattle.fo_ground.specs.Axioms.{IsChangedTerm}
use Rattle.fo_ground.proofs.AxiomLemmas.{range-none, range-more, range-as}
use Rattle.fo_ground.proofs.congruence.add_changed_row.Goals as goal

pub each-init : goal.each-init
each-init c = range-none c.args.lay.now.base (IsChangedTerm c.args.u.now c.args.lay.now c.args.place) c.args.into.now.vars c.args.into.now.clauses 0 c.requires.over c.requires.within

pub each-preserved : goal.each-preserved
each-preserved c = range-more c.args.lay.now.base (IsChangedTerm c.args.u.now c.args.lay.now c.args.place) c.args.into.now.vars c.args.into.now.clauses 0 c.each.i c.each.into.vars c.each.into.clauses c.add_changed_term.new.into.vars c.add_changed_term.new.into.clauses (omega arith) c.each.invariant c.in_ok-add_changed_term.ensures

pub returns : goal.returns
returns c =
    let n = c.len-count.ensures ∙ ap (λ (g : Ground). length g.args) (c.at.ensures no_ground) in
    range-as c.args.lay.now.base (IsChangedTerm c.args.u.now c.args.lay.now c.args.place) c.args.into.now.vars c.args.into.now.clauses 0 (λ i. i < length (term_at c.args.u.now.terms c.args.place).args) c.each.i c.each.into.vars c.each.into.clauses (λ i lt. (omega arith, omega (arith, n))) (λ i ge lt. omega (arith, n)) c.each.invariant
