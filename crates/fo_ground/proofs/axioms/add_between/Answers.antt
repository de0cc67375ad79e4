use Rattle.std.proofs.Common.{◌≡◌, ◌∙◌, true, ap, arith}
use Rattle.std.specs.Prelude.{slice_index}
use Rattle.fo_terms.specs.declared.terms.Ground.{Ground}
use Rattle.fo_terms.specs.Universe.{no_ground, sort_at}
use Rattle.fo_ground.specs.Layout.{same_var}
use Rattle.fo_ground.proofs.AxiomLemmas.{range-none, range-more, block-all}
use Rattle.fo_ground.proofs.axioms.add_between.Goals as goal

pub each-init : goal.each-init
each-init c = range-none c.args.lay.now.base (λ t v. v (same_var c.args.u.now c.args.lay.now c.args.p t) ≡ true → v (same_var c.args.u.now c.args.lay.now t c.args.r) ≡ true → v (same_var c.args.u.now c.args.lay.now c.args.p c.args.r) ≡ true) c.args.into.now.vars c.args.into.now.clauses c.at-first.result.now c.requires.over c.requires.within

pub each-preserved : goal.each-preserved
each-preserved c = range-more c.args.lay.now.base (λ t v. v (same_var c.args.u.now c.args.lay.now c.args.p t) ≡ true → v (same_var c.args.u.now c.args.lay.now t c.args.r) ≡ true → v (same_var c.args.u.now c.args.lay.now c.args.p c.args.r) ≡ true) c.args.into.now.vars c.args.into.now.clauses c.at-first.result.now c.each.q c.each.into.vars c.each.into.clauses c.add_third.new.into.vars c.add_third.new.into.clauses c.each.auto.q c.each.invariant c.in_ok-add_third.ensures

pub returns : goal.returns
returns c =
    let e = ap (λ (g : Ground). g.sort) (c.at.ensures no_ground) in
    let s = sort_at c.args.u.now.terms c.args.p in
    let below = c.requires.ready.sorts c.args.p c.requires.first in
    let first = c.at-first.ensures 0 ∙ ap (λ s. slice_index c.args.u.now.firsts s) e in
    let size = c.at-2.ensures 0 ∙ ap (λ s. slice_index c.args.lay.now.sizes s) e in
    let end = c.each.auto.q-end (omega arith) in
    block-all c.args.u.now c.args.lay.now c.requires.ready s below (λ t v. v (same_var c.args.u.now c.args.lay.now c.args.p t) ≡ true → v (same_var c.args.u.now c.args.lay.now t c.args.r) ≡ true → v (same_var c.args.u.now c.args.lay.now c.args.p c.args.r) ≡ true) c.args.into.now.vars c.args.into.now.clauses c.at-first.result.now c.each.q c.each.into.vars c.each.into.clauses first (omega (arith, first, size, end)) c.each.invariant
