use Rattle.std.proofs.Common.{◌≡◌, ◌∙◌, ◌+◌, ◌<◌, ℕ, true, [], sym, ap, subst, refl, arith}
use Rattle.std.specs.Prelude.{slice_index}
use Rattle.fo_terms.specs.declared.terms.Ground.{Ground}
use Rattle.fo_terms.specs.Universe.{no_ground, sort_at, IsOf}
use Rattle.fo_ground.specs.Axioms.{IsBetween, IsAlikeRow}
use Rattle.fo_ground.specs.Layout.{same_var}
use Rattle.fo_ground.proofs.AxiomLemmas.{none-within, range-none, range-more, later-all}
use Rattle.fo_ground.proofs.Emitting.{adds_and, adds_same}
use Rattle.fo_ground.proofs.axioms.add_row.Goals as goal

pub each-init : goal.each-init
each-init c =
    let lt = subst (λ x. x < c.args.lay.now.base) (sym c.same.ensures) (c.requires.ready.same (sort_at c.args.u.now.terms c.args.p) c.args.p c.args.p (c.requires.place, refl) (c.requires.place, refl)) in
    let add = c.in_ok-add_fact.ensures c.args.lay.now.base c.requires.over lt in
    let itself = rw c.same.ensures at add in
    record { itself = itself; later = range-none c.args.lay.now.base (IsBetween c.args.u.now c.args.lay.now c.args.p) c.add_fact.new.into.vars c.add_fact.new.into.clauses (c.args.p + 1) (omega (arith, itself.over, itself.grows)) itself.after }

pub each-preserved : goal.each-preserved
each-preserved c = record {
  itself = c.each.invariant.itself;
  later = range-more c.args.lay.now.base (IsBetween c.args.u.now c.args.lay.now c.args.p) c.add_fact.new.into.vars c.add_fact.new.into.clauses (c.args.p + 1) c.each.r c.each.into.vars c.each.into.clauses c.add_between.new.into.vars c.add_between.new.into.clauses c.each.auto.r c.each.invariant.later c.in_ok-add_between.ensures;
}

pub returns : goal.returns
returns c =
    let e = ap (λ (g : Ground). g.sort) (c.at.ensures no_ground) in
    let s = sort_at c.args.u.now.terms c.args.p in
    let below = c.requires.ready.sorts c.args.p c.requires.place in
    let first = c.at-2.ensures 0 ∙ ap (λ s. slice_index c.args.u.now.firsts s) e in
    let size = c.at-3.ensures 0 ∙ ap (λ s. slice_index c.args.lay.now.sizes s) e in
    let of : IsOf c.args.u.now.terms (sort_at c.args.u.now.terms c.args.p) c.args.p = (c.requires.place, refl) in
    let block = (c.requires.ready.blocks s c.args.p below).0 of in
    let end = c.each.auto.r-end (omega (arith, first, size, block.1)) in
    let later = later-all c.args.u.now c.args.lay.now c.requires.ready s below (IsBetween c.args.u.now c.args.lay.now c.args.p) c.add_fact.new.into.vars c.add_fact.new.into.clauses c.args.p c.each.r c.each.into.vars c.each.into.clauses of (omega (arith, first, size, end)) c.each.invariant.later in
    adds_same c.args.lay.now.base [] (λ v. (v (same_var c.args.u.now c.args.lay.now c.args.p c.args.p) ≡ true) × ((r : ℕ) → c.args.p < r → IsOf c.args.u.now.terms (sort_at c.args.u.now.terms c.args.p) r → IsBetween c.args.u.now c.args.lay.now c.args.p r v)) (IsAlikeRow c.args.u.now c.args.lay.now c.args.p) c.args.into.now.vars c.args.into.now.clauses c.each.into.vars c.each.into.clauses
    (λ v h. record { itself = h.0; later = h.1 }) (λ v h. (h.itself, h.later))
    (adds_and c.args.lay.now.base [] (λ v. v (same_var c.args.u.now c.args.lay.now c.args.p c.args.p) ≡ true) (λ v. (r : ℕ) → c.args.p < r → IsOf c.args.u.now.terms (sort_at c.args.u.now.terms c.args.p) r → IsBetween c.args.u.now c.args.lay.now c.args.p r v) c.args.into.now.vars c.args.into.now.clauses c.add_fact.new.into.vars c.add_fact.new.into.clauses c.each.into.vars c.each.into.clauses
    (none-within c.args.into.now.vars) c.each.invariant.itself later)
