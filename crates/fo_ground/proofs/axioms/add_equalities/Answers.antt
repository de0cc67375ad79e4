use Rattle.std.proofs.Common.{◌<◌, ◌≤◌, ℕ, [], arith}
use Rattle.fo_ground.specs.Axioms.{IsAlikeRow, AreAlike}
use Rattle.fo_ground.proofs.AxiomLemmas.{range-none, range-more}
use Rattle.fo_ground.proofs.Emitting.{adds_same}
use Rattle.fo_ground.proofs.axioms.add_equalities.Goals as goal

pub each-init : goal.each-init
each-init c = range-none c.args.lay.now.base (IsAlikeRow c.args.u.now c.args.lay.now) c.args.into.now.vars c.args.into.now.clauses 0 c.requires.over c.requires.within

pub each-preserved : goal.each-preserved
each-preserved c = range-more c.args.lay.now.base (IsAlikeRow c.args.u.now c.args.lay.now) c.args.into.now.vars c.args.into.now.clauses 0 c.each.p c.each.into.vars c.each.into.clauses c.add_row.new.into.vars c.add_row.new.into.clauses (omega arith) c.each.invariant c.in_ok-add_row.ensures

pub returns : goal.returns
returns c =
    adds_same c.args.lay.now.base [] (λ v. (t : ℕ) → 0 ≤ t → t < c.each.p → IsAlikeRow c.args.u.now c.args.lay.now t v) (AreAlike c.args.u.now c.args.lay.now) c.args.into.now.vars c.args.into.now.clauses c.each.into.vars c.each.into.clauses
    (λ v h t lt. h t (omega arith) (omega (arith, lt, c.each-test.false, c.len-p-end.ensures)))
    (λ v h t ge lt. h t (omega (arith, lt, c.each.auto.p-end, c.len-p-end.ensures)))
    c.each.invariant
