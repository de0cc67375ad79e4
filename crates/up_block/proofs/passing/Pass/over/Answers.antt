use Rattle.std.proofs.Common.{◌≡◌, ℕ, ◌+◌, ◌-◌, ◌<◌, ◌≤◌, sym, subst, ◌∙◌, arith}
use Rattle.fo_core.proofs.Answered.{false_from}
use Rattle.up_diagram.specs.declared.cube.Cube.{Cube}
use Rattle.up_diagram.specs.Cubes.{without}
use Rattle.up_block.specs.Passing.{CanPass, HasNone, IsSoFar}
use Rattle.up_block.proofs.Passed.{can-less, so-far-start, so-far-dropped, so-far-kept, so-far-ended}
use Rattle.up_block.proofs.WithoutSorted.{sorted-places}
use Rattle.up_block.proofs.passing.Pass.over.Goals as goal

pub without-requires-clause-places : goal.without-requires-clause-places
without-requires-clause-places g c = sorted-places c.each.self.sys.now.sig c.each.rest c.each.invariant.so_far.can.sorted

pub has_none-requires : goal.has_none-requires
has_none-requires g c =
    let limit = g.F.Finder.limit c.args.f.now in
    subst (λ n. CanPass n c.each.self c.in_ok-less.less) (sym c.each.invariant.limit)
    (subst (CanPass limit c.each.self) (sym c.in_ok-less.ensures) (can-less limit c.each.self c.each.rest c.each.kept c.each.invariant.so_far.can))

pub each-preserved-then-branch : goal.each-preserved-then-branch
each-preserved-then-branch g c =
    let limit = g.F.Finder.limit c.args.f.now in
    let left : ℕ = c.in-Ok.count - (c.each._tried + 1) in
    let one : c.in-Ok.count - c.each._tried ≡ left + 1 = let lt = c.each-test.true in omega (arith, lt) in
    let so_far = subst (IsSoFar limit c.args.self.now c.args.cube c.each.self c.each.rest c.each.kept) one c.each.invariant.so_far in
    let none = subst (HasNone c.each.self) c.in_ok-less.ensures (c.in_ok-has_none.ensures.answer.0 c.if-branch.true) in
    record {
      limit = c.in_ok-has_none.ensures.limit ∙ c.each.invariant.limit;
      few = let few = c.each.invariant.few in omega (arith, few);
      so_far =
          subst (λ (less : Cube). IsSoFar limit c.args.self.now c.args.cube c.has_none.new.self less c.each.kept left) (sym c.in_ok-less.ensures)
          (so-far-dropped limit c.args.self.now c.args.cube c.each.self c.has_none.new.self c.each.rest c.each.kept left so_far
          c.in_ok-has_none.ensures.goes_on none);
    }

pub each-preserved : goal.each-preserved
each-preserved g c =
    let limit = g.F.Finder.limit c.args.f.now in
    let left : ℕ = c.in-Ok.count - (c.each._tried + 1) in
    let one : c.in-Ok.count - c.each._tried ≡ left + 1 = let lt = c.each-test.true in omega (arith, lt) in
    let so_far = subst (IsSoFar limit c.args.self.now c.args.cube c.each.self c.each.rest c.each.kept) one c.each.invariant.so_far in
    record {
      limit = c.in_ok-has_none.ensures.limit ∙ c.each.invariant.limit;
      few = let few = c.each.invariant.few in omega (arith, few);
      so_far =
          so-far-kept limit c.args.self.now c.args.cube c.each.self c.has_none.new.self c.each.rest c.each.kept left so_far
          c.in_ok-has_none.ensures.goes_on
          (λ h.
          false_from c.in_ok-has_none.field-0 c.if-branch.false c.in_ok-has_none.ensures.answer
          (subst (HasNone c.each.self) (sym c.in_ok-less.ensures) h));
    }

pub returns-clause-passed : goal.returns-clause-passed
returns-clause-passed g c =
    let limit = g.F.Finder.limit c.args.f.now in
    let none_left : c.in-Ok.count - c.each._tried ≡ 0 = let past = c.each-test.false in omega (arith, past) in
    so-far-ended limit c.args.self.now c.args.cube c.each.self c.each.rest c.each.kept
    (subst (IsSoFar limit c.args.self.now c.args.cube c.each.self c.each.rest c.each.kept) none_left c.each.invariant.so_far)
