use Rattle.std.proofs.Common.{ℕ, get_or, subst, ◌∙◌, below_more}
use Rattle.std.specs.List.{All}
use Rattle.std.proofs.lemmas.List.{get_or_default}
use Rattle.fo_core.proofs.Answered.{never, false_from, fails_at}
use Rattle.up_diagram.specs.declared.cube.Cube.{Cube}
use Rattle.up_diagram.specs.Cubes.{IsCube}
use Rattle.up_jobs.proofs.ready.are_well_sorted.Goals as goal

pub returns-then-not-is_well_sorted : goal.returns-then-not-is_well_sorted
returns-then-not-is_well_sorted c =
    never (All (IsCube c.args.sig.now) c.args.cubes.now)
    (fails_at (IsCube c.args.sig.now) c.args.cubes.now c.each.cube-index c.cube-item.result c.each-test.true c.cube-item.is
    (false_from c.is_well_sorted.result c.if-not-is_well_sorted.true c.is_well_sorted.ensures))

pub each-preserved : goal.each-preserved
each-preserved c k d lt =
    below_more (λ (j : ℕ). (e : Cube) → IsCube c.args.sig.now (get_or c.args.cubes.now j e)) c.each.cube-index
    (λ j below e. c.each.invariant j e below)
    (λ e. subst (IsCube c.args.sig.now) (c.cube-item.is ∙ get_or_default c.args.cubes.now c.each.cube-index c.cube-item.result e c.each-test.true)
    (c.is_well_sorted.ensures.0 c.if-not-is_well_sorted.false))
    k lt d
