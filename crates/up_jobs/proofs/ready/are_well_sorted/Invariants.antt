use Rattle.std.proofs.Common.{ℕ, ◌<◌, get_or}
use Rattle.up_diagram.specs.declared.cube.Cube.{Cube}
use Rattle.up_diagram.specs.Cubes.{IsCube}
use Rattle.up_jobs.proofs.ready.are_well_sorted.Given as goal

-- the cubes before this one are well-sorted
abbrev pub invariant-each : goal.invariant-each
invariant-each l = (k : ℕ) (d : Cube) → k < l.cube-index → IsCube l.sig (get_or l.cubes k d)
