use Rattle.std.proofs.Common.{ℕ, ◌<◌}
use Rattle.std.specs.Prelude.{slice_index}
use Rattle.up_diagram.specs.Cubes.{HasSort}
use Rattle.up_diagram.proofs.cube.have_sorts.Given as goal

-- the variables before this one have their sorts
abbrev pub invariant-each : goal.invariant-each
invariant-each l = (k : ℕ) → k < l.i → HasSort l.sorts (slice_index l.variables k) (slice_index l.wanted k)
