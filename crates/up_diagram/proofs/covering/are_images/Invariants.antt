use Rattle.std.proofs.Common.{◌≡◌, ℕ, ◌<◌}
use Rattle.std.specs.Prelude.{slice_index}
use Rattle.up_diagram.proofs.covering.are_images.Given as goal

-- those before this one are images
abbrev pub invariant-each : goal.invariant-each
invariant-each l = (k : ℕ) → k < l.i → slice_index l.others k ≡ slice_index l.images (slice_index l.variables k)
