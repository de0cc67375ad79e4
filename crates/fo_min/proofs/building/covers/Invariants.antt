use Rattle.std.proofs.Common.{◌≡◌, map}
use Rattle.std.specs.List.{range_with_len}
use Rattle.fo_core.specs.Trials.{cover as cover_of}
use Rattle.fo_min.proofs.building.covers.Given as goal

-- the sorts before this one are covered
abbrev pub invariant-each : goal.invariant-each
invariant-each l = l.parts ≡ map (cover_of l.sizes) (range_with_len 0 l.s)
