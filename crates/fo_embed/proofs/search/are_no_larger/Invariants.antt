use Rattle.std.proofs.Common.{ℕ, ◌<◌, ◌≤◌}
use Rattle.std.specs.Prelude.{slice_index}
use Rattle.fo_embed.proofs.search.are_no_larger.Given as goal

-- the sorts before this one have no more elements
abbrev pub invariant-each : goal.invariant-each
invariant-each l = (k : ℕ) → k < l.s → slice_index l.from k ≤ slice_index l.to k
