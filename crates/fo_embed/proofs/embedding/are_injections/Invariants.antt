use Rattle.std.proofs.Common.{ℕ, ◌<◌}
use Rattle.std.specs.Prelude.{slice_index}
use Rattle.fo_embed.specs.Placing.{IsInjection, images_of}
use Rattle.fo_embed.proofs.embedding.are_injections.Given as goal

-- the maps of the sorts before this one are injective
abbrev pub invariant-each : goal.invariant-each
invariant-each l = (s : ℕ) → s < l.s → IsInjection (slice_index l.from s) (slice_index l.to s) (images_of l.maps s)
