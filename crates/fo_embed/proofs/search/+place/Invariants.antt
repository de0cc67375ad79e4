use Rattle.std.proofs.Common.{◌≡◌, ◌<◌, ℕ, ◌+◌, ◌-◌, ◌*◌, length}
use Rattle.std.specs.List.{sum}
use Rattle.std.specs.Prelude.{slice_index}
use Rattle.fo_embed.specs.Placing.{images_of}
use Rattle.fo_embed.specs.Searching.{HasNoneWith}
use Rattle.fo_embed.proofs.search.+place.Given as goal

-- sorts to come, and elements of the sort without an image
abbrev pub decreases-place : goal.decreases-place
decreases-place l = (length l.maps.now - l.sort) * (sum l.states.now.from.now.sizes + 1) + (slice_index l.states.now.from.now.sizes l.sort - length (images_of l.maps.now l.sort))

-- no image before this one serves
abbrev pub invariant-each : goal.invariant-each
invariant-each l = record {
  same : l.maps ≡ l.fn.maps;
  before : (y : ℕ) → y < l.image → HasNoneWith l.states.sig.now l.states.from.now l.states.from_copy l.states.to.now l.states.to_copy l.fn.maps l.sort y;
}
