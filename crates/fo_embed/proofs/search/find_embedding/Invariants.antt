use Rattle.std.proofs.Common.{◌≡◌, ℕ, [], length}
use Rattle.fo_embed.specs.Placing.{images_of}
use Rattle.fo_embed.proofs.search.find_embedding.Given as goal

-- a list without images for each sort so far
abbrev pub invariant-each : goal.invariant-each
invariant-each l = record {
  count : length l.maps.items ≡ l._i;
  empty : (t : ℕ) → images_of l.maps.items t ≡ [];
}
