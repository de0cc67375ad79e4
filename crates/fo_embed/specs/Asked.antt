-- What a walk over two tables asks for, and what it tells.
use Rattle.std.specs.Prelude.{◌≡◌, ℕ, ◌+◌, ◌*◌, ◌<◌, ◌≤◌, false, List, length, map, slice_index}
use Rattle.std.specs.List.{All}
use Rattle.fo_core.specs.declared.signature.Symbol.{Symbol}
use Rattle.fo_core.specs.declared.world.World.{World}
use Rattle.fo_core.specs.Runs.{AreElements}
use Rattle.fo_core.specs.Tables.{tuples, place}
use Rattle.fo_core.specs.Embedding.{images}
use Rattle.fo_embed.specs.Placing.{IsPart, IsKept, placed}

-- the sizes of these sorts
abbrev pub sizes_at : List ℕ → List ℕ → List ℕ
sizes_at sizes sorts = map (slice_index sizes) sorts

-- elements of these sorts may be gone through
pub record CanWalk (v w : World) (maps : List (List ℕ)) (s : Symbol) (sorts : List ℕ) : Type 0 where
  pub nonempty : All (λ n. 1 ≤ n) v.sizes
  pub nonempty_to : All (λ n. 1 ≤ n) w.sizes
  pub same_sorts : length w.sizes ≡ length v.sizes
  pub part : IsPart v.sizes w.sizes maps
  pub known : All (λ n. n < length v.sizes) sorts
  pub result : s.relation ≡ false → s.result < length maps

-- the table has a value for each tuple that begins as the one of this number and goes on with
-- elements of these sorts
abbrev pub IsBlock : List ℕ → List ℕ → ℕ → List ℕ → Type 0
IsBlock sizes sorts at values = (at + 1) * tuples (sizes_at sizes sorts) ≤ length values

-- the place of a tuple that begins as the one of this number
abbrev pub place_from : List ℕ → List ℕ → ℕ → List ℕ → ℕ
place_from sizes sorts at xs = at * tuples (sizes_at sizes sorts) + place (sizes_at sizes sorts) xs

-- the tables agree at all tuples that begin as those of these numbers and go on with elements that
-- have images
abbrev pub AgreeFrom : List ℕ → List ℕ → List (List ℕ) → Symbol → List ℕ → List ℕ → List ℕ → ℕ → ℕ → Type 0
AgreeFrom from to maps s here there sorts at at_to =
    (xs : List ℕ) → AreElements (placed maps) xs sorts →
    IsKept s maps (slice_index here (place_from from sorts at xs)) (slice_index there (place_from to sorts at_to (images maps sorts xs)))
