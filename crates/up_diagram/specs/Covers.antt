-- When one cube covers another.
use Rattle.std.specs.Prelude.{◌≡◌, ℕ, List, slice_index, ◌⊎◌}
use Rattle.std.specs.List.{All, Any, AllZip}
use Rattle.up_diagram.specs.declared.cube.Flat.{Flat}
use Rattle.up_diagram.specs.declared.cube.Flat.TheVariants.{Differ}
use Rattle.up_diagram.specs.declared.cube.Cube.{Cube}
use Rattle.up_diagram.specs.Cubes.{HasSort, HasPlaces, renamed}

-- the two literals are one; that two variables differ may be said in either order
abbrev pub IsAlike : Flat → Flat → Type 0
IsAlike (Differ i j) other = (other ≡ Differ i j) ⊎ (other ≡ Differ j i)
IsAlike lit other = other ≡ lit

-- the literal is one of these
abbrev pub HasLiteral : List Flat → Flat → Type 0
HasLiteral lits lit = Any (IsAlike lit) lits

-- cube d covers cube c: each variable of d has an image of its sort among those of c, and each
-- literal of d becomes one of c
pub record Covers (d c : Cube) : Type 0 where
  pub images : List ℕ
  pub sorts : AllZip (HasSort c.sorts) images d.sorts
  pub places : HasPlaces d
  pub literals : All (λ lit. HasLiteral c.lits (renamed (slice_index images) lit)) d.lits
