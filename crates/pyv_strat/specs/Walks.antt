-- Walks of a number of edges, inside the crate.
use Rattle.std.specs.Prelude.{◌≡◌, ℕ, zero, suc, ◌<◌, ◌↔◌, Bool, true, false, List, [], length, slice_index_or}
use Rattle.pyv_strat.specs.declared.edges.Edge.{Edge}
use Rattle.pyv_strat.specs.declared.cycle.Start.{Start}
use Rattle.pyv_strat.specs.Edges.{Among}

-- from a, a walk of so many edges leads to one of the goals
abbrev pub Reaches : (ℕ → ℕ → Type 0) → (ℕ → Type 0) → ℕ → ℕ → Type 0
Reaches edge goal zero a = goal a
Reaches edge goal (suc k) a = (b : ℕ) × edge a b × Reaches edge goal k b

-- the sort is marked
abbrev pub Marks : List Bool → ℕ → Type 0
Marks layer a = slice_index_or layer a false ≡ true

-- the layer marks the sorts from which a walk of k edges leads to one of the goals
abbrev pub IsLayer : List Edge → (ℕ → Type 0) → ℕ → List Bool → Type 0
IsLayer edges goal k layer = (a : ℕ) → Marks layer a ↔ Reaches (Among edges) goal k a

-- a walk leads from a through so many sorts back to a
abbrev pub Returns : List Edge → ℕ → ℕ → Type 0
Returns edges between a = Reaches (Among edges) (λ b. b ≡ a) (suc between) a

-- none does, through fewer sorts than these
abbrev pub NoneReturns : List Edge → ℕ → ℕ → Type 0
NoneReturns edges limit a = (between : ℕ) → between < limit → ¬ Returns edges between a

-- a shortest cycle through sorts below this number begins here, and none of its length begins at
-- a lesser sort
pub record IsStart (edges : List Edge) (sorts : ℕ) (start : Start) : Type 0 where
  pub within : start.sort < sorts
  pub few : start.between < sorts
  pub returns : Returns edges start.between start.sort
  pub fewest : (a : ℕ) → a < sorts → NoneReturns edges start.between a
  pub least : (a : ℕ) → a < start.sort → ¬ Returns edges start.between a

-- for each number below `count`, the layer of the walks of so many edges to the goal
pub record AreLayers (edges : List Edge) (goal sorts count : ℕ) (layers : List (List Bool)) : Type 0 where
  pub many : length layers ≡ count
  pub long : (k : ℕ) → k < count → length (slice_index_or layers k []) ≡ sorts
  pub each : (k : ℕ) → k < count → IsLayer edges (λ b. b ≡ goal) k (slice_index_or layers k [])
