-- Lists of edges, inside the crate.
use Rattle.std.specs.Prelude.{◌≡◌, ℕ, ◌<◌, ◌⊎◌, ◌↔◌, List}
use Rattle.std.specs.List.{All, Any}
use Rattle.pyv_strat.specs.declared.edges.Edge.{Edge}

-- an edge from a to b is among these
abbrev pub Among : List Edge → ℕ → ℕ → Type 0
Among edges a b = Any (λ (e : Edge). (e.from ≡ a) × (e.to ≡ b)) edges

-- the new list has the edges of the old one, those that are asked for, and no others
abbrev pub Adds : List Edge → List Edge → (ℕ → ℕ → Type 0) → Type 0
Adds old new asked = (a b : ℕ) → Among new a b ↔ (Among old a b ⊎ asked a b)

-- the edges are between sorts below this number
abbrev pub AreWithin : ℕ → List Edge → Type 0
AreWithin sorts = All (λ (e : Edge). (e.from < sorts) × (e.to < sorts))
