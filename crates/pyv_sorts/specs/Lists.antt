-- Words in order.
use Rattle.std.specs.Prelude.{ℕ, ◌++◌, List, [], ◌∷◌, Option, Some, None}
use Rattle.pyv_meaning.specs.Scope.{number}

abbrev pub behind : Option ℕ → List (List ℕ) → List ℕ → List (List ℕ)
behind None ws w = ws ++ w ∷ []
behind (Some k) ws w = ws

-- the words with one that stands behind the others, where it isn't among them
abbrev pub added : List (List ℕ) → List ℕ → List (List ℕ)
added ws w = behind (number ws w) ws w
