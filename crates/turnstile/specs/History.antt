-- Histories: lists of entries, each of which carries a caller's number.
use Rattle.std.specs.Prelude.{◌≡◌, ◌⊎◌, ℕ, ◌<◌, ◌≤◌, List, [], ◌∷◌, ◌++◌, length, filter, nat_eq, nat_lt, if◌then◌else◌}

module _ {E : Type 0} where
  -- the entries that carry this number, in order
  abbrev pub entries_of : (E → ℕ) → ℕ → List E → List E
  entries_of number k log = filter (λ e. nat_eq (number e) k) log

  -- the history `log` begins with the entries `xs`
  abbrev pub IsPrefixOf : List E → List E → Type 0
  IsPrefixOf xs log = (more : List E) × (log ≡ xs ++ more)

  -- the longer of two histories, and the first where they are as long
  abbrev pub longer : List E → List E → List E
  longer xs ys = if nat_lt (length xs) (length ys) then ys else xs

  -- `log` begins with what was seen, and of the numbers from `from` to below `to` it has the entries that were seen, and no others
  pub record Continues (number : E → ℕ) (from to : ℕ) (seen log : List E) : Type 0 where
    pub begins : IsPrefixOf seen log
    pub own : (k : ℕ) → from ≤ k → k < to → entries_of number k log ≡ entries_of number k seen

  -- the history is as it was, or has one entry more, which carries a number from `from` to below `to`
  abbrev pub AddsAtMostOne : (E → ℕ) → ℕ → ℕ → List E → List E → Type 0
  AddsAtMostOne number from to old new = (new ≡ old) ⊎ ((e : E) × (new ≡ old ++ e ∷ []) × (from ≤ number e) × (number e < to))
