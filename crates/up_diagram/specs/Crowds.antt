-- Variables of one sort that are all to differ.
use Rattle.std.specs.Prelude.{◌≡◌, ℕ, ◌<◌, nat_eq, List, length, slice_index, ⊤}
use Rattle.std.specs.List.{Any, filter, range_with_len}
use Rattle.up_diagram.specs.declared.cube.Flat.{Flat}
use Rattle.up_diagram.specs.declared.cube.Flat.TheVariants.{Differ, Fact, Value}

-- the variables of this sort
abbrev pub of_sort : List ℕ → ℕ → List ℕ
of_sort sorts s = filter (λ v. nat_eq (slice_index sorts v) s) (range_with_len 0 (length sorts))

-- one of the literals says that variables i and j differ
abbrev pub SayDiffer : List Flat → ℕ → ℕ → Type 0
SayDiffer lits i j = Any (λ lit. lit ≡ Differ i j) lits

-- any two variables of this sort are to differ
abbrev pub AreApart : List ℕ → List Flat → ℕ → Type 0
AreApart sorts lits s =
    (i j : ℕ) → i < j → j < length sorts → slice_index sorts i ≡ s → slice_index sorts j ≡ s →
    SayDiffer lits i j

-- more variables of this sort are all to differ than there is room for
pub record AreTooMany (sorts : List ℕ) (lits : List Flat) (s room : ℕ) : Type 0 where
  pub many : room < length (of_sort sorts s)
  pub apart : AreApart sorts lits s

-- the literal doesn't say of one variable that it differs from itself
abbrev pub IsProper : Flat → Type 0
IsProper (Differ i j) = ¬ (i ≡ j)
IsProper (Fact sign r variables) = ⊤
IsProper (Value f variables v) = ⊤
