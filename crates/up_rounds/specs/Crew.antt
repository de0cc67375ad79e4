-- How the jobs of a round are shared out among cells, each a finder and its answers.
use Rattle.std.specs.Prelude.{◌≡◌, ℕ, ◌+◌, ◌*◌, ◌/◌, ◌%◌, min, List, [], length, Option, None, Some, IfSome, IsSome, slice_range}
use Rattle.std.specs.Global.{Vec}
use Rattle.std.specs.List.{All, AllZip, flat_map}
use Rattle.fo_core.specs.declared.system.System.{System}
use Rattle.up_machine.specs.declared.brief.Brief.{Brief}
use Rattle.up_jobs.specs.declared.solved.Solved.{Solved}
use Rattle.up_jobs.specs.Solving.{IsSolved}
use Rattle.up_rounds.specs.declared.crew.Cell.{Cell}

-- Where the share of this number begins. The shares lie one after another, and their lengths differ
-- by one job at most: the first ones have one more.
abbrev pub share_begin : ℕ → ℕ → ℕ → ℕ
share_begin jobs shares k = k * (jobs / shares) + min k (jobs % shares)

-- the share of this number
abbrev pub share_of : {X : Type 0} → List X → ℕ → ℕ → List X
share_of xs shares k =
    slice_range xs (share_begin (length xs) shares k) (share_begin (length xs) shares (k + 1))

-- the answers, if there are any
abbrev pub answers_in : Option (Vec Solved) → List Solved
answers_in None = []
answers_in (Some answers) = answers.items

-- the answers of a cell
abbrev pub answers_of : {F : Type 0} → Cell F → List Solved
answers_of cell = answers_in cell.answers

-- The cell has solved a share of the jobs: its finder's limit is the same, and what it has answered
-- are the answers to these briefs, in their order.
pub record HasSolved {F : Type 0} (limit : F → ℕ) (sys : System) (briefs : List Brief) (before after : Cell F) : Type 0 where
  pub kept : limit after.finder ≡ limit before.finder
  pub answered :
      IfSome after.answers (λ v. AllZip (IsSolved sys (limit before.finder)) briefs v.items)

-- each cell has answers, and these are all of them, in the order of the cells
pub record AreGathered {F : Type 0} (cells : List (Cell F)) (answers : List Solved) : Type 0 where
  pub all : All (λ cell. IsSome cell.answers) cells
  pub in_order : answers ≡ flat_map answers_of cells
