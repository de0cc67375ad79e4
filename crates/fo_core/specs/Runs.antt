-- States, steps and runs of a transition system.
use Rattle.std.specs.Prelude.{◌≡◌, ℕ, ◌+◌, ◌-◌, ◌<◌, ◌≤◌, true, List, [], ◌∷◌, length, slice_index, slice_index_or}
use Rattle.std.specs.List.{All, Any, AllZip, Contains}
use Rattle.fo_core.specs.declared.system.System.{System}
use Rattle.fo_core.specs.declared.system.Step.{Step}
use Rattle.fo_core.specs.declared.world.World.{World}
use Rattle.fo_core.specs.Tables.{Fits, symbol_at, table_of}
use Rattle.fo_core.specs.Truth.{Truth}

-- an element for each of the sorts, where the sorts have these sizes
abbrev pub AreElements : List ℕ → List ℕ → List ℕ → Type 0
AreElements sizes = AllZip (λ x s. x < slice_index sizes s)

-- copy c is a state: all axioms are true there
abbrev pub IsState : System → World → ℕ → Type 0
IsState sys w c = All (λ f. Truth sys.sig w c f []) sys.axioms

-- copy c is a state in which all inits are true
pub record IsInitial (sys : System) (w : World) (c : ℕ) : Type 0 where
  pub state : IsState sys w c
  pub inits : All (λ f. Truth sys.sig w c f []) sys.inits

-- some safety is false in copy c
abbrev pub Violates : System → World → ℕ → Type 0
Violates sys w c = Any (λ f. ¬ Truth sys.sig w c f []) sys.safeties

-- every mutable symbol outside the list has equal tables in copies c and c + 1
abbrev pub KeepsOthers : System → World → ℕ → List ℕ → Type 0
KeepsOthers sys w c modifies =
    (k : ℕ) → k < length sys.sig.symbols → (symbol_at sys.sig k).mutable ≡ true → ¬ Contains modifies k → table_of sys.sig w c k ≡ table_of sys.sig w (c + 1) k

-- the transition leads from copy c to copy c + 1: its body is true there for some elements as its
-- parameters, and every mutable symbol that it doesn't modify keeps its table
pub record LeadsOn (sys : System) (w : World) (c : ℕ) (step : Step) : Type 0 where
  pub filled : (xs : List ℕ) × AreElements w.sizes xs step.params × Truth sys.sig w c step.body xs
  pub keeps : KeepsOthers sys w c step.modifies

-- copies c and c + 1 are states, and some transition leads from the one to the other
pub record IsStep (sys : System) (w : World) (c : ℕ) : Type 0 where
  pub state : IsState sys w c
  pub next_state : IsState sys w (c + 1)
  pub leads : Any (LeadsOn sys w c) sys.steps

-- the copies are a run: copy 0 is initial, and each copy but the last steps to the next one
pub record IsRun (sys : System) (w : World) : Type 0 where
  pub fits : Fits sys.sig w
  pub initial : IsInitial sys w 0
  pub steps : (c : ℕ) → c + 1 < length w.copies → IsStep sys w c

-- a run whose last copy violates a safety
pub record IsViolatingRun (sys : System) (w : World) : Type 0 where
  pub run : IsRun sys w
  pub violates : Violates sys w (length w.copies - 1)

-- copy c alone, as a world of one copy
abbrev pub alone : World → ℕ → World
alone w c = record { sizes = w.sizes; fixed = w.fixed; copies = slice_index_or w.copies c [] ∷ [] }

-- copies c and c + 1, as a world of two copies
abbrev pub pair : World → ℕ → World
pair w c = record {
  sizes = w.sizes;
  fixed = w.fixed;
  copies = slice_index_or w.copies c [] ∷ slice_index_or w.copies (c + 1) [] ∷ [];
}

-- the one-copy world s is the last copy of a run of at most k steps
pub record Reach (sys : System) (k : ℕ) (s : World) : Type 0 where
  pub run : World
  pub is_run : IsRun sys run
  pub short : length run.copies ≤ k + 1
  pub last : s ≡ alone run (length run.copies - 1)

-- no run is violating
abbrev pub IsSafe : System → Type 0
IsSafe sys = (w : World) → ¬ IsViolatingRun sys w
