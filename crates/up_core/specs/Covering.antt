-- Which clause may go for which, by their entries.
use Rattle.std.specs.Prelude.{◌≡◌, ℕ, ◌<◌, ◌≤◌, ◌≢◌, true, false, List, length, Option, Some, slice_get, MatchOption, ◌⊎◌}
use Rattle.up_diagram.specs.declared.cube.Cube.{Cube}
use Rattle.up_diagram.specs.Covers.{Covers}
use Rattle.up_diagram.specs.Cubes.{HasPlaces}
use Rattle.up_machine.specs.declared.event.Event.{Event}
use Rattle.up_machine.specs.declared.not_now.Cover.{Cover}
use Rattle.up_core.specs.declared.clauses.LiveClause.{LiveClause}
use Rattle.up_core.specs.declared.state.ClauseEntry.{ClauseEntry}
use Rattle.up_core.specs.declared.state.JobEntry.{JobEntry}
use Rattle.up_core.specs.Choice.{has_job, is_push_of}
use Rattle.up_core.specs.Mirror.{IsCubeAt}

module _ (history : List Event) where
  -- the cube that the event at this place learnt may be tried as a cover, in this room
  pub record CanCover (room : ℕ) (e : ClauseEntry) : Type 0 where
    pub places : (cube : Cube) → IsCubeAt history e.learnt cube → HasPlaces cube
    pub fits : (cube : Cube) → IsCubeAt history e.learnt cube → length cube.sorts ≤ room

  abbrev pub AllCanCover : ℕ → List ClauseEntry → Type 0
  AllCanCover room clauses =
      (k : ℕ) (e : ClauseEntry) → slice_get clauses k ≡ Some e → CanCover room e

  -- both clauses are live, and the second covers the first at its level or a higher one
  pub record IsCovering (gone by : ClauseEntry) : Type 0 where
    pub gone_live : gone.live ≡ true
    pub by_live : by.live ≡ true
    pub level : gone.level ≤ by.level
    pub old : Cube
    pub old_at : IsCubeAt history gone.learnt old
    pub cover : Cube
    pub cover_at : IsCubeAt history by.learnt cover
    pub covers : Covers cover old

  -- the clauses are two, and the second covers the first
  pub record CanGoFor (gone by : LiveClause) : Type 0 where
    pub apart : gone.number ≢ by.number
    pub covering : IsCovering gone.entry by.entry

  -- clause `gone` may go for clause `by`, if no worker pushes it
  pub record MayGo (clauses : List ClauseEntry) (gone by : ℕ) : Type 0 where
    pub old : ClauseEntry
    pub old_there : slice_get clauses gone ≡ Some old
    pub cover : ClauseEntry
    pub cover_there : slice_get clauses by ≡ Some cover
    pub apart : gone ≢ by
    pub covering : IsCovering old cover

  module _ (clauses : List ClauseEntry) (jobs : List JobEntry) where
    -- and none does
    pub record IsPair (gone by : ℕ) : Type 0 where
      pub go : MayGo clauses gone by
      pub free : has_job (is_push_of gone) jobs ≡ false

    -- the first clause for which clause `gone` may go, if there is one
    abbrev pub IsFirstBy : ℕ → Option ℕ → Type 0
    IsFirstBy gone place =
        MatchOption place ((by : ℕ) → ¬ IsPair gone by)
        (λ by. IsPair gone by × ((b : ℕ) → IsPair gone b → by ≤ b))

    -- the first pair, by the clause that goes and then by its cover, if there is one
    pub record IsFirstPair (gone by : ℕ) : Type 0 where
      pub pair : IsPair gone by
      pub first : (g b : ℕ) → IsPair g b → (gone < g) ⊎ (gone ≡ g) × (by ≤ b)

    abbrev pub IsFoundPair : Option Cover → Type 0
    IsFoundPair found =
        MatchOption found ((g b : ℕ) → ¬ IsPair g b) (λ c. IsFirstPair c.gone c.by)
