-- What a closed run tells, by the entries that the code keeps.
use Rattle.std.specs.Prelude.{◌≡◌, ℕ, suc, ◌+◌, ◌-◌, ◌<◌, ◌≤◌, ◌^◌, ◌&&◌, cond, nat_eq, nat_le, List, [], ◌∷◌, length, Option, None, Some, option_map, slice_get, ⊤}
use Rattle.std.specs.List.{flat_map}
use Rattle.std.specs.Option.{option_and_then, option_or, option_to_list}
use Rattle.fo_core.specs.declared.signature.Sig.{Sig}
use Rattle.fo_core.specs.declared.world.World.{World}
use Rattle.fo_core.specs.Embedding.{IsEmbedding}
use Rattle.fo_core.specs.Runs.{alone}
use Rattle.fo_core.specs.Sorted.{IsSig}
use Rattle.fo_core.specs.Tables.{Fits}
use Rattle.fo_embed.specs.Compared.{IsFirstEmbedding}
use Rattle.up_claims.specs.declared.verdict.Kept.{Kept}
use Rattle.up_claims.specs.declared.verdict.Leave.{Leave}
use Rattle.up_claims.specs.declared.verdict.Link.{Link}
use Rattle.up_claims.specs.declared.verdict.Verdict.{Verdict}
use Rattle.up_claims.specs.declared.verdict.Verdict.TheVariants as V
use Rattle.up_diagram.specs.declared.cube.Cube.{Cube}
use Rattle.up_machine.specs.declared.end.End.{End}
use Rattle.up_machine.specs.declared.end.End.TheVariants as N
use Rattle.up_machine.specs.declared.event.Event.{Event}
use Rattle.up_machine.specs.declared.event.Event.TheVariants as E
use Rattle.up_machine.specs.declared.job.Job.{Job}
use Rattle.up_machine.specs.declared.job.Job.TheVariants as J
use Rattle.up_core.specs.declared.leaves.Mark.{Mark}
use Rattle.up_core.specs.declared.state.ClauseEntry.{ClauseEntry}
use Rattle.up_core.specs.declared.state.ObligationEntry.{ObligationEntry}
use Rattle.up_core.specs.declared.state.Progress.{Progress}
use Rattle.up_core.specs.declared.state.Progress.TheVariants as P
use Rattle.up_core.specs.declared.state.State.{State}
use Rattle.up_core.specs.Choice.{has_level}
use Rattle.up_core.specs.Mirror.{IsWorldAt, cube_of, world_of}

-- 1. Clauses.

abbrev pub kept_with : ℕ → Cube → Kept
kept_with level cube = record { level = level; cube = cube }

module _ (history : List Event) where
  -- the entry's clause as it is told, if it is live and of this level or a higher one
  abbrev pub told_from : ℕ → ClauseEntry → List Kept
  told_from level e =
      cond (e.live && nat_le level e.level)
      (option_to_list
      (option_map (kept_with e.level) (option_and_then cube_of (slice_get history e.learnt))))
      []

  -- those of all entries, in their order
  abbrev pub told_clauses : ℕ → List ClauseEntry → List Kept
  told_clauses level entries = flat_map (told_from level) entries

-- 2. Leaves.

-- the entry's mark, where this many live ones come before it, if it is live and of this level
abbrev pub own_mark : ℕ → ℕ → ClauseEntry → Option Mark
own_mark level place e =
    cond (has_level level e) (Some (record { place = place; failed = e.failed })) None

-- how many live entries come before the next entry
abbrev pub next_place : ℕ → ClauseEntry → ℕ
next_place place e = cond e.live (place + 1) place

-- the mark of the first live entry of this level, where this many live ones come before all of
-- these
abbrev pub mark_of : ℕ → ℕ → List ClauseEntry → Option Mark
mark_of level place [] = None
mark_of level place (e ∷ es) =
    option_or (own_mark level place e) (mark_of level (next_place place e) es)

-- for each level from 1 to the frontier the mark of its first live entry
pub record AreMarks (frontier : ℕ) (entries : List ClauseEntry) (marks : List (Option Mark)) : Type 0 where
  pub one_each : length marks ≡ frontier
  pub each : (k : ℕ) (mark : Option Mark) → slice_get marks k ≡ Some mark →
      mark ≡ mark_of (k + 1) 0 entries

module _ (history : List Event) where
  -- the step of a mark's failed push
  abbrev pub step_at : Option ℕ → Option World
  step_at failed =
      option_and_then (λ place. option_and_then world_of (slice_get history place)) failed

  -- there is a mark, with a step
  pub record HasLeave (mark : Option Mark) : Type 0 where
    pub found : Mark
    pub is : mark ≡ Some found
    pub step : World
    pub step_is : step_at found.failed ≡ Some step

  -- the leave of this level, by its mark
  pub record IsLeaveBy (level : ℕ) (mark : Option Mark) (leave : Leave) : Type 0 where
    pub found : Mark
    pub is : mark ≡ Some found
    pub level_is : leave.level ≡ level
    pub place : leave.clause ≡ found.place
    pub step : step_at found.failed ≡ Some leave.step

  -- each level from 1 to the frontier has a leave
  abbrev pub CanTellLeaves : State → Type 0
  CanTellLeaves s = (k : ℕ) → k < s.clauses.frontier → HasLeave (mark_of (k + 1) 0 s.clauses.items)

  -- and these are they
  pub record AreLeavesBy (s : State) (leaves : List Leave) : Type 0 where
    pub one_each : length leaves ≡ s.clauses.frontier
    pub each : (k : ℕ) (leave : Leave) → slice_get leaves k ≡ Some leave →
        IsLeaveBy (k + 1) (mark_of (k + 1) 0 s.clauses.items) leave

  pub record AreBoundsBy (s : State) (last : ℕ) (clauses : List Kept) (leaves : List Leave) : Type 0 where
    pub last_is : last ≡ s.clauses.frontier
    pub clauses_are : clauses ≡ told_clauses history 0 s.clauses.items
    pub leaves_are : AreLeavesBy s leaves

-- 3. Links.

-- copy 0 of the world embeds in the last copy of the origin, which has at most two
pub record CanLink (sig : Sig) (origin world : World) : Type 0 where
  pub signature : IsSig sig
  pub copies : 1 ≤ length world.copies
  pub state : Fits sig (alone world 0)
  pub fits : Fits sig origin
  pub some : 1 ≤ length origin.copies
  pub few : length origin.copies ≤ 2
  pub maps : List (List ℕ)
  pub embeds : IsEmbedding sig (alone world 0) 0 origin (length origin.copies - 1) maps

-- the link of that state, by the first map
pub record IsLinkTo (sig : Sig) (origin world : World) (link : Link) : Type 0 where
  pub state : link.state ≡ alone world 0
  pub origin_is : link.origin ≡ origin
  pub map :
      IsFirstEmbedding sig link.state 0 link.origin (length link.origin.copies - 1) link.map.images

module _ (sig : Sig) (history : List Event) (entries : List ObligationEntry) where
  -- obligation k, of a level below this one, may be linked to the origin
  pub record CanLinkAt (top : ℕ) (origin : World) (k : ℕ) : Type 0 where
    pub entry : ObligationEntry
    pub there : slice_get entries k ≡ Some entry
    pub high : entry.level < top
    pub world : World
    pub world_is : IsWorldAt history entry.found world
    pub can : CanLink sig origin world

  -- from each obligation that has a parent the links go on to it, one level higher
  abbrev pub CanGoOn : ℕ → Type 0
  CanGoOn top =
      (k p : ℕ) (e : ObligationEntry) (world : World) →
      slice_get entries k ≡ Some e → IsWorldAt history e.found world → e.parent ≡ Some p →
      (next : CanLinkAt top world p) × (next.entry.level ≡ suc e.level)

  -- the links from obligation k on through its parents, to a seed
  pub data AreLinksBy : World → ℕ → List Link → Type 0 where
    ends_by : (origin : World) (k : ℕ) (e : ObligationEntry) (world : World) (link : Link) →
        slice_get entries k ≡ Some e → IsWorldAt history e.found world →
        IsLinkTo sig origin world link → e.parent ≡ None →
        AreLinksBy origin k (link ∷ [])
    goes_on_by : (origin : World) (k p : ℕ) (e : ObligationEntry) (world : World)
        (link : Link) (links : List Link) →
        slice_get entries k ≡ Some e → IsWorldAt history e.found world →
        IsLinkTo sig origin world link → e.parent ≡ Some p →
        AreLinksBy world p links →
        AreLinksBy origin k (link ∷ links)

-- the job that a worker takes by this event, if it is such
abbrev pub job_taken : ℕ → Event → Option Job
job_taken w (E.Take v job) = cond (nat_eq v w) (Some job) None
job_taken w e = None

-- the job that a worker took last, where it took this one before these events
abbrev pub last_job : ℕ → Option Job → List Event → Option Job
last_job w before [] = before
last_job w before (e ∷ es) = last_job w (option_or (job_taken w e) before) es

abbrev pub traced_by : Option Job → Option ℕ
traced_by (Some (J.Trace k)) = Some k
traced_by (Some (J.Work k)) = None
traced_by (Some J.Look) = None
traced_by (Some (J.Push k)) = None
traced_by None = None

-- where the root of an obligation stands in the history
abbrev pub root_place : Progress → Option ℕ
root_place (P.Rooted place) = Some place
root_place P.Ready = None
root_place P.Out = None
root_place P.Waiting = None
root_place P.Done = None

-- the root of obligation k
abbrev pub root_in : List Event → List ObligationEntry → ℕ → Option World
root_in history entries k =
    option_and_then (λ place. option_and_then world_of (slice_get history place))
    (option_and_then (λ (e : ObligationEntry). root_place e.progress) (slice_get entries k))

module _ (sig : Sig) (history : List Event) where
  -- the obligation that the worker took last, to trace it, is rooted, and may be linked to its root
  pub record CanTellLinks (s : State) (w : ℕ) : Type 0 where
    pub number : ℕ
    pub taken : traced_by (last_job w None history) ≡ Some number
    pub root : World
    pub root_is : root_in history s.obligations.items number ≡ Some root
    pub copies : 1 ≤ length root.copies
    pub narrow : s.clauses.frontier + 1 < 2 ^ 32
    pub first : CanLinkAt sig history s.obligations.items (s.clauses.frontier + 1) (alone root 0) number
    pub more : CanGoOn sig history s.obligations.items (s.clauses.frontier + 1)

  -- the links of that obligation
  pub record AreLinksOf (s : State) (w : ℕ) (links : List Link) : Type 0 where
    pub number : ℕ
    pub taken : traced_by (last_job w None history) ≡ Some number
    pub root : World
    pub root_is : root_in history s.obligations.items number ≡ Some root
    pub chain : AreLinksBy sig history s.obligations.items (alone root 0) number links

-- 4. Verdicts.

module _ (sig : Sig) (history : List Event) (s : State) (w : ℕ) where
  -- what is to be told by an end is there
  abbrev pub CanTell : End → Type 0
  CanTell (N.Safe i) = i + 1 < 2 ^ 32
  CanTell (N.Unsafe run) = ⊤
  CanTell N.NoUniversal = CanTellLinks sig history s w
  CanTell N.Bounded = CanTellLeaves history s
  CanTell N.Spent = ⊤
  CanTell (N.Over kind excess) = ⊤

  -- the verdict that the worker's end tells
  abbrev pub IsVerdictBy : End → Verdict → Type 0
  IsVerdictBy (N.Safe i) (V.Safe level clauses) =
      (level ≡ i) × (clauses ≡ told_clauses history (i + 1) s.clauses.items)
  IsVerdictBy (N.Unsafe run) (V.Unsafe told) = told ≡ run
  IsVerdictBy N.NoUniversal (V.NoUniversal links) = AreLinksOf sig history s w links
  IsVerdictBy N.Bounded (V.Bounded last clauses leaves) = AreBoundsBy history s last clauses leaves
  IsVerdictBy N.Spent (V.Spent steps) = steps ≡ s.productive
  IsVerdictBy (N.Over kind excess) (V.Over what weight) = (what ≡ kind) × (weight ≡ excess.weight)
  IsVerdictBy end verdict = ⊥

-- the verdict that a history's last event tells, if it is an end
abbrev pub IsVerdictOf : Sig → List Event → State → Option Event → Verdict → Type 0
IsVerdictOf sig history s (Some (E.Close w end)) verdict = IsVerdictBy sig history s w end verdict
IsVerdictOf sig history s _ verdict = ⊥

-- the last event, if there is one
abbrev pub last_of : List Event → Option Event
last_of history = slice_get history (length history - 1)
