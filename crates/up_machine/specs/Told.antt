-- The verdict that a closed history tells.
use Rattle.std.specs.Prelude.{◌≡◌, ℕ, suc, ◌+◌, ◌-◌, true, List, [], ◌∷◌, ◌++◌, length, map, take, None, Some, slice_get}
use Rattle.std.specs.List.{filter}
use Rattle.fo_core.specs.declared.signature.Sig.{Sig}
use Rattle.fo_core.specs.declared.system.System.{System}
use Rattle.fo_core.specs.declared.world.World.{World}
use Rattle.fo_core.specs.Runs.{alone}
use Rattle.fo_embed.specs.Compared.{IsFirstEmbedding}
use Rattle.up_claims.specs.declared.verdict.Kept.{Kept}
use Rattle.up_claims.specs.declared.verdict.Link.{Link}
use Rattle.up_claims.specs.declared.verdict.Leave.{Leave}
use Rattle.up_claims.specs.declared.verdict.Verdict.{Verdict}
use Rattle.up_claims.specs.declared.verdict.Verdict.TheVariants as V
use Rattle.up_claims.specs.Verdicts.{Holds, IsShortest}
use Rattle.up_machine.specs.declared.end.End.{End}
use Rattle.up_machine.specs.declared.end.End.TheVariants as N
use Rattle.up_machine.specs.declared.event.Event.{Event}
use Rattle.up_machine.specs.declared.event.Event.TheVariants as E
use Rattle.up_machine.specs.Machine.{Clause, Rooted, Obligation, FailedPush, Machine, is_from}
use Rattle.up_machine.specs.Replay.{replay}
use Rattle.up_machine.specs.Due.{IsFirst, IsValid}
use Rattle.up_machine.specs.Finding.{HoldsTrace}

-- a clause as it is told
abbrev pub kept_of : Clause → Kept
kept_of c = record { level = c.level; cube = c.cube }

-- the live clauses of at least this level, in the order in which they were learnt
abbrev pub kept_from : List Clause → ℕ → List Kept
kept_from clauses i = map kept_of (filter (is_from i) clauses)

abbrev pub live_of : List Clause → List Clause
live_of clauses = filter (λ (c : Clause). c.live) clauses

-- The link of an obligation: its state, with the first map that embeds it in the last copy of what
-- came before it: an initial state, or the step that is its child's world.
pub record IsLinkOf (sig : Sig) (o : Obligation) (origin : World) (link : Link) : Type 0 where
  pub state : link.state ≡ alone o.world 0
  pub origin_is : link.origin ≡ origin
  pub map :
      IsFirstEmbedding sig link.state 0 link.origin (length link.origin.copies - 1) link.map.images

-- the links from obligation k on through its parents, to a seed
pub data AreLinks (sig : Sig) (obligations : List Obligation) : World → ℕ → List Link → Type 0 where
  ends : (origin : World) (k : ℕ) (o : Obligation) (link : Link) →
      slice_get obligations k ≡ Some o → IsLinkOf sig o origin link → o.parent ≡ None →
      AreLinks sig obligations origin k (link ∷ [])
  goes_on : (origin : World) (k p : ℕ) (o : Obligation) (link : Link) (links : List Link) →
      slice_get obligations k ≡ Some o → IsLinkOf sig o origin link → o.parent ≡ Some p →
      AreLinks sig obligations o.world p links →
      AreLinks sig obligations origin k (link ∷ links)

-- the links of the obligation that the worker traced, from the initial state in which it is rooted
pub record AreTraced (sig : Sig) (m : Machine) (w : ℕ) (links : List Link) : Type 0 where
  pub trace : HoldsTrace m w
  pub obligation : Obligation
  pub there : slice_get m.obligations trace.obligation ≡ Some obligation
  pub root : World
  pub rooted : obligation.status ≡ Rooted root
  pub chain : AreLinks sig m.obligations (alone root 0) trace.obligation links

-- The leave of frame i: the first live clause of exactly this level, by its place among the live
-- ones, with its valid failed push.
pub record IsLeaveOf (sys : System) (m : Machine) (i : ℕ) (leave : Leave) : Type 0 where
  pub level : leave.level ≡ i
  pub number : ℕ
  pub clause : IsFirst m.clauses (λ k (c : Clause). (c.live ≡ true) × (c.level ≡ i)) number
  pub named : leave.clause ≡ length (live_of (take number m.clauses))
  pub place : ℕ
  pub failed : FailedPush
  pub there : slice_get m.failed place ≡ Some failed
  pub valid : IsValid sys m number clause.found failed
  pub step : leave.step ≡ failed.step

-- for each frame from 1 to the frontier its leave
pub record AreLeavesOf (sys : System) (m : Machine) (leaves : List Leave) : Type 0 where
  pub one_each : length leaves ≡ m.frontier
  pub each :
      (k : ℕ) (leave : Leave) → slice_get leaves k ≡ Some leave → IsLeaveOf sys m (k + 1) leave

-- the clauses are those of all live ones, and a leave is told for each frame up to the frontier
pub record AreBounds (sys : System) (m : Machine) (last : ℕ) (clauses : List Kept) (leaves : List Leave) : Type 0 where
  pub last_is : last ≡ m.frontier
  pub clauses_are : clauses ≡ kept_from m.clauses 0
  pub leaves_are : AreLeavesOf sys m leaves

-- The verdict of a history that ends at this machine by this worker's Close: of Safe the live
-- clauses above the level, of Unsafe the run, of NoUniversal the links of the trace, of Bounded the
-- frontier, the live clauses and the leaves, of Spent the number of productive events, of Over the
-- query's kind and weight.
module _ (sys : System) (m : Machine) (w : ℕ) where
  abbrev pub IsToldBy : End → Verdict → Type 0
  IsToldBy (N.Safe i) (V.Safe level clauses) = (level ≡ i) × (clauses ≡ kept_from m.clauses (suc i))
  IsToldBy (N.Unsafe run) (V.Unsafe told) = told ≡ run
  IsToldBy N.NoUniversal (V.NoUniversal links) = AreTraced sys.sig m w links
  IsToldBy N.Bounded (V.Bounded last clauses leaves) = AreBounds sys m last clauses leaves
  IsToldBy N.Spent (V.Spent steps) = steps ≡ m.productive
  IsToldBy (N.Over kind excess) (V.Over what weight) = (what ≡ kind) × (weight ≡ excess.weight)
  IsToldBy end verdict = ⊥

-- the history ends by a Close, which tells the verdict
pub record Told (sys : System) (history : List Event) (verdict : Verdict) : Type 0 where
  pub before : List Event
  pub worker : ℕ
  pub end : End
  pub closes : history ≡ before ++ E.Close worker end ∷ []
  pub tells : IsToldBy sys (replay before) worker end verdict

-- a verdict holds, and a violating run is moreover a shortest one
abbrev pub HoldsShortest : System → Verdict → Type 0
HoldsShortest sys (V.Unsafe run) = IsShortest sys run
HoldsShortest sys verdict = Holds sys verdict
