-- When an event may come. What a search found is said of what its worker was given at the take;
-- where it is to lie in a frame now, that is the frame as it stands. Legality speaks of states by
-- truth: which world is the least, which cube is blocked.
use Rattle.std.specs.Prelude.{◌≡◌, ℕ, ◌-◌, ◌<◌, ◌≤◌, ◌≢◌, true, List, [], ◌∷◌, Option, None, Some, slice_get, ⊤}
use Rattle.fo_core.specs.declared.system.System.{System}
use Rattle.fo_core.specs.declared.world.World.{World}
use Rattle.fo_core.specs.Least.{IsLeast}
use Rattle.fo_min.specs.declared.found.Excess.{Excess}
use Rattle.up_diagram.specs.declared.cube.Cube.{Cube}
use Rattle.up_diagram.specs.Cubes.{Meets}
use Rattle.up_diagram.specs.Covers.{Covers}
use Rattle.up_claims.specs.declared.kind.Kind.{Kind}
use Rattle.up_claims.specs.Blocked.{NoInitial, NoStep, NoSeed, IsBlocked, IsPass}
use Rattle.up_claims.specs.InferAsked.{IsFirstAbove}
use Rattle.up_claims.specs.InferQueries.{seed_query, root_query, before_query}
use Rattle.up_claims.specs.RunQueries.{HasNoRunOf, IsLeastRun}
use Rattle.up_machine.specs.declared.limits.Limits.{Limits}
use Rattle.up_machine.specs.declared.job.Job.{Job}
use Rattle.up_machine.specs.declared.job.Job.TheVariants as J
use Rattle.up_machine.specs.declared.job.Short.TheVariants as S
use Rattle.up_machine.specs.declared.job.Task.TheVariants as T
use Rattle.up_machine.specs.declared.event.Why.{Why}
use Rattle.up_machine.specs.declared.event.Why.TheVariants as Y
use Rattle.up_machine.specs.declared.event.Origin.{Origin}
use Rattle.up_machine.specs.declared.event.Origin.TheVariants as O
use Rattle.up_machine.specs.declared.end.End.{End}
use Rattle.up_machine.specs.declared.end.End.TheVariants as N
use Rattle.up_machine.specs.declared.event.Event.{Event}
use Rattle.up_machine.specs.declared.event.Event.TheVariants as E
use Rattle.up_machine.specs.Machine.{Clause, Machine, IsIn, IsFirstRefuter, held_by}
use Rattle.up_machine.specs.Replay.{is_productive, happens, replay}
use Rattle.up_machine.specs.Due.{IsOut, IsDue}
use Rattle.up_machine.specs.Finding.{state_cube, state_cubes, asked_by, HoldsJob, HoldsWork, HoldsLook, HoldsPush, HoldsTrace}

-- What searches find, of what they were given.
module _ (sys : System) where
  -- the least violating state of a frame besides those to avoid
  abbrev pub IsLeastSeed : List Cube → List World → World → Type 0
  IsLeastSeed frame avoid s = IsLeast sys.sig (seed_query sys frame (state_cubes sys.sig avoid)) s

  -- no violating state of a frame besides those to avoid
  abbrev pub HasNoSeed : List Cube → List World → Type 0
  HasNoSeed frame avoid = NoSeed sys frame (state_cubes sys.sig avoid)

  -- the least initial state into which the obligation's state embeds
  abbrev pub IsLeastRoot : World → World → Type 0
  IsLeastRoot world u = IsLeast sys.sig (root_query sys (state_cube sys.sig world)) u

  -- the least step from the frame to a state that meets the cube
  abbrev pub IsLeastStep : Option (List Cube) → Cube → World → Type 0
  IsLeastStep frame cube p = IsLeast sys.sig (before_query sys frame cube) p

  -- Where no initial state comes before the obligation's state, the least step into it from the
  -- frame below.
  pub record IsFoundStep (below : Option (List Cube)) (world p : World) : Type 0 where
    pub no_root : NoInitial sys (state_cube sys.sig world)
    pub least : IsLeastStep below (state_cube sys.sig world) p

  -- The cube of a clause that is learnt from the obligation's state: the state's diagram is
  -- blocked, and the cube is what the one pass over its literals leaves of it.
  pub record IsFoundCube (below : Option (List Cube)) (world : World) (cube : Cube) : Type 0 where
    pub blocked : IsBlocked sys below (state_cube sys.sig world)
    pub pass : IsPass sys below (state_cube sys.sig world) cube
    pub meets : Meets sys.sig world 0 cube

-- Clause `gone` may be retired for clause `by`: both are live and not the same, the second covers
-- the first at its level or a higher one, and no worker pushes the first.
pub record IsCover (m : Machine) (gone by : ℕ) : Type 0 where
  pub old : Clause
  pub there : slice_get m.clauses gone ≡ Some old
  pub live : old.live ≡ true
  pub cover : Clause
  pub cover_there : slice_get m.clauses by ≡ Some cover
  pub cover_live : cover.live ≡ true
  pub apart : gone ≢ by
  pub level : old.level ≤ cover.level
  pub covers : Covers cover.cube old.cube
  pub not_out : ¬ IsOut m (J.Push gone)

module _ (sys : System) (m : Machine) where
  -- Seed: a look found a violating state of the frontier's frame, which still lies in it: a new
  -- proof obligation at the frontier.
  pub record MaySeed (w : ℕ) (s : World) : Type 0 where
    pub look : HoldsLook m w
    pub found : IsLeastSeed sys look.frame look.avoid s
    pub inside : IsIn sys m m.frontier s 0

  -- Secure: a look that had nothing to avoid found that no state of the frontier's frame violates a
  -- safety.
  pub record MaySecure (w : ℕ) : Type 0 where
    pub look : HoldsLook m w
    pub nothing_avoided : look.avoid ≡ []
    pub none : HasNoSeed sys look.frame look.avoid

  -- Return with NoMore: a look found no violating state besides those of unfinished obligations.
  pub record MayFindNoMore (w : ℕ) : Type 0 where
    pub look : HoldsLook m w
    pub something_avoided : look.avoid ≢ []
    pub none : HasNoSeed sys look.frame look.avoid

  -- Learn: an obligation is blocked at its level i by frame i - 1, and so is the learnt cube, which
  -- the obligation's state meets; the state lies in frame i, so that the clause is new.
  pub record MayLearn (w : ℕ) (cube : Cube) : Type 0 where
    pub work : HoldsWork m w
    pub found : IsFoundCube sys work.below work.world cube
    pub inside : IsIn sys m work.level work.world 0

  -- Before with an initial state: the obligation's state embeds in it, so a chain from a violating
  -- state has come back to the start.
  pub record MayRoot (w : ℕ) (u : World) : Type 0 where
    pub work : HoldsWork m w
    pub found : IsLeastRoot sys work.world u
    pub inside : IsIn sys m work.level work.world 0

  -- Before with a step: it leads into the obligation's diagram, at level i, from a state of frame i
  -- - 1 as it stands, which is to be a new obligation one level below.
  pub record MayPrecede (w : ℕ) (p : World) : Type 0 where
    pub work : HoldsWork m w
    pub found : IsFoundStep sys work.below work.world p
    pub inside : IsIn sys m work.level work.world 0
    pub before_inside : IsIn sys m (work.level - 1) p 0

  abbrev pub MayComeBefore : ℕ → Origin → Type 0
  MayComeBefore w (O.Initial u) = MayRoot w u
  MayComeBefore w (O.Step p) = MayPrecede w p

  -- Drop: a clause, the first such one, already refutes the obligation's state in the frame of its
  -- level.
  pub record MayDrop (w c : ℕ) : Type 0 where
    pub work : HoldsWork m w
    pub refuter : IsFirstRefuter sys m work.level work.world 0 c

  -- Raise: no step leads from the clause's frame into its cube, so it holds one frame further on.
  pub record MayRaise (w : ℕ) : Type 0 where
    pub push : HoldsPush m w
    pub none : NoStep sys (Some push.frame) push.cube

  -- Fail: a step leads into the clause's cube from a state that lies in the clause's frame as it
  -- stands.
  pub record MayFail (w : ℕ) (p : World) : Type 0 where
    pub push : HoldsPush m w
    pub found : IsLeastStep sys (Some push.frame) push.cube p
    pub inside : IsIn sys m push.level p 0

  -- Return with Refuted: what a look, a work or a push found would make its event, but that a
  -- clause, the first such one, refutes it by now in the frame in which it is to lie.
  pub record MayRefuteSeed (w : ℕ) (s : World) (c : ℕ) : Type 0 where
    pub look : HoldsLook m w
    pub found : IsLeastSeed sys look.frame look.avoid s
    pub refuter : IsFirstRefuter sys m m.frontier s 0 c

  pub record MayRefuteStep (w : ℕ) (p : World) (c : ℕ) : Type 0 where
    pub work : HoldsWork m w
    pub found : IsFoundStep sys work.below work.world p
    pub inside : IsIn sys m work.level work.world 0
    pub refuter : IsFirstRefuter sys m (work.level - 1) p 0 c

  pub record MayRefuteFail (w : ℕ) (p : World) (c : ℕ) : Type 0 where
    pub push : HoldsPush m w
    pub found : IsLeastStep sys (Some push.frame) push.cube p
    pub refuter : IsFirstRefuter sys m push.level p 0 c

  pub data MayRefute (w : ℕ) (p : World) (c : ℕ) : Type 0 where
    of_seed : MayRefuteSeed w p c → MayRefute w p c
    of_step : MayRefuteStep w p c → MayRefute w p c
    of_fail : MayRefuteFail w p c → MayRefute w p c

  -- Close with Unsafe: a trace found a violating run, the least of the shortest ones.
  pub record MayCloseUnsafe (w : ℕ) (run : World) : Type 0 where
    pub trace : HoldsTrace m w
    pub steps : ℕ
    pub found : IsLeastRun sys trace.steps steps run

  -- Close with NoUniversal: a trace found no violating run that is as short as the chain of
  -- embeddings whose root it traces.
  pub record MayCloseNoUniversal (w : ℕ) : Type 0 where
    pub trace : HoldsTrace m w
    pub none : (k : ℕ) → k ≤ trace.steps → HasNoRunOf sys k

module _ (sys : System) (limits : Limits) (m : Machine) where
  -- Take: a worker without a job takes the one that is due.
  pub record MayTake (w : ℕ) (job : Job) : Type 0 where
    pub free : held_by m.jobs w ≡ None
    pub due : IsDue sys limits m (T.Job job)

  -- Return with Spent: the productive events have come to their limit.
  pub record MayReturnSpent (w : ℕ) : Type 0 where
    pub job : HoldsJob m w
    pub spent : limits.steps ≤ m.productive

  -- Return with NoMemory comes from any job.
  abbrev pub MayReturn : ℕ → Why → Type 0
  MayReturn w (Y.Refuted p c) = MayRefute sys m w p c
  MayReturn w Y.NoMore = MayFindNoMore sys m w
  MayReturn w Y.Spent = MayReturnSpent w
  MayReturn w Y.NoMemory = HoldsJob m w

  -- Close with Over: the query is the first of the job's queries that is heavier than the limit,
  -- with its kind and weight.
  pub record MayCloseOver (w : ℕ) (kind : Kind) (excess : Excess) : Type 0 where
    pub job : HoldsJob m w
    pub above :
        IsFirstAbove sys.sig (asked_by sys job.given) limits.weight kind excess.query excess.weight

  -- The other ends are due: they need no job.
  abbrev pub MayClose : ℕ → End → Type 0
  MayClose w (N.Safe i) = IsDue sys limits m (T.Finish (S.Safe i))
  MayClose w N.Bounded = IsDue sys limits m (T.Finish S.Bounded)
  MayClose w N.Spent = IsDue sys limits m (T.Finish S.Spent)
  MayClose w (N.Unsafe run) = MayCloseUnsafe sys m w run
  MayClose w N.NoUniversal = MayCloseNoUniversal sys m w
  MayClose w (N.Over kind excess) = MayCloseOver w kind excess

  -- the event may come, if there is no end and it can be paid
  abbrev pub IsAllowed : Event → Type 0
  IsAllowed (E.Take w job) = MayTake w job
  IsAllowed (E.Seed w s) = MaySeed sys m w s
  IsAllowed (E.Secure w) = MaySecure sys m w
  IsAllowed (E.Return w why) = MayReturn w why
  IsAllowed (E.Learn w cube) = MayLearn sys m w cube
  IsAllowed (E.Before w origin) = MayComeBefore sys m w origin
  IsAllowed (E.Drop w c) = MayDrop sys m w c
  IsAllowed (E.Raise w) = MayRaise sys m w
  IsAllowed (E.Fail w p) = MayFail sys m w p
  IsAllowed (E.Advance w) = IsDue sys limits m T.Advance
  IsAllowed (E.Close w end) = MayClose w end
  IsAllowed (E.Retire w gone by) = IsCover m gone by

  -- the event may come: nothing does after the end, and no productive event once the steps are
  -- spent
  pub record IsLegal (e : Event) : Type 0 where
    pub not_ended : m.ending ≡ None
    pub affordable : is_productive e ≡ true → m.productive < limits.steps
    pub allowed : IsAllowed e

-- each of these events is legal in the replay of those before it
module _ (sys : System) (limits : Limits) where
  abbrev pub AreLegal : Machine → List Event → Type 0
  AreLegal m [] = ⊤
  AreLegal m (e ∷ es) = IsLegal sys limits m e × AreLegal (happens m e) es

  abbrev pub Legal : List Event → Type 0
  Legal history = AreLegal (replay []) history
