-- What is so after every legal history. Each part is said of what it speaks of alone, so that an
-- event that leaves that alone leaves the part.
use Rattle.std.specs.Prelude.{◌≡◌, ℕ, suc, true, ◌-◌, ◌≤◌, List, [], length, Option, None, Some, slice_get, ◌⊎◌, ⊤}
use Rattle.std.specs.List.{All}
use Rattle.fo_core.specs.declared.signature.Sig.{Sig}
use Rattle.fo_core.specs.declared.system.System.{System}
use Rattle.fo_core.specs.declared.world.World.{World}
use Rattle.fo_core.specs.Tables.{Fits}
use Rattle.fo_core.specs.Runs.{IsState, IsInitial, IsStep, Violates}
use Rattle.up_diagram.specs.declared.cube.Cube.{Cube}
use Rattle.up_diagram.specs.Cubes.{Meets, IsCube}
use Rattle.up_claims.specs.Blocked.{NoInitial, NoStep, NoSeed}
use Rattle.up_claims.specs.Frames.{Avoids, IsInFrame, IsFrame}
use Rattle.up_machine.specs.declared.job.Job.TheVariants as J
use Rattle.up_machine.specs.Machine.{Clause, Status, Ready, Out, Waiting, Done, Rooted, Obligation, FailedPush, Given, Work, Look, Push, Trace, Held, Machine, cubes_from, frame}
use Rattle.up_machine.specs.Due.{job_of}
use Rattle.up_machine.specs.Finding.{state_cube}

-- each element of the list has the property at its place
abbrev pub Each : {X : Type 0} → List X → (ℕ → X → Type 0) → Type 0
Each {X} xs P = (k : ℕ) (x : X) → slice_get xs k ≡ Some x → P k x

-- 1. What the frames rest on.

-- the parent of an obligation is one level above it
abbrev pub IsBelow : List Obligation → Obligation → Option ℕ → Type 0
IsBelow obligations o None = ⊤
IsBelow obligations o (Some p) =
    (parent : Obligation) × (slice_get obligations p ≡ Some parent) × (suc o.level ≡ parent.level)

-- an obligation's level is within the frontier, and a ready one isn't of level 0
pub record IsSoundLevel (frontier : ℕ) (obligations : List Obligation) (o : Obligation) : Type 0 where
  pub high : o.level ≤ frontier
  pub ready : o.status ≡ Ready → 1 ≤ o.level
  pub below : IsBelow obligations o o.parent

-- no clause is pushed by two workers
abbrev pub IsOnePush : List Held → Type 0
IsOnePush jobs =
    (i j k : ℕ) (a b : Held) → slice_get jobs i ≡ Some a → slice_get jobs j ≡ Some b →
    job_of a.given ≡ J.Push k → job_of b.given ≡ J.Push k → a.worker ≡ b.worker

-- what avoids the live clauses of the clause's level or a higher one doesn't meet its cube, be the
-- clause live or gone
abbrev pub IsStillRefuted : System → List Clause → Clause → Type 0
IsStillRefuted sys clauses c =
    (w : World) (n : ℕ) →
    Avoids sys.sig w n (cubes_from clauses c.level) → ¬ Meets sys.sig w n c.cube

module _ (sys : System) (frontier : ℕ) (clauses : List Clause) where
  -- of each clause, live or gone: no initial state meets its cube, and no step leads into it from
  -- the frame below its level, which is within the frontier and one
  pub record IsSoundClause (c : Clause) : Type 0 where
    pub low : 1 ≤ c.level
    pub high : c.level ≤ suc frontier
    pub no_initial : NoInitial sys c.cube
    pub no_step : NoStep sys (frame clauses (c.level - 1)) c.cube

  -- the states of frame i now are states of this frame
  abbrev pub IsPartOf : ℕ → Option (List Cube) → Type 0
  IsPartOf i old = (w : World) (c : ℕ) → IsInFrame sys (frame clauses i) w c → IsInFrame sys old w c

  -- what a worker was given is as it stands, but for the frame, which is at least as strong now
  pub record IsSoundWork (obligations : List Obligation) (k level : ℕ) (below : Option (List Cube)) (world : World) : Type 0 where
    pub obligation : Obligation
    pub there : slice_get obligations k ≡ Some obligation
    pub level_is : obligation.level ≡ level
    pub world_is : obligation.world ≡ world
    pub low : 1 ≤ level
    pub high : level ≤ frontier
    pub part : IsPartOf (level - 1) below

  pub record IsSoundLook (level : ℕ) (cubes : List Cube) : Type 0 where
    pub level_is : level ≡ frontier
    pub part : IsPartOf level (Some cubes)

  pub record IsSoundPush (k level : ℕ) (cubes : List Cube) (cube : Cube) : Type 0 where
    pub clause : Clause
    pub there : slice_get clauses k ≡ Some clause
    pub level_is : clause.level ≡ level
    pub cube_is : clause.cube ≡ cube
    pub live : clause.live ≡ true
    pub high : level ≤ frontier
    pub part : IsPartOf level (Some cubes)

  pub record IsSoundTrace (obligations : List Obligation) (k steps : ℕ) : Type 0 where
    pub obligation : Obligation
    pub there : slice_get obligations k ≡ Some obligation
    pub steps_are : steps ≡ frontier - obligation.level

  abbrev pub IsSoundGiven : List Obligation → Given → Type 0
  IsSoundGiven obligations (Work k level below world) = IsSoundWork obligations k level below world
  IsSoundGiven obligations (Look level cubes avoid done) = IsSoundLook level cubes
  IsSoundGiven obligations (Push k level cubes cube) = IsSoundPush k level cubes cube
  IsSoundGiven obligations (Trace k steps) = IsSoundTrace obligations k steps

-- all that the frames rest on
pub record FramesAreSound (sys : System) (frontier secure : ℕ) (clauses : List Clause) (obligations : List Obligation) (jobs : List Held) : Type 0 where
  pub begun : 1 ≤ frontier
  pub each_clause : Each clauses (λ k c. IsSoundClause sys frontier clauses c)
  pub live_or_gone : Each clauses (λ k c. IsStillRefuted sys clauses c)
  pub secure_near : (secure ≡ frontier) ⊎ (suc secure ≡ frontier)
  pub secure_holds : 1 ≤ secure → NoSeed sys (cubes_from clauses secure) []
  pub levels : Each obligations (λ k o. IsSoundLevel frontier obligations o)
  pub each_job : Each jobs (λ k h. IsSoundGiven sys frontier clauses obligations h.given)
  pub one_push : IsOnePush jobs

abbrev pub IsFrameSound : System → Machine → Type 0
IsFrameSound sys m = FramesAreSound sys m.frontier m.secure m.clauses m.obligations m.jobs

-- 2. Cubes are well-sorted, and worlds fit.

abbrev pub IsFitGiven : Sig → Given → Type 0
IsFitGiven sig (Work k level below world) = IsFrame sig below × Fits sig world
IsFitGiven sig (Look level cubes avoid done) = All (IsCube sig) cubes × All (Fits sig) avoid
IsFitGiven sig (Push k level cubes cube) = All (IsCube sig) cubes × IsCube sig cube
IsFitGiven sig (Trace k steps) = ⊤

pub record AreFit (sig : Sig) (clauses : List Clause) (obligations : List Obligation) (jobs : List Held) : Type 0 where
  pub cubes : Each clauses (λ k (c : Clause). IsCube sig c.cube)
  pub worlds : Each obligations (λ k (o : Obligation). Fits sig o.world)
  pub each_job : Each jobs (λ k (h : Held). IsFitGiven sig h.given)

abbrev pub IsFit : System → Machine → Type 0
IsFit sys m = AreFit sys.sig m.clauses m.obligations m.jobs

-- 3. Where obligations come from.
module _ (sys : System) where
  -- from the state of an obligation a step leads into its parent's diagram
  pub record StepsIntoParent (obligations : List Obligation) (o : Obligation) (p : ℕ) : Type 0 where
    pub parent : Obligation
    pub there : slice_get obligations p ≡ Some parent
    pub copies : length o.world.copies ≡ 2
    pub step : IsStep sys o.world 0
    pub meets : Meets sys.sig o.world 1 (state_cube sys.sig parent.world)

  -- a seed's state violates a safety; from any other's a step leads into its parent's diagram
  abbrev pub HasOrigin : List Obligation → Obligation → Option ℕ → Type 0
  HasOrigin obligations o None = Violates sys o.world 0
  HasOrigin obligations o (Some p) = StepsIntoParent obligations o p

  -- copy 0 of the root is an initial state, in which the world's state embeds
  pub record IsRootOf (world root : World) : Type 0 where
    pub fits : Fits sys.sig root
    pub initial : IsInitial sys root 0
    pub meets : Meets sys.sig root 0 (state_cube sys.sig world)

  abbrev pub HasRoot : World → Status → Type 0
  HasRoot world (Rooted root) = IsRootOf world root
  HasRoot world _ = ⊤

  pub record IsSoundOrigin (obligations : List Obligation) (o : Obligation) : Type 0 where
    pub fits : Fits sys.sig o.world
    pub state : IsState sys o.world 0
    pub origin : HasOrigin obligations o o.parent
    pub root : HasRoot o.world o.status

  abbrev pub AreSoundOrigins : List Obligation → Type 0
  AreSoundOrigins obligations = Each obligations (λ k o. IsSoundOrigin obligations o)

-- 4. Unfinished obligations are trees.

abbrev pub IsUnfinished : Obligation → Type 0
IsUnfinished o = ¬ (o.status ≡ Done)

pub record HasWaitingParent (obligations : List Obligation) (p : ℕ) : Type 0 where
  pub parent : Obligation
  pub there : slice_get obligations p ≡ Some parent
  pub waits : parent.status ≡ Waiting

-- an unfinished seed is of the frontier's level, and the parent of any other unfinished one waits
abbrev pub HasParent : ℕ → List Obligation → Obligation → Option ℕ → Type 0
HasParent frontier obligations o None = o.level ≡ frontier
HasParent frontier obligations o (Some p) = HasWaitingParent obligations p

-- unfinished obligations descend from seeds of the frontier's level, and none has two unfinished
-- children
pub record IsTree (frontier : ℕ) (obligations : List Obligation) : Type 0 where
  pub parents : Each obligations (λ k o. IsUnfinished o → HasParent frontier obligations o o.parent)
  pub one_child :
      (i j k : ℕ) (a b : Obligation) →
      slice_get obligations i ≡ Some a → slice_get obligations j ≡ Some b →
      a.parent ≡ Some k → b.parent ≡ Some k → IsUnfinished a → IsUnfinished b → i ≡ j

-- a job's obligation, if it is a work, is out
pub record IsOutAt (obligations : List Obligation) (k : ℕ) : Type 0 where
  pub obligation : Obligation
  pub there : slice_get obligations k ≡ Some obligation
  pub out : obligation.status ≡ Out

abbrev pub IsOutFor : List Obligation → Given → Type 0
IsOutFor obligations (Work k level below world) = IsOutAt obligations k
IsOutFor obligations _ = ⊤

-- the obligations that are worked on are out, each for one worker
pub record AreWorked (obligations : List Obligation) (jobs : List Held) : Type 0 where
  pub out : Each jobs (λ i h. IsOutFor obligations h.given)
  pub one_work :
      (i j k : ℕ) (a b : Held) → slice_get jobs i ≡ Some a → slice_get jobs j ≡ Some b →
      job_of a.given ≡ J.Work k → job_of b.given ≡ J.Work k → a.worker ≡ b.worker

pub record IsTreeSound (frontier : ℕ) (obligations : List Obligation) (jobs : List Held) : Type 0 where
  pub tree : IsTree frontier obligations
  pub worked : AreWorked obligations jobs

abbrev pub IsTreeOf : Machine → Type 0
IsTreeOf m = IsTreeSound m.frontier m.obligations m.jobs

-- 5. A failed push is a step into its clause's cube, from the clause's level or a lower one.
pub record IsSoundFail (sys : System) (clauses : List Clause) (f : FailedPush) : Type 0 where
  pub clause : Clause
  pub there : slice_get clauses f.clause ≡ Some clause
  pub low : f.level ≤ clause.level
  pub fits : Fits sys.sig f.step
  pub copies : length f.step.copies ≡ 2
  pub step : IsStep sys f.step 0
  pub meets : Meets sys.sig f.step 1 clause.cube

abbrev pub AreSoundFails : System → Machine → Type 0
AreSoundFails sys m = Each m.failed (λ k f. IsSoundFail sys m.clauses f)
