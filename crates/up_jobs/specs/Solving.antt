-- What the search of a job asks of its brief, and what it answers, said of what the worker was
-- given and in the words of legality.
use Rattle.std.specs.Prelude.{◌≡◌, ℕ, ◌-◌, ◌<◌, ◌≤◌, ◌^◌, Option, None, Some, ⊤}
use Rattle.std.specs.List.{All, sum}
use Rattle.fo_core.specs.declared.order.Order.{Order}
use Rattle.fo_core.specs.declared.signature.Sig.{Sig}
use Rattle.fo_core.specs.declared.system.System.{System}
use Rattle.fo_core.specs.declared.world.World.{World}
use Rattle.fo_min.specs.declared.found.Excess.{Excess}
use Rattle.fo_min.specs.declared.found.Least.TheVariants as L
use Rattle.up_diagram.specs.declared.cube.Cube.{Cube}
use Rattle.up_diagram.specs.Cubes.{IsCube}
use Rattle.up_diagram.specs.Diagrams.{CanDescribe}
use Rattle.up_claims.specs.declared.kind.Kind.{Kind}
use Rattle.up_claims.specs.declared.kind.Kind.TheVariants as K
use Rattle.up_claims.specs.Blocked.{NoStep}
use Rattle.up_claims.specs.Frames.{frame_at}
use Rattle.up_claims.specs.InferAsked.{IsFirstAbove}
use Rattle.up_claims.specs.Inferring.{CanInfer}
use Rattle.up_claims.specs.RunQueries.{HasNoRunOf, IsLeastRun}
use Rattle.up_block.specs.declared.blocking.Blocking.TheVariants as B
use Rattle.up_push.specs.declared.pushing.Pushing.TheVariants as P
use Rattle.up_unroll.specs.declared.unrolling.Unrolled.TheVariants as U
use Rattle.up_machine.specs.declared.brief.Brief.{Brief}
use Rattle.up_machine.specs.declared.job.Job.{Job}
use Rattle.up_machine.specs.declared.job.Job.TheVariants as J
use Rattle.up_machine.specs.Briefs.{cubes_in, brief_of}
use Rattle.up_machine.specs.Finding.{asked_by}
use Rattle.up_machine.specs.Legal.{IsLeastSeed, HasNoSeed, IsLeastRoot, IsLeastStep, IsFoundStep, IsFoundCube}
use Rattle.up_machine.specs.Machine.{Given, Work, Look, Push, Trace}
use Rattle.up_jobs.specs.declared.solved.Solved.{Solved}
use Rattle.up_jobs.specs.declared.solved.Solved.TheVariants as S

-- What a search asks of its brief.

-- there is a world, and its copy 0 may be described
abbrev pub HasState : Sig → Option World → Type 0
HasState sig None = ⊥
HasState sig (Some world) = CanDescribe sig world 0

-- there is a cube, and it is well-sorted
abbrev pub HasCube : Sig → Option Cube → Type 0
HasCube sig None = ⊥
HasCube sig (Some cube) = IsCube sig cube

-- the brief has what this job needs
abbrev pub HasParts : Sig → Job → Brief → Type 0
HasParts sig (J.Work k) brief = (1 ≤ brief.level) × HasState sig brief.world
HasParts sig J.Look brief = ⊤
HasParts sig (J.Push k) brief = HasCube sig brief.cube
HasParts sig (J.Trace k) brief = brief.level < 2 ^ 32 - 1

-- the cubes are well-sorted, and the brief has what its job needs
pub record IsReady (sig : Sig) (brief : Brief) : Type 0 where
  pub frame : All (IsCube sig) brief.frame
  pub avoid : All (IsCube sig) brief.avoid
  pub parts : HasParts sig brief.job brief

-- inference may ask queries of the system, and the brief is ready
pub record CanSolve (sys : System) (order : Order) (brief : Brief) : Type 0 where
  pub infer : CanInfer sys order
  pub ready : IsReady sys.sig brief

-- an obligation's level is at least 1, and its world has fewer than 2^32 elements in all; a run has
-- fewer than 2^32 - 1 steps
abbrev pub IsInRange : Given → Type 0
IsInRange (Work k level below world) = (1 ≤ level) × (sum world.sizes < 2 ^ 32)
IsInRange (Trace k steps) = steps < 2 ^ 32 - 1
IsInRange given = ⊤

-- What a search answers.

-- the frame below an obligation is that of its level: at level 1 the initial states, and at any
-- other what its cubes leave
abbrev pub HasFrame : Given → Type 0
HasFrame (Work k level below world) = below ≡ frame_at (level - 1) (cubes_in below)
HasFrame given = ⊤

-- the brief of what was given
pub record IsBriefOf (sig : Sig) (given : Given) (brief : Brief) : Type 0 where
  pub same : brief ≡ brief_of sig given
  pub frame : HasFrame given

module _ (sys : System) (limit : ℕ) (given : Given) where
  -- of the queries of the job, in their order, the first that is above the limit, with its weight
  -- and what it is asked for
  abbrev pub IsOver : Kind → Excess → Type 0
  IsOver what x = IsFirstAbove sys.sig (asked_by sys given) limit what x.query x.weight

  -- none of the queries of the job is the first above the limit
  abbrev pub NoneOver : Type 0
  NoneOver = (what : Kind) (x : Excess) → ¬ IsOver what x

-- What was found is so. A look finds the least violating state of its frame besides those to avoid,
-- or that there is none; a work finds the cube that is learnt from its obligation's state, the
-- least initial state in which that embeds, or where there is none the least step into its diagram;
-- a push finds that no step leads from its frame into the clause's cube, or the least one; a trace
-- finds the least of the shortest violating runs of at most so many steps, or that there is none.
abbrev pub IsFound : System → Given → Solved → Type 0
IsFound sys (Look level frame avoid done) (S.Look (L.Model s)) = IsLeastSeed sys frame avoid s
IsFound sys (Look level frame avoid done) (S.Look L.Nothing) = HasNoSeed sys frame avoid
IsFound sys (Work k level below world) (S.Work (B.Blocked cube)) = IsFoundCube sys below world cube
IsFound sys (Work k level below world) (S.Work (B.Initial u)) = IsLeastRoot sys world u
IsFound sys (Work k level below world) (S.Work (B.Step p)) = IsFoundStep sys below world p
IsFound sys (Push k level frame cube) (S.Push P.Holds) = NoStep sys (Some frame) cube
IsFound sys (Push k level frame cube) (S.Push (P.Fails p)) = IsLeastStep sys (Some frame) cube p
IsFound sys (Trace k steps) (S.Trace (U.Run run)) = (n : ℕ) × IsLeastRun sys steps n run
IsFound sys (Trace k steps) (S.Trace U.NoRun) = (n : ℕ) → n ≤ steps → HasNoRunOf sys n
IsFound sys given solved = ⊥

-- The answer to what was given: the first of the job's queries that is above the limit, with what
-- it is asked for; or what was found, where there is no such query.
abbrev pub IsAnswer : System → ℕ → Given → Solved → Type 0
IsAnswer sys limit (Look level frame avoid done) (S.Look (L.Over x)) =
    IsOver sys limit (Look level frame avoid done) K.Seed x
IsAnswer sys limit (Work k level below world) (S.Work (B.Over what x)) =
    IsOver sys limit (Work k level below world) what x
IsAnswer sys limit (Push k level frame cube) (S.Push (P.Over what x)) =
    IsOver sys limit (Push k level frame cube) what x
IsAnswer sys limit (Trace k steps) (S.Trace (U.Over what x)) =
    IsOver sys limit (Trace k steps) what x
IsAnswer sys limit given solved = IsFound sys given solved × NoneOver sys limit given

-- the brief's job is solved: this is the answer to what was given, whatever that is
abbrev pub IsSolved : System → ℕ → Brief → Solved → Type 0
IsSolved sys limit brief solved =
    (given : Given) → IsBriefOf sys.sig given brief → IsAnswer sys limit given solved
