-- What the calls of a search answer, said of the brief that they are made with.
use Rattle.std.proofs.Common.{◌≡◌, ℕ, ◌-◌, List, Option, None, Some, sym, ap, subst, ◌∙◌}
use Rattle.std.specs.List.{All}
use Rattle.fo_core.specs.declared.order.Order.{Order}
use Rattle.fo_core.specs.declared.signature.Sig.{Sig}
use Rattle.fo_core.specs.declared.system.System.{System}
use Rattle.fo_core.specs.declared.world.World.{World}
use Rattle.fo_min.specs.declared.found.Least.{Least}
use Rattle.fo_min.specs.Found.{IsFoundLeast}
use Rattle.up_diagram.specs.declared.cube.Cube.{Cube}
use Rattle.up_diagram.specs.Cubes.{IsCube}
use Rattle.up_diagram.specs.Diagrams.{diagram}
use Rattle.up_claims.specs.Frames.{IsFrame, frame_at}
use Rattle.up_claims.specs.InferQueries.{seed_query}
use Rattle.up_block.specs.declared.blocking.Blocking.{Blocking}
use Rattle.up_block.specs.Blocking.{IsBlocking}
use Rattle.up_push.specs.declared.pushing.Pushing.{Pushing}
use Rattle.up_push.specs.Pushing.{IsPushing}
use Rattle.up_unroll.specs.declared.unrolling.Unrolled.{Unrolled}
use Rattle.up_unroll.specs.Unrolling.{IsUnrolled}
use Rattle.up_machine.specs.declared.brief.Brief.{Brief}
use Rattle.up_machine.specs.declared.job.Job.TheVariants as J
use Rattle.up_machine.specs.Briefs.{cubes_in, brief_of}
use Rattle.up_machine.specs.Due.{job_of}
use Rattle.up_machine.specs.Machine.{Given, Work, Look, Push, Trace}
use Rattle.up_jobs.specs.declared.solved.Solved.TheVariants as S
use Rattle.up_jobs.specs.Solving.{CanSolve, IsBriefOf, IsAnswer, IsSolved}
use Rattle.up_jobs.proofs.Searches.{looked, worked, pushed, traced}

-- a frame whose cubes are well-sorted
framed : (sig : Sig) (below : Option (List Cube)) → All (IsCube sig) (cubes_in below) → IsFrame sig below
framed sig None h = tt
framed sig (Some cubes) h = h

module _ (sys : System) (order : Order) (limit : ℕ) where
  -- the given's job is the brief's
  job-is : (given : Given) (brief : Brief) → IsBriefOf sys.sig given brief → brief.job ≡ job_of given
  job-is (Work k level below world) brief b = ap (λ (x : Brief). x.job) b.same
  job-is (Look level frame avoid done) brief b = ap (λ (x : Brief). x.job) b.same
  job-is (Push k level frame cube) brief b = ap (λ (x : Brief). x.job) b.same
  job-is (Trace k steps) brief b = ap (λ (x : Brief). x.job) b.same

  module _ (brief : Brief) (can : CanSolve sys order brief) where
    can-given : (given : Given) → IsBriefOf sys.sig given brief → CanSolve sys order (brief_of sys.sig given)
    can-given given b = subst (CanSolve sys order) b.same can

    -- a look
    abbrev Looks : Least → Brief → Type 0
    Looks least x = IsFoundLeast sys.sig (seed_query sys x.frame x.avoid) limit least

    look_at : (given : Given) → IsBriefOf sys.sig given brief → job_of given ≡ J.Look → (least : Least) → Looks least brief → IsAnswer sys limit given (S.Look least)
    look_at (Look level frame avoid done) b job least found =
        let there = can-given (Look level frame avoid done) b in
        looked sys there.infer.system limit level frame avoid done there.ready.frame there.ready.avoid least (subst (Looks least) b.same found)
    look_at (Work k level below world) b job least found = let no : ⊥ = cc in absurd no
    look_at (Push k level frame cube) b job least found = let no : ⊥ = cc in absurd no
    look_at (Trace k steps) b job least found = let no : ⊥ = cc in absurd no

    pub solved-look : brief.job ≡ J.Look → (frame avoid : List Cube) → frame ≡ brief.frame → avoid ≡ brief.avoid → (least : Least) →
        IsFoundLeast sys.sig (seed_query sys frame avoid) limit least → IsSolved sys limit brief (S.Look least)
    solved-look job frame avoid framed_by avoided_by least found given b =
        look_at given b (sym (job-is given brief b) ∙ job) least
        (subst (λ (cubes : List Cube). IsFoundLeast sys.sig (seed_query sys brief.frame cubes) limit least) avoided_by
        (subst (λ (cubes : List Cube). IsFoundLeast sys.sig (seed_query sys cubes avoid) limit least) framed_by found))

    -- a work
    abbrev Works : Blocking → Brief → World → Type 0
    Works a x w = IsBlocking sys limit (frame_at (x.level - 1) x.frame) (diagram sys.sig w 0) a

    work_at : (n : ℕ) (given : Given) → IsBriefOf sys.sig given brief → job_of given ≡ J.Work n → (w : World) → brief.world ≡ Some w → (a : Blocking) → Works a brief w → IsAnswer sys limit given (S.Work a)
    work_at n (Work k level below world) b job w has a found =
        let there = can-given (Work k level below world) b in
        let some : Some w ≡ Some world = sym has ∙ ap (λ (x : Brief). x.world) b.same in
        let same : w ≡ world = cc in
        let moved : Works a (brief_of sys.sig (Work k level below world)) w = subst (λ (x : Brief). Works a x w) b.same found in
        let of_world : IsBlocking sys limit (frame_at (level - 1) (cubes_in below)) (diagram sys.sig world 0) a =
        subst (λ (v : World). IsBlocking sys limit (frame_at (level - 1) (cubes_in below)) (diagram sys.sig v 0) a) same moved in
        worked sys there.infer.system limit k level below world (framed sys.sig below there.ready.frame) there.ready.parts.1 a
        (subst (λ (f : Option (List Cube)). IsBlocking sys limit f (diagram sys.sig world 0) a) (sym b.frame) of_world)
    work_at n (Look level frame avoid done) b job w has a found = let no : ⊥ = cc in absurd no
    work_at n (Push k level frame cube) b job w has a found = let no : ⊥ = cc in absurd no
    work_at n (Trace k steps) b job w has a found = let no : ⊥ = cc in absurd no

    pub solved-work : (n : ℕ) → brief.job ≡ J.Work n → (frame : List Cube) → frame ≡ brief.frame → (w : World) → brief.world ≡ Some w → (a : Blocking) →
        IsBlocking sys limit (frame_at (brief.level - 1) frame) (diagram sys.sig w 0) a → IsSolved sys limit brief (S.Work a)
    solved-work n job frame framed_by w has a found given b =
        work_at n given b (sym (job-is given brief b) ∙ job) w has a
        (subst (λ (cubes : List Cube). IsBlocking sys limit (frame_at (brief.level - 1) cubes) (diagram sys.sig w 0) a) framed_by found)

    -- a push
    abbrev Pushes : Pushing → Brief → Cube → Type 0
    Pushes a x c = IsPushing sys limit x.frame c a

    push_at : (n : ℕ) (given : Given) → IsBriefOf sys.sig given brief → job_of given ≡ J.Push n → (c : Cube) → brief.cube ≡ Some c → (a : Pushing) → Pushes a brief c → IsAnswer sys limit given (S.Push a)
    push_at n (Push k level frame cube) b job c has a found =
        let there = can-given (Push k level frame cube) b in
        let some : Some c ≡ Some cube = sym has ∙ ap (λ (x : Brief). x.cube) b.same in
        let same : c ≡ cube = cc in
        let moved : IsPushing sys limit frame c a = subst (λ (x : Brief). Pushes a x c) b.same found in
        pushed sys there.infer.system limit k level frame cube there.ready.frame there.ready.parts a
        (subst (λ (d : Cube). IsPushing sys limit frame d a) same moved)
    push_at n (Look level frame avoid done) b job c has a found = let no : ⊥ = cc in absurd no
    push_at n (Work k level below world) b job c has a found = let no : ⊥ = cc in absurd no
    push_at n (Trace k steps) b job c has a found = let no : ⊥ = cc in absurd no

    pub solved-push : (n : ℕ) → brief.job ≡ J.Push n → (frame : List Cube) → frame ≡ brief.frame → (c : Cube) → brief.cube ≡ Some c → (a : Pushing) →
        IsPushing sys limit frame c a → IsSolved sys limit brief (S.Push a)
    solved-push n job frame framed_by c has a found given b =
        push_at n given b (sym (job-is given brief b) ∙ job) c has a
        (subst (λ (cubes : List Cube). IsPushing sys limit cubes c a) framed_by found)

    -- a trace
    abbrev Traces : Unrolled → Brief → Type 0
    Traces a x = IsUnrolled sys limit x.level a

    trace_at : (n : ℕ) (given : Given) → IsBriefOf sys.sig given brief → job_of given ≡ J.Trace n → (a : Unrolled) → Traces a brief → IsAnswer sys limit given (S.Trace a)
    trace_at n (Trace k steps) b job a found = traced sys can.infer.system limit k steps a (subst (Traces a) b.same found)
    trace_at n (Look level frame avoid done) b job a found = let no : ⊥ = cc in absurd no
    trace_at n (Work k level below world) b job a found = let no : ⊥ = cc in absurd no
    trace_at n (Push k level frame cube) b job a found = let no : ⊥ = cc in absurd no

    pub solved-trace : (n : ℕ) → brief.job ≡ J.Trace n → (a : Unrolled) → Traces a brief → IsSolved sys limit brief (S.Trace a)
    solved-trace n job a found given b = trace_at n given b (sym (job-is given brief b) ∙ job) a found
