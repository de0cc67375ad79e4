-- What the search of a worker's brief answers, of the machine's own system and limit.
use Rattle.std.proofs.Common.{◌≡◌, ℕ, ◌-◌, List, Some, Result, Ok, refl, sym, ap, subst, ◌∙◌}
use Rattle.std.specs.List.{All}
use Rattle.std.specs.Result.{IfOk}
use Rattle.std.specs.declared.alloc.AllocError.{AllocError}
use Rattle.fo_core.specs.declared.system.System.{System}
use Rattle.fo_core.specs.declared.world.World.{World}
use Rattle.fo_min.specs.declared.found.Least.{Least}
use Rattle.fo_min.specs.Found.{IsFoundLeast}
use Rattle.up_diagram.specs.declared.cube.Cube.{Cube}
use Rattle.up_diagram.specs.Cubes.{IsCube}
use Rattle.up_diagram.specs.Diagrams.{diagram}
use Rattle.up_claims.specs.Frames.{frame_at}
use Rattle.up_claims.specs.InferQueries.{seed_query}
use Rattle.up_block.specs.declared.blocking.Blocking.{Blocking}
use Rattle.up_block.specs.Blocking.{IsBlocking}
use Rattle.up_push.specs.declared.pushing.Pushing.{Pushing}
use Rattle.up_push.specs.Pushing.{IsPushing}
use Rattle.up_machine.specs.declared.brief.Brief.{Brief}
use Rattle.up_machine.specs.declared.job.Job.TheVariants as J
use Rattle.up_jobs.specs.declared.solved.Solved.{Solved}
use Rattle.up_jobs.specs.declared.solved.Solved.TheVariants as S
use Rattle.up_jobs.specs.Solving.{IsSolved}
use Rattle.up_jobs.proofs.Briefs.{solved-look, solved-work, solved-push}
use Rattle.up_core.specs.View.{CoreView}
use Rattle.up_seats.specs.Seats.{IsAnswered, IsBriefed}

pub cubes-sorted : (s t : System) (xs ys : List Cube) → s ≡ t → xs ≡ ys → All (IsCube t.sig) ys → All (IsCube s.sig) xs
cubes-sorted s t xs ys same listed h = subst (λ (z : System). All (IsCube z.sig) xs) (sym same) (subst (All (IsCube t.sig)) (sym listed) h)

found-in : {X : Type 0} (P : System → ℕ → X → Type 0) (s t : System) (m n : ℕ) (r : Result X AllocError) (x : X) → s ≡ t → m ≡ n → r ≡ Ok x → IfOk r (P s m) → P t n x
found-in P s t m n r x same limit is found = subst (λ z. P z n x) same (subst (λ k. P s k x) limit (subst (λ z. IfOk z (P s m)) is found))

module _ (c : CoreView) (worker : ℕ) (brief : Brief) (b : IsBriefed c worker brief) where
  answered : (solved : Solved) → IsSolved c.sys c.limits.weight brief solved → IsAnswered c worker brief solved
  answered solved h = (b.given, record { held = b.held; brief_is = b.brief_is; answer = h })

  module _ (sys : System) (limit : ℕ) (same : sys ≡ c.sys) (weight : limit ≡ c.limits.weight) (frame : List Cube) (framed : frame ≡ brief.frame) where
    pub answered-look : brief.job ≡ J.Look → (avoid : List Cube) → avoid ≡ brief.avoid → (r : Result Least AllocError) (least : Least) → r ≡ Ok least →
        IfOk r (IsFoundLeast sys.sig (seed_query sys frame avoid) limit) → IsAnswered c worker brief (S.Look least)
    answered-look job avoid avoided r least is found =
        answered (S.Look least)
        (solved-look c.sys c.order c.limits.weight brief b.solvable job frame avoid framed avoided least
        (found-in (λ z n. IsFoundLeast z.sig (seed_query z frame avoid) n) sys c.sys limit c.limits.weight r least same weight is found))

    pub answered-work : (k : ℕ) → brief.job ≡ J.Work k → (w : World) → brief.world ≡ Some w → (r : Result Blocking AllocError) (a : Blocking) → r ≡ Ok a →
        IfOk r (IsBlocking sys limit (frame_at (brief.level - 1) frame) (diagram sys.sig w 0)) → IsAnswered c worker brief (S.Work a)
    answered-work k job w has r a is found =
        answered (S.Work a)
        (solved-work c.sys c.order c.limits.weight brief b.solvable k job frame framed w has a
        (found-in (λ z n. IsBlocking z n (frame_at (brief.level - 1) frame) (diagram z.sig w 0)) sys c.sys limit c.limits.weight r a same weight is found))

    pub answered-push : (k : ℕ) → brief.job ≡ J.Push k → (cube : Cube) → brief.cube ≡ Some cube → (r : Result Pushing AllocError) (a : Pushing) → r ≡ Ok a →
        IfOk r (IsPushing sys limit frame cube) → IsAnswered c worker brief (S.Push a)
    answered-push k job cube has r a is found =
        answered (S.Push a)
        (solved-push c.sys c.order c.limits.weight brief b.solvable k job frame framed cube has a
        (found-in (λ z n. IsPushing z n frame cube) sys c.sys limit c.limits.weight r a same weight is found))
