-- A job has one answer.
use Rattle.std.proofs.Common.{◌≡◌, ℕ, inl, inr, ◌⊎◌, ◌<◌, List, Option, Some, refl, ap, subst}
use Rattle.std.specs.List.{All}
use Rattle.std.proofs.lemmas.Bool.{cases_order}
use Rattle.fo_core.specs.declared.system.System.{System}
use Rattle.fo_core.specs.declared.world.World.{World}
use Rattle.fo_core.specs.Finds.{HasNoWorld}
use Rattle.fo_core.specs.Least.{IsLeast}
use Rattle.fo_core.specs.Sorted.{IsSystem}
use Rattle.fo_least.proofs.OneLeast.{one_least}
use Rattle.fo_min.specs.declared.found.Least.{Least}
use Rattle.fo_min.specs.declared.found.Least.TheVariants as L
use Rattle.fo_min.proofs.OneAnswer.{one-excess}
use Rattle.up_diagram.specs.declared.cube.Cube.{Cube}
use Rattle.up_diagram.specs.Cubes.{IsCube}
use Rattle.up_claims.specs.declared.kind.Kind.TheVariants as K
use Rattle.up_claims.specs.Blocked.{IsBlocked, NoInitial, NoStep}
use Rattle.up_claims.specs.Frames.{IsFrame}
use Rattle.up_claims.specs.InferQueries.{seed_query, root_query, before_query}
use Rattle.up_claims.specs.RunQueries.{run_query, IsLeastRun}
use Rattle.up_claims.proofs.BlockedLemmas.{initial-by-query, step-by-query, seed-by-query}
use Rattle.up_claims.proofs.PassLemmas.{one-pass}
use Rattle.up_claims.proofs.UnrollLemmas.{meaning-unroll}
use Rattle.up_block.specs.declared.blocking.Blocking.{Blocking}
use Rattle.up_block.specs.declared.blocking.Blocking.TheVariants as B
use Rattle.up_block.proofs.OneBlock.{one-answer as one-block}
use Rattle.up_push.specs.declared.pushing.Pushing.{Pushing}
use Rattle.up_push.specs.declared.pushing.Pushing.TheVariants as P
use Rattle.up_push.proofs.OnePush.{one-answer as one-push}
use Rattle.up_unroll.specs.declared.unrolling.Unrolled.{Unrolled}
use Rattle.up_unroll.specs.declared.unrolling.Unrolled.TheVariants as U
use Rattle.up_unroll.proofs.OneRun.{one-answer as one-unroll}
use Rattle.up_machine.specs.Finding.{state_cube, state_cubes}
use Rattle.up_machine.specs.Machine.{Given, Work, Look, Push, Trace}
use Rattle.up_machine.specs.Sound.{IsFitGiven}
use Rattle.up_machine.proofs.SortedDiagrams.{diagram_sorted}
use Rattle.up_jobs.specs.declared.solved.Solved.{Solved}
use Rattle.up_jobs.specs.declared.solved.Solved.TheVariants as S
use Rattle.up_jobs.specs.Solving.{IsAnswer}
use Rattle.up_jobs.proofs.Givens.{states-sorted}
use Rattle.up_jobs.proofs.Searches.{seed-excess}
use Rattle.up_jobs.proofs.Unrollings.{kind-of, excess-of}

module _ (sys : System) (is : IsSystem sys) (limit : ℕ) where
  abbrev Answers : Given → Solved → Type 0
  Answers given a = IsAnswer sys limit given a

  module _ (level : ℕ) (frame : List Cube) (avoid : List World) (done : ℕ) (framed : All (IsCube sys.sig) frame) (avoided : All (IsCube sys.sig) (state_cubes sys.sig avoid)) where
    abbrev look : Given
    look = Look level frame avoid done

    no-seed : Answers look (S.Look L.Nothing) → HasNoWorld sys.sig (seed_query sys frame (state_cubes sys.sig avoid))
    no-seed h = (seed-by-query sys is frame (state_cubes sys.sig avoid) framed avoided).1 h.0

    one_least_seed : (a b : Least) → Answers look (S.Look a) → Answers look (S.Look b) → a ≡ b
    one_least_seed (L.Model s) (L.Model t) h g = ap L.Model (one_least sys.sig (seed_query sys frame (state_cubes sys.sig avoid)) s t h.0 g.0)
    one_least_seed (L.Model s) L.Nothing h g = absurd (no-seed g s h.0.meets)
    one_least_seed (L.Model s) (L.Over x) h g = absurd (h.1 K.Seed x g)
    one_least_seed L.Nothing (L.Model s) h g = absurd (no-seed h s g.0.meets)
    one_least_seed L.Nothing L.Nothing h g = refl
    one_least_seed L.Nothing (L.Over x) h g = absurd (h.1 K.Seed x g)
    one_least_seed (L.Over x) (L.Model s) h g = absurd (g.1 K.Seed x h)
    one_least_seed (L.Over x) L.Nothing h g = absurd (g.1 K.Seed x h)
    one_least_seed (L.Over x) (L.Over y) h g =
        ap L.Over (one-excess sys.sig (seed_query sys frame (state_cubes sys.sig avoid)) limit x y
        (seed-excess sys is limit level frame avoid done framed avoided K.Seed x h)
        (seed-excess sys is limit level frame avoid done framed avoided K.Seed y g))

    one_look : (a b : Solved) → Answers look a → Answers look b → a ≡ b
    one_look (S.Look a) (S.Look b) h g = ap S.Look (one_least_seed a b h g)
    one_look (S.Look a) (S.Work b) h g = absurd g.0
    one_look (S.Look a) (S.Push b) h g = absurd g.0
    one_look (S.Look a) (S.Trace b) h g = absurd g.0
    one_look (S.Work a) b h g = absurd h.0
    one_look (S.Push a) b h g = absurd h.0
    one_look (S.Trace a) b h g = absurd h.0

  module _ (k level : ℕ) (below : Option (List Cube)) (world : World) (framed : IsFrame sys.sig below) (known : IsCube sys.sig (state_cube sys.sig world)) where
    abbrev work : Given
    work = Work k level below world

    abbrev state : Cube
    state = state_cube sys.sig world

    no_initial : NoInitial sys state → HasNoWorld sys.sig (root_query sys state)
    no_initial none = (initial-by-query sys is state known).0 none

    no_step : NoStep sys below state → HasNoWorld sys.sig (before_query sys below state)
    no_step none = (step-by-query sys is below state framed known).0 none

    one_blocking : (a b : Blocking) → Answers work (S.Work a) → Answers work (S.Work b) → a ≡ b
    one_blocking (B.Blocked rest) (B.Blocked other) h g = ap B.Blocked (one-pass (IsBlocked sys below) state rest other h.0.pass g.0.pass)
    one_blocking (B.Blocked rest) (B.Initial u) h g = absurd (no_initial h.0.blocked.no_initial u g.0.meets)
    one_blocking (B.Blocked rest) (B.Step p) h g = absurd (no_step h.0.blocked.no_step p g.0.least.meets)
    one_blocking (B.Blocked rest) (B.Over what x) h g = absurd (h.1 what x g)
    one_blocking (B.Initial u) (B.Blocked rest) h g = absurd (no_initial g.0.blocked.no_initial u h.0.meets)
    one_blocking (B.Initial u) (B.Initial v) h g = ap B.Initial (one_least sys.sig (root_query sys state) u v h.0 g.0)
    one_blocking (B.Initial u) (B.Step p) h g = absurd (no_initial g.0.no_root u h.0.meets)
    one_blocking (B.Initial u) (B.Over what x) h g = absurd (h.1 what x g)
    one_blocking (B.Step p) (B.Blocked rest) h g = absurd (no_step g.0.blocked.no_step p h.0.least.meets)
    one_blocking (B.Step p) (B.Initial u) h g = absurd (no_initial h.0.no_root u g.0.meets)
    one_blocking (B.Step p) (B.Step q) h g = ap B.Step (one_least sys.sig (before_query sys below state) p q h.0.least g.0.least)
    one_blocking (B.Step p) (B.Over what x) h g = absurd (h.1 what x g)
    one_blocking (B.Over what x) (B.Blocked rest) h g = absurd (g.1 what x h)
    one_blocking (B.Over what x) (B.Initial u) h g = absurd (g.1 what x h)
    one_blocking (B.Over what x) (B.Step p) h g = absurd (g.1 what x h)
    one_blocking (B.Over what x) (B.Over other y) h g = one-block sys limit below state is framed known (B.Over what x) (B.Over other y) h g

    one_work : (a b : Solved) → Answers work a → Answers work b → a ≡ b
    one_work (S.Work a) (S.Work b) h g = ap S.Work (one_blocking a b h g)
    one_work (S.Work a) (S.Look b) h g = absurd g.0
    one_work (S.Work a) (S.Push b) h g = absurd g.0
    one_work (S.Work a) (S.Trace b) h g = absurd g.0
    one_work (S.Look a) b h g = absurd h.0
    one_work (S.Push a) b h g = absurd h.0
    one_work (S.Trace a) b h g = absurd h.0

  module _ (k level : ℕ) (frame : List Cube) (cube : Cube) (framed : All (IsCube sys.sig) frame) (known : IsCube sys.sig cube) where
    abbrev push : Given
    push = Push k level frame cube

    none_into : NoStep sys (Some frame) cube → HasNoWorld sys.sig (before_query sys (Some frame) cube)
    none_into none = (step-by-query sys is (Some frame) cube framed known).0 none

    one_pushing : (a b : Pushing) → Answers push (S.Push a) → Answers push (S.Push b) → a ≡ b
    one_pushing P.Holds P.Holds h g = refl
    one_pushing P.Holds (P.Fails p) h g = absurd (none_into h.0 p g.0.meets)
    one_pushing P.Holds (P.Over what x) h g = absurd (h.1 what x g)
    one_pushing (P.Fails p) P.Holds h g = absurd (none_into g.0 p h.0.meets)
    one_pushing (P.Fails p) (P.Fails q) h g = ap P.Fails (one_least sys.sig (before_query sys (Some frame) cube) p q h.0 g.0)
    one_pushing (P.Fails p) (P.Over what x) h g = absurd (h.1 what x g)
    one_pushing (P.Over what x) P.Holds h g = absurd (g.1 what x h)
    one_pushing (P.Over what x) (P.Fails p) h g = absurd (g.1 what x h)
    one_pushing (P.Over what x) (P.Over other y) h g = one-push sys limit frame cube is framed known (P.Over what x) (P.Over other y) h g

    one_push : (a b : Solved) → Answers push a → Answers push b → a ≡ b
    one_push (S.Push a) (S.Push b) h g = ap S.Push (one_pushing a b h g)
    one_push (S.Push a) (S.Look b) h g = absurd g.0
    one_push (S.Push a) (S.Work b) h g = absurd g.0
    one_push (S.Push a) (S.Trace b) h g = absurd g.0
    one_push (S.Look a) b h g = absurd h.0
    one_push (S.Work a) b h g = absurd h.0
    one_push (S.Trace a) b h g = absurd h.0

  module _ (k steps : ℕ) where
    abbrev trace : Given
    trace = Trace k steps

    -- the least run of n steps is the least world of its query
    least_of : (n : ℕ) (w : World) → IsLeastRun sys steps n w → IsLeast sys.sig (run_query sys n) w
    least_of n w r = record {
      meets = (meaning-unroll sys n (run_query sys n) refl refl w).1 r.run;
      first = λ v meets. r.first v ((meaning-unroll sys n (run_query sys n) refl refl v).0 meets);
    }

    one_run : (n j : ℕ) (v w : World) → IsLeastRun sys steps n v → IsLeastRun sys steps j w → v ≡ w
    one_run n j v w r s = by_order (cases_order n j)
      where
        by_order : (n ≡ j) ⊎ ((n < j) ⊎ (j < n)) → v ≡ w
        by_order (inl same) =
            one_least sys.sig (run_query sys j) v w (subst (λ i. IsLeast sys.sig (run_query sys i) v) same (least_of n v r)) (least_of j w s)
        by_order (inr (inl lt)) = absurd (s.shortest n lt v r.run)
        by_order (inr (inr lt)) = absurd (r.shortest j lt w s.run)

    one_unrolled : (a b : Unrolled) → Answers trace (S.Trace a) → Answers trace (S.Trace b) → a ≡ b
    one_unrolled (U.Run v) (U.Run w) h g = ap U.Run (one_run h.0.0 g.0.0 v w h.0.1 g.0.1)
    one_unrolled (U.Run v) U.NoRun h g = absurd (g.0 h.0.0 h.0.1.within v h.0.1.run)
    one_unrolled (U.Run v) (U.Over what x) h g = absurd (h.1 what x g)
    one_unrolled U.NoRun (U.Run w) h g = absurd (h.0 g.0.0 g.0.1.within w g.0.1.run)
    one_unrolled U.NoRun U.NoRun h g = refl
    one_unrolled U.NoRun (U.Over what x) h g = absurd (h.1 what x g)
    one_unrolled (U.Over what x) (U.Run w) h g = absurd (g.1 what x h)
    one_unrolled (U.Over what x) U.NoRun h g = absurd (g.1 what x h)
    one_unrolled (U.Over what x) (U.Over other y) h g =
        one-unroll sys limit steps is (U.Over what x) (U.Over other y)
        (kind-of sys limit steps what x h, excess-of sys limit steps what x h)
        (kind-of sys limit steps other y g, excess-of sys limit steps other y g)

    one_trace : (a b : Solved) → Answers trace a → Answers trace b → a ≡ b
    one_trace (S.Trace a) (S.Trace b) h g = ap S.Trace (one_unrolled a b h g)
    one_trace (S.Trace a) (S.Look b) h g = absurd g.0
    one_trace (S.Trace a) (S.Work b) h g = absurd g.0
    one_trace (S.Trace a) (S.Push b) h g = absurd g.0
    one_trace (S.Look a) b h g = absurd h.0
    one_trace (S.Work a) b h g = absurd h.0
    one_trace (S.Push a) b h g = absurd h.0

  pub one-answer : (given : Given) → IsFitGiven sys.sig given → (a b : Solved) → Answers given a → Answers given b → a ≡ b
  one-answer (Work k level below world) fit a b h g =
      one_work k level below world fit.0 (diagram_sorted sys.sig world 0 is.signature fit.1 fit.1.some_copy) a b h g
  one-answer (Look level frame avoid done) fit a b h g =
      one_look level frame avoid done fit.0 (states-sorted sys.sig is.signature avoid fit.1) a b h g
  one-answer (Push k level frame cube) fit a b h g = one_push k level frame cube fit.0 fit.1 a b h g
  one-answer (Trace k steps) fit a b h g = one_trace k steps a b h g
