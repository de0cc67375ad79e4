-- What the calls of a search answer, said of what was given.
use Rattle.std.proofs.Common.{◌≡◌, ℕ, suc, List, Option, Some}
use Rattle.std.specs.List.{All}
use Rattle.fo_core.specs.declared.query.Query.{Query}
use Rattle.fo_core.specs.declared.signature.Sig.{Sig}
use Rattle.fo_core.specs.declared.system.System.{System}
use Rattle.fo_core.specs.declared.world.World.{World}
use Rattle.fo_core.specs.Asked.{IsAsked}
use Rattle.fo_core.specs.Queries.{IsQuery}
use Rattle.fo_core.specs.Sorted.{IsSystem}
use Rattle.fo_min.specs.declared.found.Excess.{Excess}
use Rattle.fo_min.specs.declared.found.Least.{Least}
use Rattle.fo_min.specs.declared.found.Least.TheVariants as L
use Rattle.fo_min.specs.Found.{IsExcess, IsFoundLeast}
use Rattle.fo_min.proofs.OneAnswer.{excess-none, excess-least}
use Rattle.up_diagram.specs.declared.cube.Cube.{Cube}
use Rattle.up_diagram.specs.Cubes.{Meets, IsCube, without}
use Rattle.up_diagram.specs.Diagrams.{CanDescribe}
use Rattle.up_diagram.proofs.DiagramMet.{own_diagram_met}
use Rattle.up_diagram.proofs.Leaving.{without_met}
use Rattle.up_claims.specs.declared.kind.Kind.{Kind}
use Rattle.up_claims.specs.Blocked.{Passes, ends, drops, keeps, IsBlocked}
use Rattle.up_claims.specs.Frames.{IsFrame}
use Rattle.up_claims.specs.InferAsked.{IsLookAsked, for_seed}
use Rattle.up_claims.specs.InferQueries.{seed_query}
use Rattle.up_claims.proofs.BlockedLemmas.{initial-by-query, step-by-query, seed-by-query}
use Rattle.up_claims.proofs.InferLemmas.{asks-seed}
use Rattle.up_block.specs.declared.blocking.Blocking.{Blocking}
use Rattle.up_block.specs.declared.blocking.Blocking.TheVariants as B
use Rattle.up_block.specs.Blocking.{IsBlocking}
use Rattle.up_block.proofs.DiagramSorted.{diagram-sorted}
use Rattle.up_block.proofs.OneBlock.{one-answer as one-block}
use Rattle.up_block.proofs.WithoutSorted.{sorted-places, without-sorted}
use Rattle.up_push.specs.declared.pushing.Pushing.{Pushing}
use Rattle.up_push.specs.declared.pushing.Pushing.TheVariants as P
use Rattle.up_push.specs.Pushing.{IsPushing}
use Rattle.up_push.proofs.OnePush.{one-answer as one-push}
use Rattle.up_unroll.specs.declared.unrolling.Unrolled.{Unrolled}
use Rattle.up_unroll.specs.declared.unrolling.Unrolled.TheVariants as U
use Rattle.up_unroll.specs.Unrolling.{IsUnrolled}
use Rattle.up_unroll.proofs.OneRun.{run-no-excess, none-no-excess}
use Rattle.up_machine.specs.Finding.{state_cube, state_cubes}
use Rattle.up_machine.specs.Machine.{Given, Work, Look, Push, Trace}
use Rattle.up_jobs.specs.declared.solved.Solved.TheVariants as S
use Rattle.up_jobs.specs.Solving.{IsOver, IsAnswer}
use Rattle.up_jobs.proofs.Unrollings.{excess-of as unroll-excess, first-above}

-- what meets a well-sorted cube meets what a pass leaves of it
pass-met : (sig : Sig) (w : World) (c : ℕ) (Good : Cube → Type 0) (k : ℕ) (cube rest : Cube) → IsCube sig cube → Meets sig w c cube → Passes Good k cube rest → Meets sig w c rest
pass-met sig w c Good k cube rest is meets (ends _ _ h) = meets
pass-met sig w c Good k cube rest is meets (drops _ _ _ lt good p) =
    pass-met sig w c Good k (without cube k) rest (without-sorted sig cube k is) (without_met sig w c cube k (sorted-places sig cube is) meets) p
pass-met sig w c Good k cube rest is meets (keeps _ _ _ lt bad p) = pass-met sig w c Good (suc k) cube rest is meets p

module _ (sys : System) (is : IsSystem sys) (limit : ℕ) where
  module _ (level : ℕ) (frame : List Cube) (avoid : List World) (done : ℕ) (framed : All (IsCube sys.sig) frame) (avoided : All (IsCube sys.sig) (state_cubes sys.sig avoid)) where
    abbrev look : Given
    look = Look level frame avoid done

    abbrev seed : Query
    seed = seed_query sys frame (state_cubes sys.sig avoid)

    asked_for : (before : List Query) (what : Kind) (q : Query) → IsLookAsked sys frame (state_cubes sys.sig avoid) before what q → IsAsked sys.sig seed before q
    asked_for _ _ _ (for_seed before q asked) = asked

    pub seed-excess : (what : Kind) (x : Excess) → IsOver sys limit look what x → IsExcess sys.sig seed limit x
    seed-excess what x e = record {
      before = e.before;
      asked = asked_for e.before what x.query e.asked;
      light = e.light;
      weight = e.weighs;
      above = e.above;
    }

    sorted : IsQuery sys.sig seed
    sorted = (asks-seed sys frame (state_cubes sys.sig avoid) is framed avoided).sorted

    pub looked : (least : Least) → IsFoundLeast sys.sig seed limit least → IsAnswer sys limit look (S.Look least)
    looked (L.Model s) h = (h.0, λ what x e. excess-least sys.sig seed limit is.signature sorted x (seed-excess what x e) s h.0 h.1)
    looked L.Nothing h = (
      (seed-by-query sys is frame (state_cubes sys.sig avoid) framed avoided).0 h.0,
      λ what x e. excess-none sys.sig seed limit x (seed-excess what x e) h.0 h.1,
    )
    looked (L.Over x) h = record {
      before = h.before;
      asked = for_seed h.before x.query h.asked;
      light = h.light;
      weighs = h.weight;
      above = h.above;
    }

  module _ (k level : ℕ) (below : Option (List Cube)) (world : World) (framed : IsFrame sys.sig below) (can : CanDescribe sys.sig world 0) where
    abbrev work : Given
    work = Work k level below world

    abbrev state : Cube
    state = state_cube sys.sig world

    known : IsCube sys.sig state
    known = diagram-sorted sys.sig world 0 can

    abbrev Blocks : Blocking → Type 0
    Blocks = IsBlocking sys limit below state

    one : (a : Blocking) (what : Kind) (x : Excess) → Blocks a → IsOver sys limit work what x → a ≡ B.Over what x
    one a what x h e = one-block sys limit below state is framed known a (B.Over what x) h e

    pub worked : (a : Blocking) → Blocks a → IsAnswer sys limit work (S.Work a)
    worked (B.Blocked rest) h = (
      record {
        blocked = h.blocked;
        pass = h.pass;
        meets = pass-met sys.sig world 0 (IsBlocked sys below) 0 state rest known (own_diagram_met sys.sig world 0 can.fits can.copy) h.pass;
      },
      λ what x e. let same : B.Blocked rest ≡ B.Over what x = one (B.Blocked rest) what x h e in cc,
    )
    worked (B.Initial u) h = (h.least, λ what x e. let same : B.Initial u ≡ B.Over what x = one (B.Initial u) what x h e in cc)
    worked (B.Step p) h = (
      record { no_root = (initial-by-query sys is state known).1 h.no_root; least = h.least },
      λ what x e. let same : B.Step p ≡ B.Over what x = one (B.Step p) what x h e in cc,
    )
    worked (B.Over what x) h = h

  module _ (k level : ℕ) (frame : List Cube) (cube : Cube) (framed : All (IsCube sys.sig) frame) (sorted : IsCube sys.sig cube) where
    abbrev push : Given
    push = Push k level frame cube

    one_answer : (a : Pushing) (what : Kind) (x : Excess) → IsPushing sys limit frame cube a → IsOver sys limit push what x → a ≡ P.Over what x
    one_answer a what x h e = one-push sys limit frame cube is framed sorted a (P.Over what x) h e

    pub pushed : (a : Pushing) → IsPushing sys limit frame cube a → IsAnswer sys limit push (S.Push a)
    pushed P.Holds h = (
      (step-by-query sys is (Some frame) cube framed sorted).1 h.none,
      λ what x e. let same : P.Holds ≡ P.Over what x = one_answer P.Holds what x h e in cc,
    )
    pushed (P.Fails p) h = (h.least, λ what x e. let same : P.Fails p ≡ P.Over what x = one_answer (P.Fails p) what x h e in cc)
    pushed (P.Over what x) h = h

  pub traced : (k steps : ℕ) (a : Unrolled) → IsUnrolled sys limit steps a → IsAnswer sys limit (Trace k steps) (S.Trace a)
  traced k steps (U.Run run) h = ((h.0, h.1), λ what x e. run-no-excess sys limit steps is h.0 run x h.1 h.2 (unroll-excess sys limit steps what x e))
  traced k steps U.NoRun h = (h.0, λ what x e. none-no-excess sys limit steps x h.0 h.1 (unroll-excess sys limit steps what x e))
  traced k steps (U.Over what x) h = first-above sys limit steps what x h.0 h.1
