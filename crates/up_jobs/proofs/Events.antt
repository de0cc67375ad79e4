-- Answers allow events.
use Rattle.std.proofs.Common.{◌≡◌, ◌≢◌, ℕ, ◌-◌, List, [], ◌∷◌, Option, refl, sym, ap, ◌∙◌}
use Rattle.fo_core.specs.declared.system.System.{System}
use Rattle.fo_core.specs.declared.world.World.{World}
use Rattle.fo_core.specs.declared.signature.Sig.{Sig}
use Rattle.fo_min.specs.declared.found.Excess.{Excess}
use Rattle.fo_min.specs.declared.found.Least.TheVariants as L
use Rattle.up_diagram.specs.declared.cube.Cube.{Cube}
use Rattle.up_claims.specs.declared.kind.Kind.{Kind}
use Rattle.up_claims.specs.declared.kind.Kind.TheVariants as K
use Rattle.up_block.specs.declared.blocking.Blocking.TheVariants as B
use Rattle.up_push.specs.declared.pushing.Pushing.TheVariants as P
use Rattle.up_unroll.specs.declared.unrolling.Unrolled.TheVariants as U
use Rattle.up_machine.specs.declared.brief.Brief.{Brief}
use Rattle.up_machine.specs.declared.end.End.TheVariants as N
use Rattle.up_machine.specs.declared.event.Event.{Event}
use Rattle.up_machine.specs.declared.event.Event.TheVariants as E
use Rattle.up_machine.specs.declared.event.Origin.TheVariants as O
use Rattle.up_machine.specs.declared.event.Why.TheVariants as Y
use Rattle.up_machine.specs.declared.limits.Limits.{Limits}
use Rattle.up_machine.specs.Finding.{state_cubes, HoldsWork, HoldsLook, HoldsPush, HoldsTrace}
use Rattle.up_machine.specs.Legal.{IsAllowed, of_seed, of_step, of_fail}
use Rattle.up_machine.specs.Machine.{Given, Work, Look, Push, Trace, Machine, IsIn, IsFirstRefuter}
use Rattle.up_jobs.specs.declared.solved.Solved.{Solved}
use Rattle.up_jobs.specs.declared.solved.Solved.TheVariants as S
use Rattle.up_jobs.specs.Solving.{IsAnswer, IsOver}
use Rattle.up_jobs.specs.Reporting.{HasAnswer}

-- there is nothing to avoid exactly where there are no cubes of it
none-avoided : (sig : Sig) (avoid : List World) → state_cubes sig avoid ≡ [] → avoid ≡ []
none-avoided sig [] same = refl
none-avoided sig (world ∷ avoid) same = let no : ⊥ = cc in absurd no

some-avoided : (sig : Sig) (avoid : List World) (cubes : List Cube) → cubes ≡ state_cubes sig avoid → cubes ≢ [] → avoid ≢ []
some-avoided sig avoid cubes same some none = some (same ∙ ap (state_cubes sig) none)

module _ (sys : System) (limits : Limits) (m : Machine) (brief : Brief) (w : ℕ) where
  answer-of : (given : Given) (solved : Solved) → HasAnswer sys limits m w given brief solved → IsAnswer sys limits.weight given solved
  answer-of given solved h = h.answer given h.brief_is

  abbrev May : Event → Type 0
  May e = IsAllowed sys limits m e

  may-close-over : (given : Given) (solved : Solved) (what : Kind) (x : Excess) → HasAnswer sys limits m w given brief solved → IsOver sys limits.weight given what x → May (E.Close w (N.Over what x))
  may-close-over given solved what x h over = record { job = record { given = given; held = h.held }; above = over }

  module _ (level : ℕ) (frame : List Cube) (avoid : List World) (done : ℕ) where
    abbrev look : Given
    look = Look level frame avoid done

    abbrev looks : (solved : Solved) → HasAnswer sys limits m w look brief solved → HoldsLook m w
    looks solved h = record { level = level; frame = frame; avoid = avoid; done = done; held = h.held }

    pub may-seed : (s : World) → HasAnswer sys limits m w look brief (S.Look (L.Model s)) → IsIn sys m m.frontier s 0 → May (E.Seed w s)
    may-seed s h inside = record { look = looks (S.Look (L.Model s)) h; found = (answer-of look (S.Look (L.Model s)) h).0; inside = inside }

    pub may-refute-seed : (s : World) (c : ℕ) → HasAnswer sys limits m w look brief (S.Look (L.Model s)) → IsFirstRefuter sys m m.frontier s 0 c → May (E.Return w (Y.Refuted s c))
    may-refute-seed s c h refuter = of_seed (record { look = looks (S.Look (L.Model s)) h; found = (answer-of look (S.Look (L.Model s)) h).0; refuter = refuter })

    pub may-secure : HasAnswer sys limits m w look brief (S.Look L.Nothing) → brief.avoid ≡ [] → May (E.Secure w)
    may-secure h nothing = record {
      look = looks (S.Look L.Nothing) h;
      nothing_avoided = none-avoided sys.sig avoid (sym (ap (λ (x : Brief). x.avoid) h.brief_is.same) ∙ nothing);
      none = (answer-of look (S.Look L.Nothing) h).0;
    }

    pub may-find-no-more : HasAnswer sys limits m w look brief (S.Look L.Nothing) → brief.avoid ≢ [] → May (E.Return w Y.NoMore)
    may-find-no-more h something = record {
      look = looks (S.Look L.Nothing) h;
      something_avoided = some-avoided sys.sig avoid brief.avoid (ap (λ (x : Brief). x.avoid) h.brief_is.same) something;
      none = (answer-of look (S.Look L.Nothing) h).0;
    }

    pub look-over : (x : Excess) → HasAnswer sys limits m w look brief (S.Look (L.Over x)) → May (E.Close w (N.Over K.Seed x))
    look-over x h = may-close-over look (S.Look (L.Over x)) K.Seed x h (answer-of look (S.Look (L.Over x)) h)

  module _ (k level : ℕ) (below : Option (List Cube)) (world : World) where
    abbrev work : Given
    work = Work k level below world

    abbrev works : (solved : Solved) → HasAnswer sys limits m w work brief solved → HoldsWork m w
    works solved h = record { obligation = k; level = level; below = below; world = world; held = h.held }

    pub may-learn : (cube : Cube) → HasAnswer sys limits m w work brief (S.Work (B.Blocked cube)) → IsIn sys m level world 0 → May (E.Learn w cube)
    may-learn cube h inside = record { work = works (S.Work (B.Blocked cube)) h; found = (answer-of work (S.Work (B.Blocked cube)) h).0; inside = inside }

    pub may-root : (u : World) → HasAnswer sys limits m w work brief (S.Work (B.Initial u)) → IsIn sys m level world 0 → May (E.Before w (O.Initial u))
    may-root u h inside = record { work = works (S.Work (B.Initial u)) h; found = (answer-of work (S.Work (B.Initial u)) h).0; inside = inside }

    pub may-precede : (p : World) → HasAnswer sys limits m w work brief (S.Work (B.Step p)) → IsIn sys m level world 0 → IsIn sys m (level - 1) p 0 → May (E.Before w (O.Step p))
    may-precede p h inside before = record {
      work = works (S.Work (B.Step p)) h;
      found = (answer-of work (S.Work (B.Step p)) h).0;
      inside = inside;
      before_inside = before;
    }

    pub may-refute-step : (p : World) (c : ℕ) → HasAnswer sys limits m w work brief (S.Work (B.Step p)) → IsIn sys m level world 0 → IsFirstRefuter sys m (level - 1) p 0 c → May (E.Return w (Y.Refuted p c))
    may-refute-step p c h inside refuter = of_step (record {
      work = works (S.Work (B.Step p)) h;
      found = (answer-of work (S.Work (B.Step p)) h).0;
      inside = inside;
      refuter = refuter;
    })

    pub work-over : (what : Kind) (x : Excess) → HasAnswer sys limits m w work brief (S.Work (B.Over what x)) → May (E.Close w (N.Over what x))
    work-over what x h = may-close-over work (S.Work (B.Over what x)) what x h (answer-of work (S.Work (B.Over what x)) h)

  module _ (k level : ℕ) (frame : List Cube) (cube : Cube) where
    abbrev push : Given
    push = Push k level frame cube

    abbrev pushes : (solved : Solved) → HasAnswer sys limits m w push brief solved → HoldsPush m w
    pushes solved h = record { clause = k; level = level; frame = frame; cube = cube; held = h.held }

    pub may-raise : HasAnswer sys limits m w push brief (S.Push P.Holds) → May (E.Raise w)
    may-raise h = record { push = pushes (S.Push P.Holds) h; none = (answer-of push (S.Push P.Holds) h).0 }

    pub may-fail : (p : World) → HasAnswer sys limits m w push brief (S.Push (P.Fails p)) → IsIn sys m level p 0 → May (E.Fail w p)
    may-fail p h inside = record { push = pushes (S.Push (P.Fails p)) h; found = (answer-of push (S.Push (P.Fails p)) h).0; inside = inside }

    pub may-refute-fail : (p : World) (c : ℕ) → HasAnswer sys limits m w push brief (S.Push (P.Fails p)) → IsFirstRefuter sys m level p 0 c → May (E.Return w (Y.Refuted p c))
    may-refute-fail p c h refuter = of_fail (record { push = pushes (S.Push (P.Fails p)) h; found = (answer-of push (S.Push (P.Fails p)) h).0; refuter = refuter })

    pub push-over : (what : Kind) (x : Excess) → HasAnswer sys limits m w push brief (S.Push (P.Over what x)) → May (E.Close w (N.Over what x))
    push-over what x h = may-close-over push (S.Push (P.Over what x)) what x h (answer-of push (S.Push (P.Over what x)) h)

  module _ (k steps : ℕ) where
    abbrev trace : Given
    trace = Trace k steps

    abbrev traces : (solved : Solved) → HasAnswer sys limits m w trace brief solved → HoldsTrace m w
    traces solved h = record { obligation = k; steps = steps; held = h.held }

    pub may-close-unsafe : (run : World) → HasAnswer sys limits m w trace brief (S.Trace (U.Run run)) → May (E.Close w (N.Unsafe run))
    may-close-unsafe run h =
        let found = (answer-of trace (S.Trace (U.Run run)) h).0 in
        record { trace = traces (S.Trace (U.Run run)) h; steps = found.0; found = found.1 }

    pub may-close-no-universal : HasAnswer sys limits m w trace brief (S.Trace U.NoRun) → May (E.Close w N.NoUniversal)
    may-close-no-universal h = record { trace = traces (S.Trace U.NoRun) h; none = (answer-of trace (S.Trace U.NoRun) h).0 }

    pub trace-over : (what : Kind) (x : Excess) → HasAnswer sys limits m w trace brief (S.Trace (U.Over what x)) → May (E.Close w (N.Over what x))
    trace-over what x h = may-close-over trace (S.Trace (U.Over what x)) what x h (answer-of trace (S.Trace (U.Over what x)) h)
