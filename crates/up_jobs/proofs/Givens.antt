-- What workers are given: its frames, and that its brief can be solved.
use Rattle.std.proofs.Common.{◌≡◌, ℕ, zero, suc, ◌-◌, inl, inr, List, [], ◌∷◌, ◌++◌, Option, None, Some, slice_get, refl, sym, subst}
use Rattle.std.specs.Prelude.{option_map}
use Rattle.std.specs.List.{All}
use Rattle.std.proofs.lemmas.List.Elements.{All-nil, All-cons, All-head, All-tail}
use Rattle.fo_core.specs.declared.order.Order.{Order}
use Rattle.fo_core.specs.declared.signature.Sig.{Sig}
use Rattle.fo_core.specs.declared.system.System.{System}
use Rattle.fo_core.specs.declared.world.World.{World}
use Rattle.fo_core.specs.Sorted.{IsSig}
use Rattle.fo_core.specs.Tables.{Fits}
use Rattle.up_diagram.specs.declared.cube.Cube.{Cube}
use Rattle.up_diagram.specs.Cubes.{IsCube}
use Rattle.up_claims.specs.Frames.{IsFrame, frame_at}
use Rattle.up_claims.specs.Inferring.{CanInfer}
use Rattle.up_machine.specs.declared.brief.Brief.{Brief}
use Rattle.up_machine.specs.declared.job.Job.{Job}
use Rattle.up_machine.specs.declared.job.Job.TheVariants as J
use Rattle.up_machine.specs.declared.end.End.TheVariants as N
use Rattle.up_machine.specs.declared.event.Event.{Event}
use Rattle.up_machine.specs.declared.event.Event.TheVariants as E
use Rattle.up_machine.specs.Briefs.{cubes_in, brief_of}
use Rattle.up_machine.specs.Finding.{state_cube, state_cubes}
use Rattle.up_machine.specs.Machine.{Clause, Obligation, Given, Work, Look, Push, Trace, Held, Machine, start, cubes_from, held_by}
use Rattle.up_machine.specs.Replay.{given_work, given_push, given_trace, given_for, released, jobs_after, happens, run, replay}
use Rattle.up_machine.specs.Sound.{Each, IsFitGiven}
use Rattle.up_machine.proofs.Holding.{held-at, others}
use Rattle.up_machine.proofs.Lists.{Each-nil, get-push, IsPushed, get-filter}
use Rattle.up_machine.proofs.SortedDiagrams.{diagram_sorted}
use Rattle.up_jobs.specs.Solving.{HasFrame, IsInRange, IsReady, CanSolve}

-- a frame told by cubes is told by its own cubes
own-cubes : (n : ℕ) (cubes : List Cube) → frame_at n cubes ≡ frame_at n (cubes_in (frame_at n cubes))
own-cubes zero cubes = refl
own-cubes (suc n) cubes = refl

abbrev HaveFrames : List Held → Type 0
HaveFrames jobs = Each jobs (λ k (h : Held). HasFrame h.given)

stay : (w : ℕ) (jobs : List Held) → HaveFrames jobs → HaveFrames (released w jobs)
stay w jobs hs k h e = let x = get-filter (others w) jobs k h e in hs x.0 h x.1

one-more : (jobs : List Held) (new : Held) → HaveFrames jobs → HasFrame new.given → HaveFrames (jobs ++ new ∷ [])
one-more jobs new hs good k h e = by (get-push jobs new k h e)
  where
    by : IsPushed jobs new k h → HasFrame h.given
    by (inl there) = hs k h there
    by (inr is) = subst (λ (x : Held). HasFrame x.given) is.1 good

-- what is given at a take
taken : (m : Machine) (w : ℕ) (job : Job) → HaveFrames m.jobs → HaveFrames (jobs_after (E.Take w job) (given_for m job) m.jobs)
taken m w (J.Work k) hs = by (slice_get m.obligations k)
  where
    by : (found : Option Obligation) → HaveFrames (jobs_after (E.Take w (J.Work k)) (option_map (given_work m.clauses k) found) m.jobs)
    by None = hs
    by (Some o) = one-more m.jobs _ hs (own-cubes (o.level - 1) (cubes_from m.clauses (o.level - 1)))
taken m w J.Look hs = one-more m.jobs _ hs tt
taken m w (J.Push k) hs = by (slice_get m.clauses k)
  where
    by : (found : Option Clause) → HaveFrames (jobs_after (E.Take w (J.Push k)) (option_map (given_push m.clauses k) found) m.jobs)
    by None = hs
    by (Some c) = one-more m.jobs _ hs tt
taken m w (J.Trace k) hs = by (slice_get m.obligations k)
  where
    by : (found : Option Obligation) → HaveFrames (jobs_after (E.Take w (J.Trace k)) (option_map (given_trace m.frontier k) found) m.jobs)
    by None = hs
    by (Some o) = one-more m.jobs _ hs tt

after : (m : Machine) (e : Event) → HaveFrames m.jobs → HaveFrames (happens m e).jobs
after m (E.Take w job) hs = taken m w job hs
after m (E.Advance w) hs = hs
after m (E.Retire w gone by) hs = hs
after m (E.Seed w s) hs = stay w m.jobs hs
after m (E.Return w why) hs = stay w m.jobs hs
after m (E.Learn w cube) hs = stay w m.jobs hs
after m (E.Before w origin) hs = stay w m.jobs hs
after m (E.Drop w c) hs = stay w m.jobs hs
after m (E.Raise w) hs = stay w m.jobs hs
after m (E.Fail w p) hs = stay w m.jobs hs
after m (E.Secure w) hs = stay w m.jobs hs
after m (E.Close w (N.Safe i)) hs = hs
after m (E.Close w N.Bounded) hs = hs
after m (E.Close w N.Spent) hs = hs
after m (E.Close w end) hs = stay w m.jobs hs

throughout : (m : Machine) (es : List Event) → HaveFrames m.jobs → HaveFrames (run m es).jobs
throughout m [] hs = hs
throughout m (e ∷ es) hs = throughout (happens m e) es (after m e hs)

pub given-frames : (history : List Event) (w : ℕ) (given : Given) → held_by (replay history).jobs w ≡ Some given → HasFrame given
given-frames history w given e =
    let at = held-at (replay history).jobs w given e in
    subst HasFrame at.given (throughout start history (Each-nil _) at.place at.held at.there)

-- briefs that can be solved

cubes-sorted : (sig : Sig) (below : Option (List Cube)) → IsFrame sig below → All (IsCube sig) (cubes_in below)
cubes-sorted sig None h = All-nil (IsCube sig)
cubes-sorted sig (Some cubes) h = h

pub states-sorted : (sig : Sig) → IsSig sig → (worlds : List World) → All (Fits sig) worlds → All (IsCube sig) (state_cubes sig worlds)
states-sorted sig good [] h = All-nil (IsCube sig)
states-sorted sig good (w ∷ worlds) h =
    let fits = All-head (Fits sig) w worlds h in
    All-cons (IsCube sig) (state_cube sig w) (state_cubes sig worlds) (diagram_sorted sig w 0 good fits fits.some_copy)
    (states-sorted sig good worlds (All-tail (Fits sig) w worlds h))

ready : (sig : Sig) → IsSig sig → (given : Given) → IsFitGiven sig given → IsInRange given → IsReady sig (brief_of sig given)
ready sig good (Work k level below world) fit range = record {
  frame = cubes-sorted sig below fit.0;
  avoid = All-nil (IsCube sig);
  parts = (range.0, record { signature = good; fits = fit.1; copy = fit.1.some_copy; few = range.1 });
}
ready sig good (Look level frame avoid done) fit range = record {
  frame = fit.0;
  avoid = states-sorted sig good avoid fit.1;
  parts = tt;
}
ready sig good (Push k level frame cube) fit range = record {
  frame = fit.0;
  avoid = All-nil (IsCube sig);
  parts = fit.1;
}
ready sig good (Trace k steps) fit range = record {
  frame = All-nil (IsCube sig);
  avoid = All-nil (IsCube sig);
  parts = range;
}

pub can-solve : (sys : System) (order : Order) (given : Given) (brief : Brief) → CanInfer sys order → IsFitGiven sys.sig given → IsInRange given →
    brief ≡ brief_of sys.sig given → CanSolve sys order brief
can-solve sys order given brief infer fit range same = record {
  infer = infer;
  ready = subst (IsReady sys.sig) (sym same) (ready sys.sig infer.system.signature given fit range);
}
