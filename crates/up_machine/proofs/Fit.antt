-- Each legal event keeps cubes well-sorted and worlds fitting.
use Rattle.std.proofs.Common.{◌≡◌, ℕ, zero, suc, ◌-◌, ◌&&◌, nat_eq, inl, inr, List, [], ◌∷◌, ◌++◌, Option, None, Some, slice_get, refl, sym, ap, subst, ◌∙◌}
use Rattle.std.specs.Prelude.{option_map}
use Rattle.std.specs.List.{All}
use Rattle.fo_core.specs.declared.system.System.{System}
use Rattle.fo_core.specs.declared.world.World.{World}
use Rattle.fo_core.specs.Sorted.{IsSystem}
use Rattle.fo_core.specs.Tables.{Fits}
use Rattle.up_diagram.specs.declared.cube.Cube.{Cube}
use Rattle.up_diagram.specs.Cubes.{IsCube}
use Rattle.up_claims.specs.Blocked.{IsBlocked}
use Rattle.up_claims.specs.Frames.{IsFrame}
use Rattle.up_machine.specs.declared.limits.Limits.{Limits}
use Rattle.up_machine.specs.declared.job.Job.{Job}
use Rattle.up_machine.specs.declared.job.Job.TheVariants as J
use Rattle.up_machine.specs.declared.event.Why.{Why}
use Rattle.up_machine.specs.declared.event.Origin.TheVariants as O
use Rattle.up_machine.specs.declared.end.End.TheVariants as N
use Rattle.up_machine.specs.declared.event.Event.{Event}
use Rattle.up_machine.specs.declared.event.Event.TheVariants as E
use Rattle.up_machine.specs.Machine.{Clause, Status, Ready, Out, Waiting, Done, Rooted, Obligation, Given, Work, Look, Push, Trace, Held, Machine, start, is_from, cubes_from, frame, is_unfinished_seed, to_avoid, held_by}
use Rattle.up_machine.specs.Replay.{change_at, raised, retired, with_status, set_status, wake, parent_of, finish, given_for, clauses_after, obligations_after, released, jobs_after, happens, replay}
use Rattle.up_machine.specs.Finding.{state_cube}
use Rattle.up_machine.specs.Legal.{IsLegal, Legal}
use Rattle.up_machine.specs.Sound.{Each, IsFitGiven, IsFit}
use Rattle.up_machine.proofs.Lists.{Each-nil, get-push, IsPushed, get-changed, IsChanged, get-filter, kept-all}
use Rattle.up_machine.proofs.Histories.{along}
use Rattle.up_machine.proofs.Holding.{held-at, others}
use Rattle.up_machine.proofs.SortedCubes.{passed-sorted}
use Rattle.up_machine.proofs.SortedDiagrams.{diagram_sorted}

-- the cubes of clauses, which change in level and life alone
module _ (P : Cube → Type 0) where
  abbrev CubesAre : List Clause → Type 0
  CubesAre cs = Each cs (λ k (c : Clause). P c.cube)

  cubes_push : (cs : List Clause) (c : Clause) → CubesAre cs → P c.cube → CubesAre (cs ++ c ∷ [])
  cubes_push cs c hs h k d e = by (get-push cs c k d e)
    where
      by : IsPushed cs c k d → P d.cube
      by (inl there) = hs k d there
      by (inr new) = subst (λ (x : Clause). P x.cube) new.1 h

  cubes_change : (cs : List Clause) (j : ℕ) (f : Clause → Clause) → ((c : Clause) → (f c).cube ≡ c.cube) → CubesAre cs → CubesAre (change_at j f cs)
  cubes_change cs j f same hs k d e = let r = get-changed j f cs k d e in by r.0 r.1 r.2
    where
      by : (x : Clause) → slice_get cs k ≡ Some x → IsChanged j f k x d → P d.cube
      by x there (inl h) = subst P (sym (same x) ∙ ap (λ (y : Clause). y.cube) h.1) (hs k x there)
      by x there (inr h) = subst P (ap (λ (y : Clause). y.cube) h) (hs k x there)

-- the worlds of obligations, which change in status alone
module _ (P : World → Type 0) where
  abbrev WorldsAre : List Obligation → Type 0
  WorldsAre os = Each os (λ k (o : Obligation). P o.world)

  worlds_push : (os : List Obligation) (o : Obligation) → WorldsAre os → P o.world → WorldsAre (os ++ o ∷ [])
  worlds_push os o hs h k d e = by (get-push os o k d e)
    where
      by : IsPushed os o k d → P d.world
      by (inl there) = hs k d there
      by (inr new) = subst (λ (x : Obligation). P x.world) new.1 h

  worlds_status : (s : Status) (j : ℕ) (os : List Obligation) → WorldsAre os → WorldsAre (set_status s j os)
  worlds_status s j os hs k d e = let r = get-changed j (with_status s) os k d e in by r.0 r.1 r.2
    where
      by : (x : Obligation) → slice_get os k ≡ Some x → IsChanged j (with_status s) k x d → P d.world
      by x there (inl h) = subst P (ap (λ (y : Obligation). y.world) h.1) (hs k x there)
      by x there (inr h) = subst P (ap (λ (y : Obligation). y.world) h) (hs k x there)

  worlds_finish : (k : ℕ) (os : List Obligation) → WorldsAre os → WorldsAre (finish k os)
  worlds_finish k os hs = woken (parent_of os k) (worlds_status Done k os hs)
    where
      woken : (p : Option ℕ) → WorldsAre (set_status Done k os) → WorldsAre (wake p (set_status Done k os))
      woken None h = h
      woken (Some p) h = worlds_status Ready p (set_status Done k os) h

-- the jobs that stay, and one that comes
module _ (P : Given → Type 0) where
  abbrev JobsAre : List Held → Type 0
  JobsAre js = Each js (λ k (h : Held). P h.given)

  jobs_release : (w : ℕ) (js : List Held) → JobsAre js → JobsAre (released w js)
  jobs_release w js hs k h e = let x = get-filter (others w) js k h e in hs x.0 h x.1

  jobs_push : (js : List Held) (new : Held) → JobsAre js → P new.given → JobsAre (js ++ new ∷ [])
  jobs_push js new hs good k h e = by (get-push js new k h e)
    where
      by : IsPushed js new k h → P h.given
      by (inl there) = hs k h there
      by (inr is) = subst (λ (x : Held). P x.given) is.1 good

module _ (sys : System) (good : IsSystem sys) (m : Machine) (fit : IsFit sys m) where
  -- a fitting world's diagram is well-sorted
  pub state_sorted : (w : World) → Fits sys.sig w → IsCube sys.sig (state_cube sys.sig w)
  state_sorted w fits = diagram_sorted sys.sig w 0 good.signature fits fits.some_copy

  frame_sorted : (i : ℕ) → All (IsCube sys.sig) (cubes_from m.clauses i)
  frame_sorted i = kept-all (λ (c : Clause). c.cube) (IsCube sys.sig) (is_from i) m.clauses (λ k c e t. fit.cubes k c e)

  frame_at_sorted : (i : ℕ) → IsFrame sys.sig (frame m.clauses i)
  frame_at_sorted zero = tt
  frame_at_sorted (suc i) = frame_sorted (suc i)

  avoided_fit : All (Fits sys.sig) (to_avoid m)
  avoided_fit = kept-all (λ (o : Obligation). o.world) (Fits sys.sig) (λ o. is_unfinished_seed o && nat_eq o.level m.frontier) m.obligations (λ k o e t. fit.worlds k o e)

  pub given_fit : (w : ℕ) (g : Given) → held_by m.jobs w ≡ Some g → IsFitGiven sys.sig g
  given_fit w g e = let at = held-at m.jobs w g e in subst (IsFitGiven sys.sig) at.given (fit.each_job at.place at.held at.there)

  -- what a worker is given is fit
  taken_fit : (w : ℕ) (job : Job) → JobsAre (IsFitGiven sys.sig) (jobs_after (E.Take w job) (given_for m job) m.jobs)
  taken_fit w (J.Work k) = by (slice_get m.obligations k) (λ o e. fit.worlds k o e)
    where
      by : (x : Option Obligation) → ((o : Obligation) → x ≡ Some o → Fits sys.sig o.world) →
          JobsAre (IsFitGiven sys.sig) (jobs_after (E.Take w (J.Work k)) (option_map (λ (o : Obligation). Work k o.level (frame m.clauses (o.level - 1)) o.world) x) m.jobs)
      by None f = fit.each_job
      by (Some o) f = jobs_push (IsFitGiven sys.sig) m.jobs _ fit.each_job (frame_at_sorted (o.level - 1), f o refl)
  taken_fit w J.Look = jobs_push (IsFitGiven sys.sig) m.jobs _ fit.each_job (frame_sorted m.frontier, avoided_fit)
  taken_fit w (J.Push k) = by (slice_get m.clauses k) (λ c e. fit.cubes k c e)
    where
      by : (x : Option Clause) → ((c : Clause) → x ≡ Some c → IsCube sys.sig c.cube) →
          JobsAre (IsFitGiven sys.sig) (jobs_after (E.Take w (J.Push k)) (option_map (λ (c : Clause). Push k c.level (cubes_from m.clauses c.level) c.cube) x) m.jobs)
      by None f = fit.each_job
      by (Some c) f = jobs_push (IsFitGiven sys.sig) m.jobs _ fit.each_job (frame_sorted c.level, f c refl)
  taken_fit w (J.Trace k) = by (slice_get m.obligations k)
    where
      by : (x : Option Obligation) → JobsAre (IsFitGiven sys.sig) (jobs_after (E.Take w (J.Trace k)) (option_map (λ (o : Obligation). Trace k (m.frontier - o.level)) x) m.jobs)
      by None = fit.each_job
      by (Some o) = jobs_push (IsFitGiven sys.sig) m.jobs _ fit.each_job tt

  jobs_fit : (e : Event) → JobsAre (IsFitGiven sys.sig) (happens m e).jobs
  jobs_fit (E.Take w job) = taken_fit w job
  jobs_fit (E.Advance w) = fit.each_job
  jobs_fit (E.Retire w gone by) = fit.each_job
  jobs_fit (E.Seed w s) = jobs_release (IsFitGiven sys.sig) w m.jobs fit.each_job
  jobs_fit (E.Return w why) = jobs_release (IsFitGiven sys.sig) w m.jobs fit.each_job
  jobs_fit (E.Learn w cube) = jobs_release (IsFitGiven sys.sig) w m.jobs fit.each_job
  jobs_fit (E.Before w origin) = jobs_release (IsFitGiven sys.sig) w m.jobs fit.each_job
  jobs_fit (E.Drop w c) = jobs_release (IsFitGiven sys.sig) w m.jobs fit.each_job
  jobs_fit (E.Raise w) = jobs_release (IsFitGiven sys.sig) w m.jobs fit.each_job
  jobs_fit (E.Fail w p) = jobs_release (IsFitGiven sys.sig) w m.jobs fit.each_job
  jobs_fit (E.Secure w) = jobs_release (IsFitGiven sys.sig) w m.jobs fit.each_job
  jobs_fit (E.Close w (N.Safe i)) = fit.each_job
  jobs_fit (E.Close w N.Bounded) = fit.each_job
  jobs_fit (E.Close w N.Spent) = fit.each_job
  jobs_fit (E.Close w end) = jobs_release (IsFitGiven sys.sig) w m.jobs fit.each_job

  -- a learnt cube is what a pass leaves of a diagram
  clauses_fit : (limits : Limits) (e : Event) → IsLegal sys limits m e → CubesAre (IsCube sys.sig) (happens m e).clauses
  clauses_fit limits (E.Learn w cube) legal =
      let work = legal.allowed.work in
      let given = given_fit w (Work work.obligation work.level work.below work.world) work.held in
      subst (λ j. CubesAre (IsCube sys.sig) (clauses_after (E.Learn w cube) j m.clauses)) (sym work.held)
      (cubes_push (IsCube sys.sig) m.clauses _ fit.cubes (passed-sorted sys.sig (IsBlocked sys work.below) 0 (state_cube sys.sig work.world) cube (state_sorted work.world given.1) legal.allowed.found.pass))
  clauses_fit limits (E.Raise w) legal =
      let push = legal.allowed.push in
      subst (λ j. CubesAre (IsCube sys.sig) (clauses_after (E.Raise w) j m.clauses)) (sym push.held)
      (cubes_change (IsCube sys.sig) m.clauses push.clause raised (λ c. refl) fit.cubes)
  clauses_fit limits (E.Retire w gone by) legal = cubes_change (IsCube sys.sig) m.clauses gone retired (λ c. refl) fit.cubes
  clauses_fit limits (E.Seed w s) legal = fit.cubes
  clauses_fit limits (E.Take w job) legal = fit.cubes
  clauses_fit limits (E.Return w why) legal = fit.cubes
  clauses_fit limits (E.Before w origin) legal = fit.cubes
  clauses_fit limits (E.Drop w c) legal = fit.cubes
  clauses_fit limits (E.Fail w p) legal = fit.cubes
  clauses_fit limits (E.Secure w) legal = fit.cubes
  clauses_fit limits (E.Advance w) legal = fit.cubes
  clauses_fit limits (E.Close w end) legal = fit.cubes

  abbrev Worlds : Event → Option Given → Type 0
  Worlds e job = WorldsAre (Fits sys.sig) (obligations_after e job m.frontier m.obligations)

  -- of a take or a return, whatever the job
  taken_worlds : (w : ℕ) (job : Job) (g : Option Given) → Worlds (E.Take w job) g
  taken_worlds w job None = fit.worlds
  taken_worlds w job (Some (Work k level below world)) = worlds_status (Fits sys.sig) Out k m.obligations fit.worlds
  taken_worlds w job (Some (Look level cubes avoid done)) = fit.worlds
  taken_worlds w job (Some (Push k level cubes cube)) = fit.worlds
  taken_worlds w job (Some (Trace k steps)) = fit.worlds

  returned_worlds : (w : ℕ) (why : Why) (g : Option Given) → Worlds (E.Return w why) g
  returned_worlds w why None = fit.worlds
  returned_worlds w why (Some (Work k level below world)) = worlds_status (Fits sys.sig) Ready k m.obligations fit.worlds
  returned_worlds w why (Some (Look level cubes avoid done)) = fit.worlds
  returned_worlds w why (Some (Push k level cubes cube)) = fit.worlds
  returned_worlds w why (Some (Trace k steps)) = fit.worlds

  obligations_fit : (limits : Limits) (e : Event) → IsLegal sys limits m e → WorldsAre (Fits sys.sig) (happens m e).obligations
  obligations_fit limits (E.Seed w s) legal = worlds_push (Fits sys.sig) m.obligations _ fit.worlds legal.allowed.found.meets.fits
  obligations_fit limits (E.Take w job) legal = taken_worlds w job (given_for m job)
  obligations_fit limits (E.Return w why) legal = returned_worlds w why (held_by m.jobs w)
  obligations_fit limits (E.Learn w cube) legal =
      let work = legal.allowed.work in
      subst (Worlds (E.Learn w cube)) (sym work.held) (worlds_finish (Fits sys.sig) work.obligation m.obligations fit.worlds)
  obligations_fit limits (E.Drop w c) legal =
      let work = legal.allowed.work in
      subst (Worlds (E.Drop w c)) (sym work.held) (worlds_finish (Fits sys.sig) work.obligation m.obligations fit.worlds)
  obligations_fit limits (E.Before w (O.Initial u)) legal =
      let work = legal.allowed.work in
      subst (Worlds (E.Before w (O.Initial u))) (sym work.held) (worlds_status (Fits sys.sig) (Rooted u) work.obligation m.obligations fit.worlds)
  obligations_fit limits (E.Before w (O.Step p)) legal =
      let work = legal.allowed.work in
      subst (Worlds (E.Before w (O.Step p))) (sym work.held)
      (worlds_push (Fits sys.sig) (set_status Waiting work.obligation m.obligations) _ (worlds_status (Fits sys.sig) Waiting work.obligation m.obligations fit.worlds) legal.allowed.found.least.meets.fits)
  obligations_fit limits (E.Raise w) legal = fit.worlds
  obligations_fit limits (E.Fail w p) legal = fit.worlds
  obligations_fit limits (E.Secure w) legal = fit.worlds
  obligations_fit limits (E.Advance w) legal = fit.worlds
  obligations_fit limits (E.Close w end) legal = fit.worlds
  obligations_fit limits (E.Retire w gone by) legal = fit.worlds

  pub event_fit : (limits : Limits) (e : Event) → IsLegal sys limits m e → IsFit sys (happens m e)
  event_fit limits e legal = record { cubes = clauses_fit limits e legal; worlds = obligations_fit limits e legal; each_job = jobs_fit e }

pub start_fit : (sys : System) → IsFit sys start
start_fit sys = record { cubes = Each-nil _; worlds = Each-nil _; each_job = Each-nil _ }

pub history_fit : (sys : System) (limits : Limits) (history : List Event) → IsSystem sys → Legal sys limits history → IsFit sys (replay history)
history_fit sys limits history good legal =
    along sys limits (IsFit sys) (λ m e fit legal. event_fit sys good m fit limits e legal) start history (start_fit sys) legal
