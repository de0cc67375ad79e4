-- Seat 0 never reports that what it found is refuted.
use Rattle.std.proofs.Common.{◌≡◌, ℕ, zero, suc, ◌-◌, ◌<◌, Bool, true, false, cond, nat_eq, find, inl, inr, List, [], ◌∷◌, ◌++◌, Option, None, Some, slice_get, refl, sym, ap, subst, ◌∙◌, true≢false, arith, eq-eqb}
use Rattle.std.specs.Prelude.{option_map}
use Rattle.fo_core.specs.declared.system.System.{System}
use Rattle.fo_core.specs.declared.world.World.{World}
use Rattle.fo_core.specs.Sorted.{IsSystem}
use Rattle.up_diagram.specs.declared.cube.Cube.{Cube}
use Rattle.up_claims.specs.Frames.{Avoids, IsInFrame}
use Rattle.up_machine.specs.declared.limits.Limits.{Limits}
use Rattle.up_machine.specs.declared.job.Job.{Job}
use Rattle.up_machine.specs.declared.job.Job.TheVariants as J
use Rattle.up_machine.specs.declared.job.Task.TheVariants as T
use Rattle.up_machine.specs.declared.event.Why.TheVariants as Y
use Rattle.up_machine.specs.declared.event.Event.{Event}
use Rattle.up_machine.specs.declared.event.Event.TheVariants as E
use Rattle.up_machine.specs.Machine.{Given, Work, Look, Push, Held, Machine, IsFirstRefuter, cubes_from, frame, held_by}
use Rattle.up_machine.specs.Replay.{worker_of, given_work, given_push, given_for, jobs_after, happens, run, replay}
use Rattle.up_machine.specs.Due.{IsDue, job_of}
use Rattle.up_machine.specs.Legal.{MayRefute, of_seed, of_step, of_fail, Legal}
use Rattle.up_machine.specs.Rounds.{IsReport}
use Rattle.up_machine.specs.Sound.{Each, IsFit}
use Rattle.up_machine.proofs.Fit.{history_fit}
use Rattle.up_machine.proofs.Frames.{avoids-each}
use Rattle.up_machine.proofs.Histories.{run-append}
use Rattle.up_machine.proofs.Holding.{HeldAt, held-at, run-held}
use Rattle.up_machine.proofs.Lists.{some_injective, none_is_some, mapped_some, Each-cons, Each-nil, get-push, IsPushed}
use Rattle.up_machine.proofs.Origins.{found_seed, found_step, found_fail}
use Rattle.up_rounds.specs.OneRound.{AreTakes, IsAtRest}
use Rattle.up_rounds.proofs.AfterJobs.{job_given}

-- 1. Takes leave clauses and frontier, and what seat 0 holds after them is what was given to it.

none_held : (js : List Held) (w : ℕ) → held_by js w ≡ None → Each js (λ k h. ¬ (h.worker ≡ w))
none_held [] w e = Each-nil (λ k h. ¬ (h.worker ≡ w))
none_held (h ∷ js) w e = step (nat_eq h.worker w) refl (none_held js w) e
  where
    step : (b : Bool) → nat_eq h.worker w ≡ b → (held_by js w ≡ None → Each js (λ k h. ¬ (h.worker ≡ w))) →
        option_map (λ (x : Held). x.given) (cond b (Some h) (find (λ (x : Held). nat_eq x.worker w) js)) ≡ None → Each (h ∷ js) (λ k h. ¬ (h.worker ≡ w))
    step true is rest e = none_is_some h.given (sym e)
    step false is rest e = Each-cons h js (λ k h. ¬ (h.worker ≡ w)) (λ same. true≢false (sym (eq-eqb h.worker w same) ∙ is)) (rest e)

pub given_first : (job : Job) (g : Option Given) (js : List Held) (x : Given) → held_by js 0 ≡ None → held_by (jobs_after (E.Take 0 job) g js) 0 ≡ Some x → g ≡ Some x
given_first job None js x free e = none_is_some x (sym free ∙ e)
given_first job (Some y) js x free e =
    let h = held-at (js ++ record { worker = 0; given = y } ∷ []) 0 x e in
    by h (get-push js (record { worker = 0; given = y }) h.place h.held h.there)
  where
    by : (h : HeldAt (js ++ record { worker = 0; given = y } ∷ []) 0 x) → IsPushed js (record { worker = 0; given = y }) h.place h.held → Some y ≡ Some x
    by h (inl there) = absurd (none_held js 0 free h.place h.held there h.worker)
    by h (inr same) = ap Some (ap (λ (z : Held). z.given) same.1 ∙ h.given)

module _ (sys : System) (limits : Limits) where
  -- what takes leave as it was
  record IsAsBefore (m n : Machine) : Type 0 where
    clauses : n.clauses ≡ m.clauses
    frontier : n.frontier ≡ m.frontier

  as_before : (m : Machine) (seat : ℕ) (ts : List Event) → AreTakes sys limits m seat ts → IsAsBefore m (run m ts)
  as_before m seat [] h = record { clauses = refl; frontier = refl }
  as_before m seat (t ∷ ts) h =
      let r = as_before (happens m t) (suc seat) ts h.1 in
      record {
        clauses = r.clauses ∙ subst (λ x. (happens m x).clauses ≡ m.clauses) (sym h.0.is) refl;
        frontier = r.frontier ∙ subst (λ x. (happens m x).frontier ≡ m.frontier) (sym h.0.is) refl;
      }

  pub held_before : (m : Machine) (seat : ℕ) (ts : List Event) → AreTakes sys limits m seat ts → 0 < seat → held_by (run m ts).jobs 0 ≡ held_by m.jobs 0
  held_before m seat [] h lt = refl
  held_before m seat (t ∷ ts) h lt =
      let worker : worker_of t ≡ seat = ap worker_of h.0.is in
      held_before (happens m t) (suc seat) ts h.1 (omega arith)
      ∙ run-held m (t ∷ []) 0 (Each-cons t [] (λ k e. ¬ (worker_of e ≡ 0)) (λ e. omega (arith, e, worker, lt)) (Each-nil (λ k e. ¬ (worker_of e ≡ 0))))

  -- the job was due at the begin of the round, and this is what was given for it then
  pub record IsGivenFirst (m : Machine) (x : Given) : Type 0 where
    pub due : IsDue sys limits m (T.Job (job_of x))
    pub given : given_for m (job_of x) ≡ Some x

  -- so it is with what seat 0 holds after the takes
  pub was_given : (m : Machine) (ts : List Event) (x : Given) → IsAtRest limits m → AreTakes sys limits m 0 ts → held_by (run m ts).jobs 0 ≡ Some x → IsGivenFirst m x
  was_given m [] x r h e = none_is_some x (sym r.free ∙ e)
  was_given m (t ∷ ts) x r h e =
      let here : held_by (happens m t).jobs 0 ≡ Some x = sym (held_before (happens m t) 1 ts h.1 (omega arith)) ∙ e in
      let own : held_by (happens m (E.Take 0 h.0.job)).jobs 0 ≡ Some x = subst (λ y. held_by (happens m y).jobs 0 ≡ Some x) h.0.is here in
      let given = given_first h.0.job (given_for m h.0.job) m.jobs x r.free own in
      let job : h.0.job ≡ job_of x = sym (job_given m h.0.job x given) in
      record {
        due = subst (λ j. IsDue sys limits m (T.Job j)) job h.0.due;
        given = subst (λ j. given_for m j ≡ Some x) job given;
      }

-- 2. So it was given frames as they stand.

abbrev cubes_of : Given → List Cube
cubes_of (Look level cubes avoid done) = cubes
cubes_of (Push k level cubes cube) = cubes
cubes_of _ = []

abbrev below_of : Given → Option (List Cube)
below_of (Work k level below world) = below
below_of _ = None

abbrev level_of : Given → ℕ
level_of (Work k level below world) = level
level_of (Push k level cubes cube) = level
level_of _ = 0

look_frame : (m : Machine) (level : ℕ) (cubes : List Cube) (avoid : List World) (done : ℕ) → given_for m J.Look ≡ Some (Look level cubes avoid done) → cubes_from m.clauses m.frontier ≡ cubes
look_frame m level cubes avoid done e = ap cubes_of (some_injective _ (Look level cubes avoid done) e)

work_frame : (m : Machine) (k level : ℕ) (below : Option (List Cube)) (world : World) → given_for m (J.Work k) ≡ Some (Work k level below world) → below ≡ frame m.clauses (level - 1)
work_frame m k level below world e =
    let r = mapped_some (given_work m.clauses k) (slice_get m.obligations k) (Work k level below world) e in
    sym (ap below_of r.2) ∙ ap (λ i. frame m.clauses (i - 1)) (ap level_of r.2)

push_frame : (m : Machine) (k level : ℕ) (cubes : List Cube) (cube : Cube) → given_for m (J.Push k) ≡ Some (Push k level cubes cube) → cubes ≡ cubes_from m.clauses level
push_frame m k level cubes cube e =
    let r = mapped_some (given_push m.clauses k) (slice_get m.clauses k) (Push k level cubes cube) e in
    sym (ap cubes_of r.2) ∙ ap (λ i. cubes_from m.clauses i) (ap level_of r.2)

module _ (sys : System) (n : Machine) (p : World) (c : ℕ) where
  not_refuted : (i : ℕ) → Avoids sys.sig p 0 (cubes_from n.clauses i) → ¬ IsFirstRefuter sys n i p 0 c
  not_refuted i avoids r = let x = r.refutes in avoids-each sys n.clauses i p 0 avoids c x.clause x.there x.live x.level x.meets

  not_in_frame : (i : ℕ) → IsInFrame sys (frame n.clauses i) p 0 → ¬ IsFirstRefuter sys n i p 0 c
  not_in_frame zero h r = omega (arith, r.refutes.told)
  not_in_frame (suc i) h r = not_refuted (suc i) h.1 r

module _ (sys : System) (limits : Limits) (good : IsSystem sys) (m : Machine) (ts : List Event) (rest : IsAtRest limits m) (taken : AreTakes sys limits m 0 ts) (fit : IsFit sys (run m ts)) where
  never : (p : World) (c : ℕ) → ¬ MayRefute sys (run m ts) 0 p c
  never p c (of_seed may) =
      let x = may.look in
      let given = (was_given sys limits m ts (Look x.level x.frame x.avoid x.done) rest taken x.held).given in
      let before = as_before sys limits m 0 ts taken in
      let cubes : cubes_from m.clauses m.frontier ≡ x.frame = look_frame m x.level x.frame x.avoid x.done given in
      let clauses : x.frame ≡ cubes_from (run m ts).clauses m.frontier = sym cubes ∙ ap (λ cs. cubes_from cs m.frontier) (sym before.clauses) in
      let same : x.frame ≡ cubes_from (run m ts).clauses (run m ts).frontier = clauses ∙ ap (λ i. cubes_from (run m ts).clauses i) (sym before.frontier) in
      let inside = (found_seed sys good (run m ts) fit 0 x p may.found).in_frame in
      not_refuted sys (run m ts) p c (run m ts).frontier (subst (λ cs. Avoids sys.sig p 0 cs) same inside) may.refuter
  never p c (of_step may) =
      let x = may.work in
      let given = (was_given sys limits m ts (Work x.obligation x.level x.below x.world) rest taken x.held).given in
      let before = as_before sys limits m 0 ts taken in
      let same : x.below ≡ frame (run m ts).clauses (x.level - 1) = work_frame m x.obligation x.level x.below x.world given ∙ ap (λ cs. frame cs (x.level - 1)) (sym before.clauses) in
      let inside = (found_step sys good (run m ts) fit 0 x p may.found.least).in_frame in
      not_in_frame sys (run m ts) p c (x.level - 1) (subst (λ f. IsInFrame sys f p 0) same inside) may.refuter
  never p c (of_fail may) =
      let x = may.push in
      let given = (was_given sys limits m ts (Push x.clause x.level x.frame x.cube) rest taken x.held).given in
      let before = as_before sys limits m 0 ts taken in
      let same : x.frame ≡ cubes_from (run m ts).clauses x.level = push_frame m x.clause x.level x.frame x.cube given ∙ ap (λ cs. cubes_from cs x.level) (sym before.clauses) in
      let inside = (found_fail sys good (run m ts) fit 0 x p may.found).in_frame in
      not_refuted sys (run m ts) p c x.level (subst (λ cs. Avoids sys.sig p 0 cs) same inside.1) may.refuter

pub never_refuted : (sys : System) (limits : Limits) (history takes : List Event) (p : World) (c : ℕ) → IsSystem sys → Legal sys limits (history ++ takes) → IsAtRest limits (replay history) → AreTakes sys limits (replay history) 0 takes →
    ¬ IsReport sys limits (replay (history ++ takes)) 0 (E.Return 0 (Y.Refuted p c))
never_refuted sys limits history takes p c good legal rest taken report =
    let there : replay (history ++ takes) ≡ run (replay history) takes = run-append _ history takes in
    let fit = subst (IsFit sys) there (history_fit sys limits (history ++ takes) good legal) in
    never sys limits good (replay history) takes rest taken fit p c (subst (λ n. MayRefute sys n 0 p c) there report.legal.allowed)
