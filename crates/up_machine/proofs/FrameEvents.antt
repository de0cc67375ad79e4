-- Each legal event keeps what the frames rest on.
use Rattle.std.proofs.Common.{◌≡◌, ℕ, zero, suc, ◌-◌, ◌≤◌, true, inl, inr, List, [], ◌∷◌, ◌++◌, Option, None, Some, slice_get, refl, sym, ap, subst, ◌∙◌, arith}
use Rattle.std.specs.Prelude.{option_map}
use Rattle.fo_core.specs.declared.system.System.{System}
use Rattle.fo_core.specs.declared.world.World.{World}
use Rattle.fo_core.specs.Runs.{IsState}
use Rattle.up_diagram.specs.declared.cube.Cube.{Cube}
use Rattle.up_diagram.specs.Cubes.{without}
use Rattle.up_claims.specs.Blocked.{NoStep, NoSeed, IsBlocked, Passes, ends, drops, keeps}
use Rattle.up_claims.specs.Frames.{Avoids, IsInFrame}
use Rattle.up_machine.specs.declared.limits.Limits.{Limits}
use Rattle.up_machine.specs.declared.job.Job.{Job}
use Rattle.up_machine.specs.declared.job.Job.TheVariants as J
use Rattle.up_machine.specs.declared.job.Task.TheVariants as T
use Rattle.up_machine.specs.declared.event.Why.{Why}
use Rattle.up_machine.specs.declared.event.Why.TheVariants as Y
use Rattle.up_machine.specs.declared.event.Origin.TheVariants as O
use Rattle.up_machine.specs.declared.end.End.TheVariants as N
use Rattle.up_machine.specs.declared.event.Event.{Event}
use Rattle.up_machine.specs.declared.event.Event.TheVariants as E
use Rattle.up_machine.specs.Machine.{Clause, Ready, Out, Waiting, Rooted, Obligation, Given, Work, Look, Push, Trace, Held, Machine, start, cubes_from, frame, to_avoid, done_seeds, held_by}
use Rattle.up_machine.specs.Replay.{set_status, finish, first_status, given_for, obligations_after, released, after_event, happens, replay}
use Rattle.up_machine.specs.Due.{IsDue, IsOut, job_of}
use Rattle.up_machine.specs.Finding.{state_cube, state_cubes, HoldsJob, HoldsWork, HoldsPush}
use Rattle.up_machine.specs.Legal.{MaySecure, of_seed, of_step, of_fail, MayReturn, IsLegal, Legal}
use Rattle.up_machine.specs.Sound.{IsSoundLevel, IsSoundClause, IsSoundGiven, FramesAreSound, IsFrameSound}
use Rattle.up_machine.proofs.Lists.{some_injective, none_is_some, Each-nil, get-push, IsPushed, two_places, any-of_place}
use Rattle.up_machine.proofs.Frames.{same_stronger}
use Rattle.up_machine.proofs.Levels.{Stays, same_stays, stays_more, status_stays, pushed_stays, finish_stays, Levels, levels_push, levels_status, finish_levels, out_not_ready, waiting_not_ready, rooted_not_ready}
use Rattle.up_machine.proofs.Changes.{obligations_change, clause_comes, MayRise, clause_rises, clause_goes, clause_kept, given_kept}
use Rattle.up_machine.proofs.Dues.{due_work, due_push, due_trace, due_advance}
use Rattle.up_machine.proofs.Holding.{held-at, others, not_own}
use Rattle.up_machine.proofs.Histories.{along}

-- what stays good while literals are dropped is good at the end
pub passed_good : (Good : Cube → Type 0) (k : ℕ) (cube rest : Cube) → Good cube → Passes Good k cube rest → Good rest
passed_good Good k cube rest good (ends _ _ h) = good
passed_good Good k cube rest good (drops _ _ _ lt better p) = passed_good Good k (without cube k) rest better p
passed_good Good k cube rest good (keeps _ _ _ lt bad p) = passed_good Good (suc k) cube rest good p

abbrev pushed_clause : Job → Option ℕ
pushed_clause (J.Push k) = Some k
pushed_clause _ = None

pub work_not_push : (k i : ℕ) → J.Work k ≡ J.Push i → ⊥
work_not_push k i e = none_is_some i (ap pushed_clause e)

pub look_not_push : (i : ℕ) → J.Look ≡ J.Push i → ⊥
look_not_push i e = none_is_some i (ap pushed_clause e)

pub trace_not_push : (k i : ℕ) → J.Trace k ≡ J.Push i → ⊥
trace_not_push k i e = none_is_some i (ap pushed_clause e)

pub push_same : (k i : ℕ) → J.Push k ≡ J.Push i → k ≡ i
push_same k i e = some_injective k i (ap pushed_clause e)

-- a return asks that its worker holds a job
pub returned_job : (sys : System) (limits : Limits) (m : Machine) (w : ℕ) (why : Why) → MayReturn sys limits m w why → HoldsJob m w
returned_job sys limits m w (Y.Refuted p c) (of_seed h) = record { given = Look h.look.level h.look.frame h.look.avoid h.look.done; held = h.look.held }
returned_job sys limits m w (Y.Refuted p c) (of_step h) = record { given = Work h.work.obligation h.work.level h.work.below h.work.world; held = h.work.held }
returned_job sys limits m w (Y.Refuted p c) (of_fail h) = record { given = Push h.push.clause h.push.level h.push.frame h.push.cube; held = h.push.held }
returned_job sys limits m w Y.NoMore h = record { given = Look h.look.level h.look.frame h.look.avoid h.look.done; held = h.look.held }
returned_job sys limits m w Y.Spent h = h.job
returned_job sys limits m w Y.NoMemory h = h

-- a state that avoids the cubes of a frame told by clauses is in it
pub told_in : (sys : System) (cs : List Clause) (i : ℕ) (w : World) (c : ℕ) → 1 ≤ i → IsState sys w c → Avoids sys.sig w c (cubes_from cs i) → IsInFrame sys (frame cs i) w c
told_in sys cs zero w c low state h = absurd (omega (arith, low))
told_in sys cs (suc i) w c low state h = (state, h)

module _ (sys : System) (m : Machine) (sound : IsFrameSound sys m) where
  abbrev AreKept : ℕ → List Obligation → Type 0
  AreKept w ps = FramesAreSound sys m.frontier m.secure m.clauses ps (released w m.jobs)

  -- reports that leave the clauses
  only_obligations : (w : ℕ) (ps : List Obligation) → Stays m.obligations ps → Levels m.frontier ps → AreKept w ps
  only_obligations w ps stays levels = obligations_change sys m.frontier m.secure m.clauses m.obligations m.jobs sound ps (others w) stays levels

  pub only_jobs : (w : ℕ) → AreKept w m.obligations
  only_jobs w = only_obligations w m.obligations (same_stays m.obligations) sound.levels

  pub given_sound : (w : ℕ) (g : Given) → held_by m.jobs w ≡ Some g → IsSoundGiven sys m.frontier m.clauses m.obligations g
  given_sound w g e = let at = held-at m.jobs w g e in subst (IsSoundGiven sys m.frontier m.clauses m.obligations) at.given (sound.each_job at.place at.held at.there)

  seeded_sound : (w : ℕ) (s : World) → AreKept w (m.obligations ++ record { level = m.frontier; world = s; parent = None; status = Ready } ∷ [])
  seeded_sound w s =
      only_obligations w _ (pushed_stays m.obligations _) (levels_push m.frontier m.obligations _ sound.levels (record { high = omega arith; ready = λ _. sound.begun; below = tt }))

  finished_sound : (w k : ℕ) (o : Obligation) → slice_get m.obligations k ≡ Some o → AreKept w (finish k m.obligations)
  finished_sound w k o there = only_obligations w _ (finish_stays k m.obligations) (finish_levels m.frontier k m.obligations o there sound.levels)

  returned_sound : (w : ℕ) (why : Why) (g : Given) → held_by m.jobs w ≡ Some g → AreKept w (obligations_after (E.Return w why) (Some g) m.frontier m.obligations)
  returned_sound w why (Work k level below world) e =
      let h = given_sound w (Work k level below world) e in
      only_obligations w _ (status_stays Ready k m.obligations)
      (levels_status m.frontier Ready k m.obligations
      (λ o there _.
      let same = two_places m.obligations k o h.obligation there h.there in
      let up : 1 ≤ h.obligation.level = omega (arith, h.level_is, h.low) in
      subst (λ (x : Obligation). 1 ≤ x.level) (sym same) up) sound.levels)
  returned_sound w why (Look level cubes avoid done) e = only_jobs w
  returned_sound w why (Push k level cubes cube) e = only_jobs w
  returned_sound w why (Trace k steps) e = only_jobs w

  -- a cube is learnt from an obligation that was blocked
  module _ (w : ℕ) (work : HoldsWork m w) where
    learnt_sound : (cube : Cube) → IsBlocked sys work.below cube → FramesAreSound sys m.frontier m.secure (m.clauses ++ record { cube = cube; level = work.level; live = true } ∷ []) (finish work.obligation m.obligations) (released w m.jobs)
    learnt_sound cube blocked =
        let h = given_sound w (Work work.obligation work.level work.below work.world) work.held in
        let good : IsSoundClause sys m.frontier m.clauses (record { cube = cube; level = work.level; live = true }) = record {
          low = h.low;
          high = omega (arith, h.high);
          no_initial = blocked.no_initial;
          no_step = λ v c fits lt here step. blocked.no_step v c fits lt (h.part v c here) step;
        } in
        clause_comes sys m.frontier m.secure m.clauses m.obligations m.jobs sound (finish work.obligation m.obligations) (others w) _
        (finish_stays work.obligation m.obligations) (finish_levels m.frontier work.obligation m.obligations h.obligation h.there sound.levels) refl good

    rooted_sound : (u : World) → AreKept w (set_status (Rooted u) work.obligation m.obligations)
    rooted_sound u =
        only_obligations w _ (status_stays (Rooted u) work.obligation m.obligations) (levels_status m.frontier (Rooted u) work.obligation m.obligations (λ _ _ e. rooted_not_ready u e) sound.levels)

    -- a step into an obligation makes a new one below it
    preceded_sound : (p : World) → AreKept w (set_status Waiting work.obligation m.obligations ++ record { level = work.level - 1; world = p; parent = Some work.obligation; status = first_status work.level p } ∷ [])
    preceded_sound p =
        let h = given_sound w (Work work.obligation work.level work.below work.world) work.held in
        let waits = status_stays Waiting work.obligation m.obligations in
        let parent = waits work.obligation h.obligation h.there in
        let levels = levels_status m.frontier Waiting work.obligation m.obligations (λ _ _ e. waiting_not_ready e) sound.levels in
        let new : IsSoundLevel m.frontier (set_status Waiting work.obligation m.obligations) (record { level = work.level - 1; world = p; parent = Some work.obligation; status = first_status work.level p }) = record {
          high = omega (arith, h.high);
          ready = is_ready work.level;
          below = (parent.now, parent.there, omega (arith, parent.level, h.level_is, h.low));
        } in
        only_obligations w _ (stays_more m.obligations (set_status Waiting work.obligation m.obligations) _ waits (pushed_stays (set_status Waiting work.obligation m.obligations) _))
        (levels_push m.frontier (set_status Waiting work.obligation m.obligations) _ levels new)
      where
        is_ready : (level : ℕ) → first_status level p ≡ Ready → 1 ≤ level - 1
        is_ready zero e = rooted_not_ready p e
        is_ready (suc zero) e = rooted_not_ready p e
        is_ready (suc (suc i)) e = omega arith

  raised_sound : (w : ℕ) (push : HoldsPush m w) → NoStep sys (Some push.frame) push.cube → IsFrameSound sys (after_event (E.Raise w) (Some (Push push.clause push.level push.frame push.cube)) m)
  raised_sound w push none =
      clause_rises sys m.frontier m.secure m.clauses m.obligations m.jobs sound (others w) push.clause good free
    where
      good : (c : Clause) → slice_get m.clauses push.clause ≡ Some c → MayRise sys m.frontier m.secure m.clauses m.obligations m.jobs sound push.clause c
      good c there =
          let h = given_sound w (Push push.clause push.level push.frame push.cube) push.held in
          let same : h.clause ≡ c = two_places m.clauses push.clause h.clause c h.there there in
          let now : NoStep sys (frame m.clauses push.level) push.cube = λ v n fits lt here step. none v n fits lt (h.part v n here) step in
          let at_level = subst (λ i. NoStep sys (frame m.clauses i) push.cube) (sym h.level_is) now in
          let of_cube = subst (NoStep sys (frame m.clauses h.clause.level)) (sym h.cube_is) at_level in
          let old : MayRise sys m.frontier m.secure m.clauses m.obligations m.jobs sound push.clause h.clause = record { high = omega (arith, h.level_is, h.high); no_step = of_cube; live = h.live } in
          subst (MayRise sys m.frontier m.secure m.clauses m.obligations m.jobs sound push.clause) same old

      free : (j : ℕ) (other : Held) → slice_get m.jobs j ≡ Some other → others w other ≡ true → ¬ (job_of other.given ≡ J.Push push.clause)
      free j other there is pushes =
          let at = held-at m.jobs w (Push push.clause push.level push.frame push.cube) push.held in
          let same : other.worker ≡ at.held.worker = sound.one_push j at.place push.clause other at.held there at.there pushes (ap job_of at.given) in
          not_own w other is (same ∙ at.worker)

  -- a look that had nothing to avoid found nothing
  secured_sound : (w : ℕ) → MaySecure sys m w → FramesAreSound sys m.frontier m.frontier m.clauses m.obligations (released w m.jobs)
  secured_sound w h =
      let look = given_sound w (Look h.look.level h.look.frame h.look.avoid h.look.done) h.look.held in
      let none : NoSeed sys h.look.frame [] = subst (λ worlds. NoSeed sys h.look.frame (state_cubes sys.sig worlds)) h.nothing_avoided h.none in
      let low : 1 ≤ h.look.level = omega (arith, look.level_is, sound.begun) in
      let now : NoSeed sys (cubes_from m.clauses h.look.level) [] = λ v c fits lt state here bad apart. none v c fits lt state (look.part v c (told_in sys m.clauses h.look.level v c low state here)).1 bad apart in
      let same = only_jobs w in
      record {
        begun = same.begun;
        each_clause = same.each_clause;
        live_or_gone = same.live_or_gone;
        secure_near = inl refl;
        secure_holds = λ _. subst (λ i. NoSeed sys (cubes_from m.clauses i) []) look.level_is now;
        levels = same.levels;
        each_job = same.each_job;
        one_push = same.one_push;
      }

  -- a job goes out
  module _ (w : ℕ) (new : Given) (ps : List Obligation) (stays : Stays m.obligations ps) (levels : Levels m.frontier ps) (good : IsSoundGiven sys m.frontier m.clauses m.obligations new) (free : (k : ℕ) → job_of new ≡ J.Push k → ¬ IsOut m (J.Push k)) where
    abbrev new_held : Held
    new_held = record { worker = w; given = new }

    taken_given : (k : ℕ) (h : Held) → IsPushed m.jobs new_held k h → IsSoundGiven sys m.frontier m.clauses m.obligations h.given
    taken_given k h (inl there) = sound.each_job k h there
    taken_given k h (inr is) = subst (λ (x : Held). IsSoundGiven sys m.frontier m.clauses m.obligations x.given) is.1 good

    taken_one : (i j k : ℕ) (a b : Held) → IsPushed m.jobs new_held i a → IsPushed m.jobs new_held j b → job_of a.given ≡ J.Push k → job_of b.given ≡ J.Push k → a.worker ≡ b.worker
    taken_one i j k a b (inl e) (inl f) x y = sound.one_push i j k a b e f x y
    taken_one i j k a b (inl e) (inr f) x y = absurd (free k (ap (λ (h : Held). job_of h.given) f.1 ∙ y) (any-of_place (λ (h : Held). job_of h.given ≡ J.Push k) m.jobs i a e x))
    taken_one i j k a b (inr e) (inl f) x y = absurd (free k (ap (λ (h : Held). job_of h.given) e.1 ∙ x) (any-of_place (λ (h : Held). job_of h.given ≡ J.Push k) m.jobs j b f y))
    taken_one i j k a b (inr e) (inr f) x y = ap (λ (h : Held). h.worker) (sym e.1 ∙ f.1)

    taken_sound : FramesAreSound sys m.frontier m.secure m.clauses ps (m.jobs ++ record { worker = w; given = new } ∷ [])
    taken_sound =
        record {
          begun = sound.begun;
          each_clause = sound.each_clause;
          live_or_gone = sound.live_or_gone;
          secure_near = sound.secure_near;
          secure_holds = sound.secure_holds;
          levels = levels;
          each_job = λ k h e. given_kept sys m.frontier m.clauses m.clauses m.obligations ps h.given (same_stronger sys m.clauses) stays (λ _ _ _ there. there) (taken_given k h (get-push m.jobs new_held k h e));
          one_push = λ i j k a b e f x y. taken_one i j k a b (get-push m.jobs new_held i a e) (get-push m.jobs new_held j b f) x y;
        }

module _ (sys : System) (limits : Limits) (m : Machine) (sound : IsFrameSound sys m) where
  -- the machine after an event with this job
  abbrev IsSoundAfter : Event → Option Given → Type 0
  IsSoundAfter e job = IsFrameSound sys (after_event e job m)

  take_sound : (w : ℕ) (job : Job) → IsDue sys limits m (T.Job job) → IsSoundAfter (E.Take w job) (given_for m job)
  take_sound w (J.Work k) due =
      let next = due_work sys limits m k due in
      let level = sound.levels k next.obligation next.there in
      let o = next.obligation in
      subst (λ x. IsSoundAfter (E.Take w (J.Work k)) (option_map (λ (o : Obligation). Work k o.level (frame m.clauses (o.level - 1)) o.world) x)) (sym next.there)
      (taken_sound sys m sound w (Work k o.level (frame m.clauses (o.level - 1)) o.world) (set_status Out k m.obligations) (status_stays Out k m.obligations)
      (levels_status m.frontier Out k m.obligations (λ _ _ e. out_not_ready e) sound.levels)
      (record { obligation = o; there = next.there; level_is = refl; world_is = refl; low = level.ready next.ready; high = level.high; part = λ v c h. h })
      (λ i e. absurd (work_not_push k i e)))
  take_sound w J.Look due =
      taken_sound sys m sound w (Look m.frontier (cubes_from m.clauses m.frontier) (to_avoid m) (done_seeds m)) m.obligations (same_stays m.obligations) sound.levels
      (record { level_is = refl; part = λ v c h. in_cubes m.frontier v c sound.begun h }) (λ i e. absurd (look_not_push i e))
    where
      in_cubes : (i : ℕ) (v : World) (c : ℕ) → 1 ≤ i → IsInFrame sys (frame m.clauses i) v c → IsInFrame sys (Some (cubes_from m.clauses i)) v c
      in_cubes zero v c low h = absurd (omega (arith, low))
      in_cubes (suc i) v c low h = h
  take_sound w (J.Push k) due =
      let next = due_push sys limits m k due in
      let c = next.found in
      subst (λ x. IsSoundAfter (E.Take w (J.Push k)) (option_map (λ (c : Clause). Push k c.level (cubes_from m.clauses c.level) c.cube) x)) (sym next.there)
      (taken_sound sys m sound w (Push k c.level (cubes_from m.clauses c.level) c.cube) m.obligations (same_stays m.obligations) sound.levels
      (record { clause = c; there = next.there; level_is = refl; cube_is = refl; live = next.has.live; high = next.has.high; part = λ v n h. in_cubes c.level v n next.has.low h })
      (λ i e. subst (λ j. ¬ IsOut m (J.Push j)) (push_same k i e) next.has.free))
    where
      in_cubes : (i : ℕ) (v : World) (n : ℕ) → 1 ≤ i → IsInFrame sys (frame m.clauses i) v n → IsInFrame sys (Some (cubes_from m.clauses i)) v n
      in_cubes zero v n low h = absurd (omega (arith, low))
      in_cubes (suc i) v n low h = h
  take_sound w (J.Trace k) due =
      let next = due_trace sys limits m k due in
      let o = next.found in
      subst (λ x. IsSoundAfter (E.Take w (J.Trace k)) (option_map (λ (o : Obligation). Trace k (m.frontier - o.level)) x)) (sym next.there)
      (taken_sound sys m sound w (Trace k (m.frontier - o.level)) m.obligations (same_stays m.obligations) sound.levels
      (record { obligation = o; there = next.there; steps_are = refl }) (λ i e. absurd (trace_not_push k i e)))

  advance_sound : IsDue sys limits m T.Advance → FramesAreSound sys (suc m.frontier) m.secure m.clauses m.obligations m.jobs
  advance_sound due =
      let quiet = due_advance sys limits m due in
      record {
        begun = omega arith;
        each_clause = λ k c e. clause_kept sys m.frontier (suc m.frontier) m.clauses m.clauses c (same_stronger sys m.clauses) (omega arith) (sound.each_clause k c e);
        live_or_gone = sound.live_or_gone;
        secure_near = inr (ap suc quiet.secure);
        secure_holds = sound.secure_holds;
        levels = λ k o e. let x = sound.levels k o e in record { high = omega (arith, x.high); ready = x.ready; below = x.below };
        each_job = λ k h e. none_is_some h (subst (λ (js : List Held). slice_get js k ≡ Some h) quiet.no_job e);
        one_push = sound.one_push;
      }

  -- the same of the job that the worker holds
  with_job : (e : Event) (job given : Option Given) → job ≡ given → IsSoundAfter e given → IsSoundAfter e job
  with_job e job given is h = subst (IsSoundAfter e) (sym is) h

  pub event_sound : (e : Event) → IsLegal sys limits m e → IsFrameSound sys (happens m e)
  event_sound (E.Take w job) legal = take_sound w job legal.allowed.due
  event_sound (E.Seed w s) legal = seeded_sound sys m sound w s
  event_sound (E.Secure w) legal = secured_sound sys m sound w legal.allowed
  event_sound (E.Return w why) legal =
      let job = returned_job sys limits m w why legal.allowed in
      with_job (E.Return w why) _ _ job.held (returned_sound sys m sound w why job.given job.held)
  event_sound (E.Learn w cube) legal =
      let work = legal.allowed.work in
      let found = legal.allowed.found in
      with_job (E.Learn w cube) _ _ work.held (learnt_sound sys m sound w work cube (passed_good (IsBlocked sys work.below) 0 (state_cube sys.sig work.world) cube found.blocked found.pass))
  event_sound (E.Before w (O.Initial u)) legal = with_job (E.Before w (O.Initial u)) _ _ legal.allowed.work.held (rooted_sound sys m sound w legal.allowed.work u)
  event_sound (E.Before w (O.Step p)) legal = with_job (E.Before w (O.Step p)) _ _ legal.allowed.work.held (preceded_sound sys m sound w legal.allowed.work p)
  event_sound (E.Drop w c) legal =
      let work = legal.allowed.work in
      let h = given_sound sys m sound w (Work work.obligation work.level work.below work.world) work.held in
      with_job (E.Drop w c) _ _ work.held (finished_sound sys m sound w work.obligation h.obligation h.there)
  event_sound (E.Raise w) legal = with_job (E.Raise w) _ _ legal.allowed.push.held (raised_sound sys m sound w legal.allowed.push legal.allowed.none)
  event_sound (E.Fail w p) legal = only_jobs sys m sound w
  event_sound (E.Advance w) legal = advance_sound legal.allowed
  event_sound (E.Close w (N.Safe i)) legal = sound
  event_sound (E.Close w N.Bounded) legal = sound
  event_sound (E.Close w N.Spent) legal = sound
  event_sound (E.Close w end) legal = only_jobs sys m sound w
  event_sound (E.Retire w gone by) legal = clause_goes sys m sound gone by legal.allowed

-- the machine after every legal history is sound
module _ (sys : System) (limits : Limits) where
  pub start_sound : IsFrameSound sys start
  start_sound =
      record {
        begun = omega arith;
        each_clause = Each-nil _;
        live_or_gone = Each-nil _;
        secure_near = inr refl;
        secure_holds = λ low. absurd (omega (arith, low));
        levels = Each-nil _;
        each_job = Each-nil _;
        one_push = λ i j k a b e. none_is_some a e;
      }

  pub history_sound : (history : List Event) → Legal sys limits history → IsFrameSound sys (replay history)
  history_sound history legal = along sys limits (IsFrameSound sys) (λ m e sound legal. event_sound sys limits m sound e legal) start history start_sound legal
