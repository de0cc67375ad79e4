-- Of a clause's failed pushes only the last can be valid, and none while its push is out.
use Rattle.std.proofs.Common.{◌≡◌, ℕ, ◌-◌, ◌<◌, inl, inr, List, [], ◌∷◌, ◌++◌, true, Option, None, Some, slice_get, sym, ap, subst, ◌∙◌, arith}
use Rattle.std.specs.Prelude.{option_map}
use Rattle.fo_core.specs.declared.system.System.{System}
use Rattle.fo_core.specs.declared.world.World.{World}
use Rattle.fo_core.specs.Sorted.{IsSystem}
use Rattle.up_diagram.specs.declared.cube.Cube.{Cube}
use Rattle.up_claims.specs.Frames.{IsInFrame}
use Rattle.up_machine.specs.declared.limits.Limits.{Limits}
use Rattle.up_machine.specs.declared.job.Job.{Job}
use Rattle.up_machine.specs.declared.job.Job.TheVariants as J
use Rattle.up_machine.specs.declared.job.Task.TheVariants as T
use Rattle.up_machine.specs.declared.end.End.TheVariants as N
use Rattle.up_machine.specs.declared.event.Event.{Event}
use Rattle.up_machine.specs.declared.event.Event.TheVariants as E
use Rattle.up_machine.specs.Machine.{Clause, Obligation, FailedPush, Given, Work, Push, Trace, Held, Machine, start, cubes_from, frame, held_by}
use Rattle.up_machine.specs.Replay.{given_for, released, jobs_after, after_event, job_of_event, happens, replay, worker_of}
use Rattle.up_machine.specs.Due.{IsDue, IsValid, job_of}
use Rattle.up_machine.specs.Legal.{IsLegal, Legal}
use Rattle.up_machine.specs.Sound.{IsFit, IsSoundFail, AreSoundFails, IsFrameSound}
use Rattle.up_machine.proofs.Lists.{none_is_some, get-push, IsPushed, get-filter, get-lt, two_places, any-of_place}
use Rattle.up_machine.proofs.OneDue.{neither_below}
use Rattle.up_machine.proofs.Dues.{due_push}
use Rattle.up_machine.proofs.Frames.{Remain, clauses_remain, Stronger, happens_stronger, frame_stronger}
use Rattle.up_machine.proofs.FrameEvents.{event_sound, start_sound, work_not_push, look_not_push, trace_not_push, push_same}
use Rattle.up_machine.proofs.Holding.{held-at, others, not_own}
use Rattle.up_machine.proofs.Fit.{event_fit, start_fit}
use Rattle.up_machine.proofs.Fails.{IsFail, failed_same, event_fails}
use Rattle.up_machine.proofs.Histories.{along}

-- every event but a take leaves of the jobs only such as were out before
abbrev WereOut : List Held → List Held → Type 0
WereOut js ks = (i : ℕ) (h : Held) → slice_get ks i ≡ Some h → (j : ℕ) × (slice_get js j ≡ Some h)

abbrev IsTake : Event → Type 0
IsTake (E.Take w j) = Unit {0}
IsTake _ = ⊥

jobs_were : (e : Event) (job : Option Given) (js : List Held) → ¬ IsTake e → WereOut js (jobs_after e job js)
jobs_were (E.Take w j) job js plain = absurd (plain tt)
jobs_were (E.Advance w) job js plain = λ i h there. (i, there)
jobs_were (E.Retire w gone by) job js plain = λ i h there. (i, there)
jobs_were (E.Close w (N.Safe i)) job js plain = λ i h there. (i, there)
jobs_were (E.Close w N.Bounded) job js plain = λ i h there. (i, there)
jobs_were (E.Close w N.Spent) job js plain = λ i h there. (i, there)
jobs_were e job js plain = λ i h there. let r = get-filter (others (worker_of e)) js i h there in (r.0, r.1)

module _ (sys : System) where
  -- the failed push isn't valid as the clauses stand
  abbrev IsStale : List Clause → FailedPush → Type 0
  IsStale cs f = (c : Clause) → slice_get cs f.clause ≡ Some c → c.live ≡ true → f.level ≡ c.level → ¬ IsInFrame sys (frame cs f.level) f.step 0

  -- what is stale stays so: levels rise, frames shrink, and gone stays gone
  stale_stays : (cs ds : List Clause) → Stronger sys cs ds → Remain cs ds → (f : FailedPush) → IsSoundFail sys cs f → IsStale cs f → IsStale ds f
  stale_stays cs ds stronger remain f s stale d there live level inside =
      let x = remain f.clause s.clause s.there in
      let same : x.now ≡ d = two_places ds f.clause x.now d x.there there in
      let was_live = x.live (subst (λ (y : Clause). y.live ≡ true) (sym same) live) in
      let level_is : f.level ≡ x.now.level = level ∙ ap (λ (y : Clause). y.level) (sym same) in
      let was_level : f.level ≡ s.clause.level = omega (arith, s.low, x.level, level_is) in
      stale s.clause s.there was_live was_level (frame_stronger sys cs ds f.level f.step 0 stronger inside)

  pub record AreStale (cs : List Clause) (fs : List FailedPush) (js : List Held) : Type 0 where
    pub older : (i j : ℕ) (f g : FailedPush) → slice_get fs i ≡ Some f → slice_get fs j ≡ Some g → i < j → f.clause ≡ g.clause → IsStale cs f
    pub pushed : (i j : ℕ) (h : Held) (f : FailedPush) → slice_get js i ≡ Some h → slice_get fs j ≡ Some f → job_of h.given ≡ J.Push f.clause → IsStale cs f

  abbrev IsOneValid : Machine → Type 0
  IsOneValid m = AreStale m.clauses m.failed m.jobs

  -- a job comes, of no clause with a valid failed push
  job_comes : (cs : List Clause) (fs : List FailedPush) (js : List Held) (new : Held) → ((j : ℕ) (f : FailedPush) → slice_get fs j ≡ Some f → job_of new.given ≡ J.Push f.clause → IsStale cs f) → AreStale cs fs js → AreStale cs fs (js ++ new ∷ [])
  job_comes cs fs js new fresh one = record { older = one.older; pushed = λ i j h f e d is. by_place i j h f d is (get-push js new i h e) }
    where
      by_place : (i j : ℕ) (h : Held) (f : FailedPush) → slice_get fs j ≡ Some f → job_of h.given ≡ J.Push f.clause → IsPushed js new i h → IsStale cs f
      by_place i j h f d is (inl e) = one.pushed i j h f e d is
      by_place i j h f d is (inr e) = fresh j f d (ap (λ (x : Held). job_of x.given) e.1 ∙ is)

  module _ (limits : Limits) (m : Machine) (one : IsOneValid m) where
    abbrev IsOneAfter : Event → Option Given → Type 0
    IsOneAfter e job = IsOneValid (after_event e job m)

    take_one : (w : ℕ) (job : Job) → IsDue sys limits m (T.Job job) → IsOneAfter (E.Take w job) (given_for m job)
    take_one w (J.Work k) due = by (slice_get m.obligations k)
      where
        by : (x : Option Obligation) → IsOneAfter (E.Take w (J.Work k)) (option_map (λ (o : Obligation). Work k o.level (frame m.clauses (o.level - 1)) o.world) x)
        by None = one
        by (Some o) = job_comes m.clauses m.failed m.jobs _ (λ j f e is. absurd (work_not_push k f.clause is)) one
    take_one w J.Look due = job_comes m.clauses m.failed m.jobs _ (λ j f e is. absurd (look_not_push f.clause is)) one
    take_one w (J.Push k) due =
        let next = due_push sys limits m k due in
        subst (λ x. IsOneAfter (E.Take w (J.Push k)) (option_map (λ (c : Clause). Push k c.level (cubes_from m.clauses c.level) c.cube) x)) (sym next.there)
        (job_comes m.clauses m.failed m.jobs _
        (λ j f e is c there live level inside.
        let of_k : f.clause ≡ k = sym (push_same k f.clause is) in
        let same : c ≡ next.found = two_places m.clauses k c next.found (subst (λ i. slice_get m.clauses i ≡ Some c) of_k there) next.there in
        let valid : IsValid sys m k c f = record { live = live; clause = of_k; level = level; inside = inside } in
        next.has.untried (any-of_place (IsValid sys m k next.found) m.failed j f e (subst (λ (x : Clause). IsValid sys m k x f) same valid))) one)
    take_one w (J.Trace k) due = by (slice_get m.obligations k)
      where
        by : (x : Option Obligation) → IsOneAfter (E.Take w (J.Trace k)) (option_map (λ (o : Obligation). Trace k (m.frontier - o.level)) x)
        by None = one
        by (Some o) = job_comes m.clauses m.failed m.jobs _ (λ j f e is. absurd (trace_not_push k f.clause is)) one

    -- a push fails: its push was out, so no older failed push is valid, and it is out no more
    module _ (sound : IsFrameSound sys m) (w : ℕ) (p : World) (k level : ℕ) (cubes : List Cube) (cube : Cube) (held : held_by m.jobs w ≡ Some (Push k level cubes cube)) where
      abbrev new_fail : FailedPush
      new_fail = record { clause = k; level = level; step = p }

      older_stale : (i j : ℕ) (f g : FailedPush) → i < j → f.clause ≡ g.clause → IsPushed m.failed new_fail i f → IsPushed m.failed new_fail j g → IsStale m.clauses f
      older_stale i j f g lt same (inl e) (inl d) = one.older i j f g e d lt same
      older_stale i j f g lt same (inl e) (inr d) =
          let own = held-at m.jobs w (Push k level cubes cube) held in
          let of_k : k ≡ f.clause = ap (λ (x : FailedPush). x.clause) d.1 ∙ sym same in
          one.pushed own.place i own.held f own.there e (ap job_of own.given ∙ ap J.Push of_k)
      older_stale i j f g lt same (inr e) (inl d) = absurd (omega (arith, lt, e.0, get-lt m.failed j g d))
      older_stale i j f g lt same (inr e) (inr d) = absurd (omega (arith, lt, e.0, d.0))

      pushed_stale : (i j : ℕ) (h : Held) (f : FailedPush) → slice_get m.jobs i ≡ Some h → others w h ≡ true → job_of h.given ≡ J.Push f.clause → IsPushed m.failed new_fail j f → IsStale m.clauses f
      pushed_stale i j h f e t is (inl d) = one.pushed i j h f e d is
      pushed_stale i j h f e t is (inr d) =
          let own = held-at m.jobs w (Push k level cubes cube) held in
          let is_k : job_of h.given ≡ J.Push k = is ∙ ap J.Push (sym (ap (λ (x : FailedPush). x.clause) d.1)) in
          not_own w h t (sound.one_push i own.place k h own.held e own.there is_k (ap job_of own.given) ∙ own.worker)

      fail_one : AreStale m.clauses (m.failed ++ record { clause = k; level = level; step = p } ∷ []) (released w m.jobs)
      fail_one =
          record {
            older = λ i j f g e d lt same. older_stale i j f g lt same (get-push m.failed new_fail i f e) (get-push m.failed new_fail j g d);
            pushed = λ i j h f e d is. let x = get-filter (others w) m.jobs i h e in pushed_stale x.0 j h f x.1 x.2 is (get-push m.failed new_fail j f d);
          }

    -- other events leave no failed push, and give no job
    plain_one : (e : Event) → AreSoundFails sys m → IsLegal sys limits m e → ¬ IsFail e → ¬ IsTake e → IsOneValid (happens m e)
    plain_one e fails legal no_fail no_take =
        let job = job_of_event m e in
        let stronger = happens_stronger sys limits m e legal in
        let remain = clauses_remain e job m.clauses in
        let failed = failed_same e job m.failed no_fail in
        record {
          older = λ i j f g a b lt same.
              let there = subst (λ fs. slice_get fs i ≡ Some f) failed a in
              stale_stays m.clauses (happens m e).clauses stronger remain f (fails i f there) (one.older i j f g there (subst (λ fs. slice_get fs j ≡ Some g) failed b) lt same);
          pushed = λ i j h f a b is.
              let there = subst (λ fs. slice_get fs j ≡ Some f) failed b in
              let before = jobs_were e job m.jobs no_take i h a in
              stale_stays m.clauses (happens m e).clauses stronger remain f (fails j f there) (one.pushed before.0 j h f before.1 there is);
        }

    event_one : (e : Event) → IsFrameSound sys m → AreSoundFails sys m → IsLegal sys limits m e → IsOneValid (happens m e)
    event_one (E.Take w job) sound fails legal = take_one w job legal.allowed.due
    event_one (E.Fail w p) sound fails legal =
        let push = legal.allowed.push in
        subst (IsOneAfter (E.Fail w p)) (sym push.held) (fail_one sound w p push.clause push.level push.frame push.cube push.held)
    event_one e sound fails legal = plain_one e fails legal (λ h. h) (λ h. h)

pub record IsValidOnce (sys : System) (m : Machine) : Type 0 where
  pub sound : IsFrameSound sys m
  pub fit : IsFit sys m
  pub fails : AreSoundFails sys m
  pub one : AreStale sys m.clauses m.failed m.jobs

history_once : (sys : System) (limits : Limits) (history : List Event) → IsSystem sys → Legal sys limits history → IsValidOnce sys (replay history)
history_once sys limits history good legal =
    along sys limits (IsValidOnce sys)
    (λ m e h legal. record {
      sound = event_sound sys limits m h.sound e legal;
      fit = event_fit sys good m h.fit limits e legal;
      fails = event_fails sys good m h.sound h.fit h.fails limits e legal;
      one = event_one sys limits m h.one e h.sound h.fails legal;
    }) start history
    (record {
      sound = start_sound sys limits;
      fit = start_fit sys;
      fails = λ k f e. none_is_some f e;
      one = record { older = λ i j f g e. none_is_some f e; pushed = λ i j h f e. none_is_some h e };
    }) legal

-- a clause has at most one valid failed push
pub one_valid : (sys : System) (limits : Limits) (history : List Event) (k i j : ℕ) (c : Clause) (f g : FailedPush) → IsSystem sys → Legal sys limits history →
    slice_get (replay history).clauses k ≡ Some c → slice_get (replay history).failed i ≡ Some f → slice_get (replay history).failed j ≡ Some g →
    IsValid sys (replay history) k c f → IsValid sys (replay history) k c g → i ≡ j
one_valid sys limits history k i j c f g good legal there e d valid other =
    let one = (history_once sys limits history good legal).one in
    neither_below i j
    (λ lt. one.older i j f g e d lt (valid.clause ∙ sym other.clause) c (subst (λ x. slice_get (replay history).clauses x ≡ Some c) (sym valid.clause) there) valid.live valid.level valid.inside)
    (λ lt. one.older j i g f d e lt (other.clause ∙ sym valid.clause) c (subst (λ x. slice_get (replay history).clauses x ≡ Some c) (sym other.clause) there) other.live other.level other.inside)
