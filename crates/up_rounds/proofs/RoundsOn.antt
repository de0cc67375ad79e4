-- Rounds of the machine in code, one after another.
use Rattle.std.proofs.Common.{◌≡◌, ℕ, ◌≤◌, ◌<◌, ◌⊎◌, inl, inr, Bool, false, ◌^◌, List, [], ◌∷◌, ◌++◌, length, Option, None, Some, slice_get, refl, sym, ap, subst, ◌∙◌, arith}
use Rattle.std.specs.List.{All}
use Rattle.fo_core.specs.declared.order.Order.{Order}
use Rattle.fo_core.specs.declared.system.System.{System}
use Rattle.fo_core.specs.Sorted.{IsSystem}
use Rattle.up_machine.specs.declared.brief.Brief.{Brief}
use Rattle.up_machine.specs.declared.limits.Limits.{Limits}
use Rattle.up_machine.specs.declared.end.End.{End}
use Rattle.up_machine.specs.declared.event.Event.{Event}
use Rattle.up_machine.specs.declared.event.Event.TheVariants as E
use Rattle.up_machine.specs.Finding.{HoldsJob}
use Rattle.up_machine.specs.Legal.{Legal}
use Rattle.up_machine.specs.Machine.{Machine}
use Rattle.up_machine.specs.Ranges.{AreInRange}
use Rattle.up_machine.specs.Replay.{happens, run, replay}
use Rattle.up_machine.specs.Rounds.{end_of, Begins, IsReport, Retires, Settles, Takes}
use Rattle.up_machine.proofs.Lists.{all-of_each, none_is_some}
use Rattle.up_jobs.specs.Solving.{CanSolve}
use Rattle.up_core.specs.View.{CoreView, now}
use Rattle.up_rounds.specs.declared.settling.Begun.{Begun}
use Rattle.up_rounds.specs.declared.settling.Begun.TheVariants as B
use Rattle.up_seats.specs.Seats.{MayStop}
use Rattle.up_rounds.specs.Asking.{HaveAllReported, HaveTaken}
use Rattle.up_rounds.specs.Coming.{left_of}
use Rattle.up_rounds.specs.Courses.{IsCourse, IsRun}
use Rattle.up_rounds.specs.Going.{HasGoneOn, HasRun, HasTurned, IsOfSame, IsUnderWay, left_in, left_until}
use Rattle.up_seats.specs.Making.{HasMade}
use Rattle.up_rounds.specs.OneRound.{AreReports, AreTakes, IsAtRest, IsRest, IsRound, AreRounds, none, one_more}
use Rattle.up_rounds.specs.Settling.{HasBegun, HasSettled, IsForJobs, IsResting}
use Rattle.up_rounds.proofs.AllTakes.{takes_within}
use Rattle.up_rounds.proofs.FirstDue.{job_open}
use Rattle.up_rounds.proofs.JobRounds.{AreJobsDone, CanStop, IsJobsRound, jobs_round}
use Rattle.up_rounds.proofs.Joining.{joined}
use Rattle.up_seats.proofs.Made.{made_both, made_now, moved, moved_back, moved_on}
use Rattle.up_rounds.proofs.OneCourse.{no_begin}
use Rattle.up_rounds.proofs.Resting.{rest_start, rest_advance, rest_retire}

-- 1. A round of jobs.

-- as the law says
abbrev pub JobsEnd : Type 0
JobsEnd =
    (sys : System) (limits : Limits) (history takes reports : List Event) →
    IsSystem sys → Legal sys limits (history ++ takes ++ reports) → IsAtRest limits (replay history) →
    AreTakes sys limits (replay history) 0 takes → AreReports sys limits (replay (history ++ takes)) 0 reports →
    1 ≤ length reports → (replay (history ++ takes ++ reports)).ending ≡ None →
    left_of limits (replay (history ++ takes ++ reports)) < left_of limits (replay history)

-- what the calls in between ask for, of the briefs as they are handed in
module _ (a b : CoreView) (briefs : List Brief) (t : HaveTaken a briefs b) where
  pub few_briefs : AreInRange a.limits → (given : List Brief) → given ≡ briefs → length given < 2 ^ 32
  few_briefs ranges given same =
      let within = takes_within a.sys a.limits (now a) t.takes t.taken in
      let high = ranges.batch.high in
      let many = ap length same ∙ t.many in
      omega (arith, within, high, many)

  pub all_solvable : (sys : System) (order : Order) (given : List Brief) → sys ≡ b.sys → order ≡ b.order → given ≡ briefs → All (CanSolve sys order) given
  all_solvable sys order given sys_is order_is same =
      let all = all-of_each briefs (CanSolve b.sys b.order) (λ k brief e. (t.briefed k brief e).solvable) in
      let P : System → Order → List Brief → Type 0 = λ s o bs. All (CanSolve s o) bs in
      subst (λ bs. P sys order bs) (sym same) (subst (λ o. P sys o briefs) (sym order_is) (subst (λ s. P s b.order briefs) (sym sys_is) all))

first_brief : (briefs : List Brief) (n : ℕ) → length briefs ≡ n → 1 ≤ n → (brief : Brief) × (slice_get briefs 0 ≡ Some brief)
first_brief [] n same low = absurd (omega (arith, same, low))
first_brief (brief ∷ briefs) n same low = (brief, refl)

module _ (a : CoreView) (rest : IsAtRest a.limits (now a)) (jobs : IsForJobs a) (ranges : AreInRange a.limits)
    (b : CoreView) (briefs : List Brief) (t : HaveTaken a briefs b)
    (d : CoreView) (r : HaveAllReported b (length briefs) d) where
  some_take : 1 ≤ length t.takes
  some_take = by t.takes refl
    where
      by : (ts : List Event) → ts ≡ t.takes → 1 ≤ length ts
      by (x ∷ ts) same = omega arith
      by [] same =
          let due : Takes a.sys a.limits (now a) 0 (E.Take 0 jobs.job) = record { job = jobs.job; in_batch = ranges.batch.low; due = jobs.due; is = refl } in
          let none : ¬ Takes a.sys a.limits (run (now a) t.takes) (length t.takes) (E.Take 0 jobs.job) =
          λ x. t.no_more (E.Take 0 jobs.job) (subst (λ m. Takes a.sys a.limits m (length t.takes) (E.Take 0 jobs.job)) (sym (made_now a b t.takes t.made)) x) in
          absurd (subst (λ ts. ¬ Takes a.sys a.limits (run (now a) ts) (length ts) (E.Take 0 jobs.job)) (sym same) none due)

  seat_holds : HoldsJob (run (now a) t.takes) 0
  seat_holds =
      let first = first_brief briefs (length t.takes) t.many some_take in
      let h = t.briefed 0 first.0 first.1 in
      subst (λ m. HoldsJob m 0) (made_now a b t.takes t.made) (record { given = h.given; held = h.held })

  there : now d ≡ run (run (now a) t.takes) r.reports
  there = made_now b d r.reports r.made ∙ ap (λ m. run m r.reports) (made_now a b t.takes t.made)

  done : AreJobsDone a.sys a.limits (now a) t.takes r.reports
  done = record {
    rest = rest;
    not_settled = jobs.not_settled;
    not_retired = jobs.not_retired;
    not_ended = job_open a.sys a.limits (now a) jobs.job jobs.due;
    some = some_take;
    taken = t.taken;
    no_more = subst (λ m. (e : Event) → ¬ Takes a.sys a.limits m (length t.takes) e) (made_now a b t.takes t.made) t.no_more;
    holds = seat_holds;
    reported = moved_back (λ s l m. AreReports s l m 0 r.reports) a b t.takes t.made r.reported;
    stopped = by r.stopped;
  }
    where
      seat : ℕ
      seat = length r.reports

      by : (length r.reports ≡ length briefs) ⊎ MayStop d seat × ((e : Event) → ¬ IsReport b.sys b.limits (now d) seat e) →
          (length r.reports ≡ length t.takes) ⊎ CanStop a.sys a.limits (run (run (now a) t.takes) r.reports) seat × ((e : Event) → ¬ IsReport a.sys a.limits (run (run (now a) t.takes) r.reports) seat e)
      by (inl all) = inl (all ∙ t.many)
      by (inr stop) =
          let can : CanStop b.sys b.limits (now d) seat = moved (λ s l m. CanStop s l m seat) d.sys b.sys d.limits b.limits (now d) (now d) r.made.sys r.made.limits refl stop.0 in
          inr (moved (λ s l m. CanStop s l m seat × ((e : Event) → ¬ IsReport s l m seat e)) b.sys a.sys b.limits a.limits (now d) (run (run (now a) t.takes) r.reports) t.made.sys t.made.limits there (can, stop.1))

  round : IsJobsRound a.sys a.limits (now a) t.takes r.reports
  round = jobs_round a.sys a.limits (now a) t.takes r.reports done

  history_is : d.history ≡ a.history ++ t.takes ++ r.reports
  history_is = r.made.history ∙ ap (λ h. h ++ r.reports) t.made.history

  both : HasMade a (t.takes ++ r.reports) d
  both = made_both a b d t.takes r.reports t.made r.made

  pub jobs_go_on : JobsEnd → IsSystem d.sys → Legal d.sys d.limits d.history → HasGoneOn a d
  jobs_go_on law good legal = record {
    round = t.takes ++ r.reports;
    made = both;
    is = round.is;
    resting = moved (λ s l m. m.ending ≡ None → IsAtRest l m) a.sys d.sys a.limits d.limits (run (run (now a) t.takes) r.reports) (now d) (sym both.sys) (sym both.limits) (sym there) round.resting;
    less = subst (λ h. (replay h).ending ≡ None → left_of a.limits (replay h) < left_of a.limits (now a)) (sym history_is)
        (law a.sys a.limits a.history t.takes r.reports (subst IsSystem both.sys good) legal_there rest t.taken reported_there round.first);
  }
    where
      legal_there : Legal a.sys a.limits (a.history ++ t.takes ++ r.reports)
      legal_there = subst (λ h. Legal a.sys a.limits h) history_is (subst (λ l. Legal a.sys l d.history) both.limits (subst (λ s. Legal s d.limits d.history) both.sys legal))

      reported_there : AreReports a.sys a.limits (replay (a.history ++ t.takes)) 0 r.reports
      reported_there = moved (λ s l m. AreReports s l m 0 r.reports) b.sys a.sys b.limits a.limits (now b) (replay (a.history ++ t.takes)) t.made.sys t.made.limits (ap replay t.made.history) r.reported

-- 2. A round of one event.

abbrev pub SettlingEnds : Type 0
SettlingEnds =
    (sys : System) (limits : Limits) (history : List Event) (e : Event) →
    Legal sys limits (history ++ e ∷ []) → Settles sys limits (replay history) e →
    (replay (history ++ e ∷ [])).ending ≡ None →
    left_of limits (replay (history ++ e ∷ [])) < left_of limits (replay history)

abbrev pub RetiringEnds : Type 0
RetiringEnds =
    (sys : System) (limits : Limits) (history : List Event) (e : Event) →
    Legal sys limits (history ++ e ∷ []) → Retires sys limits (replay history) e →
    left_of limits (replay (history ++ e ∷ [])) < left_of limits (replay history)

module _ (sys : System) (limits : Limits) (m : Machine) (e : Event) where
  abbrev Settling : Type 0
  Settling =
      Settles sys limits m e ⊎ ((x : Event) → ¬ Settles sys limits m x) × Retires sys limits m e

  settling_begins : Settling → Begins sys limits m e
  settling_begins (inl s) = inl s
  settling_begins (inr r) = inr (r.0, inl r.1)

  settling_rest : Settling → IsRest sys limits e (happens m e) []
  settling_rest (inl (inl a)) = subst (λ x. IsRest sys limits x (happens m x) []) (sym a.1) refl
  settling_rest (inl (inr a)) = subst (λ x. IsRest sys limits x (happens m x) []) (sym a.2) refl
  settling_rest (inr r) = subst (λ x. IsRest sys limits x (happens m x) []) (sym r.1.3) refl

  settling_rests : Settling → (m.ending ≡ None → IsAtRest limits m) → (happens m e).ending ≡ None → IsAtRest limits (happens m e)
  settling_rests (inl (inl a)) rest =
      let P : Event → Type 0 = λ x. (happens m x).ending ≡ None → IsAtRest limits (happens m x) in
      subst P (sym a.1) (λ open_now. rest_advance limits m 0 (rest open_now))
  settling_rests (inl (inr a)) rest =
      let P : Event → Type 0 = λ x. (happens m x).ending ≡ None → IsAtRest limits (happens m x) in
      subst P (sym a.2) (λ open_now. none_is_some (end_of a.0) (sym open_now))
  settling_rests (inr r) rest =
      let P : Event → Type 0 = λ x. (happens m x).ending ≡ None → IsAtRest limits (happens m x) in
      subst P (sym r.1.3) (λ open_now. rest_retire limits m 0 r.1.0 r.1.1 (rest open_now))

module _ (a d : CoreView) (rest : IsResting a) (h : HasSettled a d) where
  settled_on : SettlingEnds → RetiringEnds → Legal d.sys d.limits d.history → HasGoneOn a d
  settled_on settling retiring legal = record {
    round = h.event ∷ [];
    made = h.made;
    is = (settling_begins a.sys a.limits (now a) h.event h.is, settling_rest a.sys a.limits (now a) h.event h.is);
    resting = moved_on (λ s l m. m.ending ≡ None → IsAtRest l m) a d (h.event ∷ []) h.made (settling_rests a.sys a.limits (now a) h.event h.is rest);
    less = subst (λ x. (replay x).ending ≡ None → left_of a.limits (replay x) < left_of a.limits (now a)) (sym h.made.history) (by h.is);
  }
    where
      legal_there : Legal a.sys a.limits (a.history ++ h.event ∷ [])
      legal_there = subst (λ x. Legal a.sys a.limits x) h.made.history (subst (λ l. Legal a.sys l d.history) h.made.limits (subst (λ s. Legal s d.limits d.history) h.made.sys legal))

      by : Settling a.sys a.limits (now a) h.event → (replay (a.history ++ h.event ∷ [])).ending ≡ None → left_of a.limits (replay (a.history ++ h.event ∷ [])) < left_of a.limits (replay a.history)
      by (inl s) = settling a.sys a.limits a.history h.event legal_there s
      by (inr r) = λ open_now. retiring a.sys a.limits a.history h.event legal_there r.1

-- 3. Round after round.

rest_after : (a b : CoreView) → HasMade a [] b → IsResting a → IsResting b
rest_after a b made rest = moved_on (λ s l m. m.ending ≡ None → IsAtRest l m) a b [] made rest

module _ (a b : CoreView) (begun : Begun) (h : HasBegun a begun b) (rest : IsResting a) where
  -- by an event that is the whole round
  pub begun_settled : begun ≡ B.Settled → SettlingEnds → RetiringEnds → Legal b.sys b.limits b.history → HasGoneOn a b
  begun_settled is settling retiring legal = settled_on a b rest (subst (λ x. HasBegun a x b) is h) settling retiring legal

  -- or by jobs, at rest
  pub begun_rest : begun ≡ B.Jobs → IsAtRest b.limits (now b)
  begun_rest is =
      let jobs : HasMade a [] b × IsForJobs b = subst (λ x. HasBegun a x b) is h in
      rest_after a b jobs.0 rest (job_open b.sys b.limits (now b) jobs.1.job jobs.1.due)

-- the round has come
pub turned_on : (a d : CoreView) (ended : Bool) → ended ≡ false → HasTurned a ended d → HasGoneOn a d
turned_on a d ended is h = subst (λ x. HasTurned a x d) is h

pub same_on : (a b : CoreView) (es : List Event) → HasMade a es b → IsOfSame a b
same_on a b es h = record { sys = h.sys; order = h.order; limits = h.limits }

pub same_both : (a b d : CoreView) → IsOfSame a b → IsOfSame b d → IsOfSame a d
same_both a b d h k = record { sys = k.sys ∙ h.sys; order = k.order ∙ h.order; limits = k.limits ∙ h.limits }

pub under_way_on : (a d : CoreView) → IsUnderWay a → HasGoneOn a d → IsUnderWay d
under_way_on a d way h = record {
  rounds = subst (λ x. AreRounds d.sys d.limits x) (sym h.made.history) (subst (λ l. AreRounds d.sys l (a.history ++ h.round)) (sym h.made.limits) (subst (λ s. AreRounds s a.limits (a.history ++ h.round)) (sym h.made.sys) (one_more a.history h.round way.rounds h.is)));
  resting = h.resting;
}

round_open : (sys : System) (limits : Limits) (m : Machine) (round : List Event) → IsRound sys limits m round → m.ending ≡ None
round_open sys limits m [] h = absurd h
round_open sys limits m (e ∷ es) h = by m.ending refl
  where
    by : (x : Option End) → m.ending ≡ x → m.ending ≡ None
    by None is = is
    by (Some end) is = absurd (no_begin sys limits m end is e h.0)

falls : (x y : Option End) (n k : ℕ) → x ≡ None → (y ≡ None → k < n) → left_until y k < left_until x n
falls None None n k e f = let low = f refl in omega (arith, low)
falls None (Some end) n k e f = omega arith
falls (Some end) y n k e f = none_is_some end (sym e)

pub less_left : (a d : CoreView) → HasGoneOn a d → left_in d < left_in a
less_left a d h =
    falls (now a).ending (now d).ending (left_of a.limits (now a)) (left_of d.limits (now d))
    (round_open a.sys a.limits (now a) h.round h.is)
    (subst (λ l. (now d).ending ≡ None → left_of l (now d) < left_of a.limits (now a)) (sym h.made.limits) h.less)

-- the machine before any event
abbrev pub begin : System → Order → Limits → CoreView
begin sys order limits =
    record { sys = sys; order = order; limits = limits; history = []; spare = 0; variables = 0 }

module _ (sys : System) (order : Order) (limits : Limits) (a : CoreView) (made : a ≡ begin sys order limits) where
  pub begins_way : IsUnderWay a
  begins_way = subst IsUnderWay (sym made) (record { rounds = none; resting = λ open_now. rest_start limits })

  -- the whole run
  pub is_run : (d : CoreView) → HasRun a d → Legal d.sys d.limits d.history → IsRun sys order limits d
  is_run d h legal =
      let run = subst (λ x. HasRun x d) made h in
      record {
        sys_is = run.same.sys;
        order_is = run.same.order;
        limits_are = run.same.limits;
        course = subst (λ l. IsCourse sys l d.history) run.same.limits (subst (λ s. IsCourse s d.limits d.history) run.same.sys (record {
          legal = legal;
          rounds = joined d.sys d.limits d.history run.rounds run.ended;
        }));
      }
