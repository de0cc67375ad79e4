-- Seats that take jobs and then report make a round.
use Rattle.std.proofs.Common.{◌≡◌, ◌≢◌, ℕ, suc, ◌≤◌, ◌⊎◌, inl, inr, List, [], ◌∷◌, ◌++◌, length, None, Some, refl, sym, subst, ◌∙◌, arith}
use Rattle.fo_core.specs.declared.system.System.{System}
use Rattle.up_machine.specs.declared.limits.Limits.{Limits}
use Rattle.up_machine.specs.declared.end.End.{End}
use Rattle.up_machine.specs.declared.event.Event.{Event}
use Rattle.up_machine.specs.declared.event.Event.TheVariants as E
use Rattle.up_machine.specs.declared.event.Origin.TheVariants as O
use Rattle.up_machine.specs.declared.event.Why.TheVariants as Y
use Rattle.up_machine.specs.declared.job.Job.{Job}
use Rattle.up_machine.specs.declared.job.Job.TheVariants as J
use Rattle.up_machine.specs.declared.job.Short.TheVariants as S
use Rattle.up_machine.specs.declared.job.Task.TheVariants as T
use Rattle.up_machine.specs.Due.{IsTrace, TraceIsOut, by_root, IsDue, job_of}
use Rattle.up_machine.specs.Finding.{HoldsJob, HoldsLook, HoldsPush, HoldsWork}
use Rattle.up_machine.specs.Legal.{MayRefute, of_seed, of_step, of_fail}
use Rattle.up_machine.specs.Machine.{Given, Work, Look, Push, Machine, held_by}
use Rattle.up_machine.specs.Replay.{given_for, happens, run}
use Rattle.up_machine.specs.Rounds.{IsReport, Retires, Settles, Takes}
use Rattle.up_machine.proofs.Lists.{none_is_some, some_injective}
use Rattle.up_rounds.specs.OneRound.{AreReports, AreTakes, IsAtRest, IsRest, IsRound}
use Rattle.up_rounds.proofs.AfterJobs.{job_given, none_else, rest_jobs}
use Rattle.up_rounds.proofs.FirstSeat.{given_first, held_before}

-- 1. A seat that traces reports an end.

module _ (w : ℕ) (m : Machine) (g : Given) (held : held_by m.jobs w ≡ Some g) (trace : IsTrace (job_of g)) where
  no_other_job : {A : Type 0} (x : Given) → held_by m.jobs w ≡ Some x → ¬ IsTrace (job_of x) → A
  no_other_job x e other = absurd (other (subst (λ y. IsTrace (job_of y)) (some_injective g x (sym held ∙ e)) trace))

  no_look : {A : Type 0} → HoldsLook m w → A
  no_look h = no_other_job (Look h.level h.frame h.avoid h.done) h.held (λ x. x)

  no_work : {A : Type 0} → HoldsWork m w → A
  no_work h = no_other_job (Work h.obligation h.level h.below h.world) h.held (λ x. x)

  no_push : {A : Type 0} → HoldsPush m w → A
  no_push h = no_other_job (Push h.clause h.level h.frame h.cube) h.held (λ x. x)

abbrev HasEndedAt : Machine → Type 0
HasEndedAt m = (end : End) × (m.ending ≡ Some end)

module _ (sys : System) (limits : Limits) where
  no_refuted : {A : Type 0} (m : Machine) (w : ℕ) (g : Given) → held_by m.jobs w ≡ Some g → IsTrace (job_of g) → (p : _) (c : ℕ) → MayRefute sys m w p c → A
  no_refuted m w g held trace p c (of_seed may) = no_look w m g held trace may.look
  no_refuted m w g held trace p c (of_step may) = no_work w m g held trace may.work
  no_refuted m w g held trace p c (of_fail may) = no_push w m g held trace may.push

  by_worker : (m : Machine) (seat w : ℕ) (g : Given) → w ≡ seat → held_by m.jobs seat ≡ Some g → held_by m.jobs w ≡ Some g
  by_worker m seat w g same held = subst (λ v. held_by m.jobs v ≡ Some g) (sym same) held

  trace_closes : (m : Machine) (seat : ℕ) (e : Event) (g : Given) → IsReport sys limits m seat e → held_by m.jobs seat ≡ Some g → IsTrace (job_of g) → HasEndedAt (happens m e)
  trace_closes m seat (E.Close w end) g r held trace = (end, refl)
  trace_closes m seat (E.Take w job) g r held trace = absurd r.kind
  trace_closes m seat (E.Advance w) g r held trace = absurd r.kind
  trace_closes m seat (E.Retire w gone by) g r held trace = absurd r.kind
  trace_closes m seat (E.Return w Y.Spent) g r held trace = absurd r.kind
  trace_closes m seat (E.Return w Y.NoMemory) g r held trace = absurd r.kind
  trace_closes m seat (E.Return w (Y.Refuted p c)) g r held trace = no_refuted m w g (by_worker m seat w g r.by_seat held) trace p c r.legal.allowed
  trace_closes m seat (E.Return w Y.NoMore) g r held trace = no_look w m g (by_worker m seat w g r.by_seat held) trace r.legal.allowed.look
  trace_closes m seat (E.Seed w s) g r held trace = no_look w m g (by_worker m seat w g r.by_seat held) trace r.legal.allowed.look
  trace_closes m seat (E.Secure w) g r held trace = no_look w m g (by_worker m seat w g r.by_seat held) trace r.legal.allowed.look
  trace_closes m seat (E.Learn w c) g r held trace = no_work w m g (by_worker m seat w g r.by_seat held) trace r.legal.allowed.work
  trace_closes m seat (E.Before w (O.Initial u)) g r held trace = no_work w m g (by_worker m seat w g r.by_seat held) trace r.legal.allowed.work
  trace_closes m seat (E.Before w (O.Step p)) g r held trace = no_work w m g (by_worker m seat w g r.by_seat held) trace r.legal.allowed.work
  trace_closes m seat (E.Drop w c) g r held trace = no_work w m g (by_worker m seat w g r.by_seat held) trace r.legal.allowed.work
  trace_closes m seat (E.Raise w) g r held trace = no_push w m g (by_worker m seat w g r.by_seat held) trace r.legal.allowed.push
  trace_closes m seat (E.Fail w p) g r held trace = no_push w m g (by_worker m seat w g r.by_seat held) trace r.legal.allowed.push

  -- nothing is reported after the end
  ended_no_report : (m : Machine) (seat : ℕ) (e : Event) → HasEndedAt m → ¬ IsReport sys limits m seat e
  ended_no_report m seat e end r = none_is_some end.0 (sym r.legal.not_ended ∙ end.1)

  -- 2. What takes leave, and who takes what.

  record IsAsSpent (m n : Machine) : Type 0 where
    productive : n.productive ≡ m.productive
    ending : n.ending ≡ m.ending

  takes_leave : (m : Machine) (seat : ℕ) (ts : List Event) → AreTakes sys limits m seat ts → IsAsSpent m (run m ts)
  takes_leave m seat [] h = record { productive = refl; ending = refl }
  takes_leave m seat (t ∷ ts) h =
      let r = takes_leave (happens m t) (suc seat) ts h.1 in
      record {
        productive = r.productive ∙ subst (λ x. (happens m x).productive ≡ m.productive) (sym h.0.is) refl;
        ending = r.ending ∙ subst (λ x. (happens m x).ending ≡ m.ending) (sym h.0.is) refl;
      }

  by_root_trace : (m : Machine) (job : Job) → by_root sys limits m (T.Job job) → IsTrace job
  by_root_trace m (J.Trace k) h = tt
  by_root_trace m (J.Work k) h = absurd h
  by_root_trace m J.Look h = absurd h
  by_root_trace m (J.Push k) h = absurd h

  -- once the steps are spent only a trace is due
  spent_trace : (m : Machine) (job : Job) → limits.steps ≤ m.productive → IsDue sys limits m (T.Job job) → IsTrace job
  spent_trace m job spent (inl h) = absurd h
  spent_trace m job spent (inr (a, inl h)) = absurd h
  spent_trace m job spent (inr (a, inr (b, inl h))) = by_root_trace m job h
  spent_trace m job spent (inr (a, inr (b, inr (c, inl h)))) = absurd h
  spent_trace m job spent (inr (a, inr (b, inr (c, inr (d, h))))) = absurd (d (T.Finish S.Spent) spent)

  -- seat 0 holds the job that it took
  first_holds : (m : Machine) (t : Event) (ts : List Event) (x : Given) → IsAtRest limits m → (h : AreTakes sys limits m 0 (t ∷ ts)) → held_by (run m (t ∷ ts)).jobs 0 ≡ Some x → job_of x ≡ h.0.job
  first_holds m t ts x r h e =
      let here : held_by (happens m t).jobs 0 ≡ Some x = sym (held_before sys limits (happens m t) 1 ts h.1 (omega arith)) ∙ e in
      let own : held_by (happens m (E.Take 0 h.0.job)).jobs 0 ≡ Some x = subst (λ y. held_by (happens m y).jobs 0 ≡ Some x) h.0.is here in
      job_given m h.0.job x (given_first h.0.job (given_for m h.0.job) m.jobs x r.free own)

  -- a seat may not report
  abbrev pub CanStop : Machine → ℕ → Type 0
  CanStop m seat =
      (m.ending ≢ None)
      ⊎ (limits.steps ≤ m.productive) × ((given : Given) → held_by m.jobs seat ≡ Some given → ¬ IsTrace (job_of given))

  -- 3. A round of jobs.

  -- at rest, where a job is due, seats have taken jobs and then reported, up to the first that can't
  pub record AreJobsDone (m : Machine) (takes reports : List Event) : Type 0 where
    pub rest : IsAtRest limits m
    pub not_settled : (e : Event) → ¬ Settles sys limits m e
    pub not_retired : (e : Event) → ¬ Retires sys limits m e
    pub not_ended : m.ending ≡ None
    pub some : 1 ≤ length takes
    pub taken : AreTakes sys limits m 0 takes
    pub no_more : (e : Event) → ¬ Takes sys limits (run m takes) (length takes) e
    pub holds : HoldsJob (run m takes) 0
    pub reported : AreReports sys limits (run m takes) 0 reports
    pub stopped : (length reports ≡ length takes) ⊎ CanStop (run (run m takes) reports) (length reports)
        × ((e : Event) → ¬ IsReport sys limits (run (run m takes) reports) (length reports) e)

  module _ (m : Machine) where
    -- once the steps are spent seat 0 traces
    first_traces : (t : Event) (ts reports : List Event) (d : AreJobsDone m (t ∷ ts) reports) → limits.steps ≤ m.productive → IsTrace (job_of d.holds.given)
    first_traces t ts reports d spent =
        let same = first_holds m t ts d.holds.given d.rest d.taken d.holds.held in
        subst IsTrace (sym same) (spent_trace m d.taken.0.job spent d.taken.0.due)

    -- so seat 0 reports
    some_report : (t : Event) (ts reports : List Event) → AreJobsDone m (t ∷ ts) reports → 1 ≤ length reports
    some_report t ts (r ∷ rs) d = omega arith
    some_report t ts [] d = by d.stopped
      where
        left : IsAsSpent m (run m (t ∷ ts))
        left = takes_leave m 0 (t ∷ ts) d.taken

        by : (0 ≡ length (t ∷ ts)) ⊎ CanStop (run m (t ∷ ts)) 0 × ((e : Event) → ¬ IsReport sys limits (run m (t ∷ ts)) 0 e) → 1 ≤ length {A = Event} []
        by (inl none) = absurd (omega (arith, none))
        by (inr (inl ended, other)) = absurd (ended (left.ending ∙ d.not_ended))
        by (inr (inr spent, other)) =
            let same = left.productive in
            absurd (spent.1 d.holds.given d.holds.held (first_traces t ts [] d (omega (arith, spent.0, same))))

    -- and no further seat can
    none_further : (t : Event) (ts reports : List Event) → AreJobsDone m (t ∷ ts) reports → (e : Event) → ¬ IsReport sys limits (run (run m (t ∷ ts)) reports) (length reports) e
    none_further t ts reports d = by d.rest.jobs d.stopped
      where
        at_end : limits.steps ≤ m.productive → (rs : List Event) → AreReports sys limits (run m (t ∷ ts)) 0 rs → 1 ≤ length rs → (e : Event) → ¬ IsReport sys limits (run (run m (t ∷ ts)) rs) (length rs) e
        at_end spent [] h some = absurd (omega (arith, some))
        at_end spent (r ∷ []) h some =
            λ e. ended_no_report (happens (run m (t ∷ ts)) r) 1 e (trace_closes (run m (t ∷ ts)) 0 r d.holds.given h.0 d.holds.held (first_traces t ts reports d spent))
        at_end spent (r ∷ (q ∷ rs)) h some =
            absurd (ended_no_report (happens (run m (t ∷ ts)) r) 1 q (trace_closes (run m (t ∷ ts)) 0 r d.holds.given h.0 d.holds.held (first_traces t ts reports d spent)) h.1.0)

        by : (m.jobs ≡ []) ⊎ (limits.steps ≤ m.productive) × (¬ TraceIsOut m) → (length reports ≡ length (t ∷ ts)) ⊎ CanStop (run (run m (t ∷ ts)) reports) (length reports) × ((e : Event) → ¬ IsReport sys limits (run (run m (t ∷ ts)) reports) (length reports) e) →
            (e : Event) → ¬ IsReport sys limits (run (run m (t ∷ ts)) reports) (length reports) e
        by rest (inr h) = h.1
        by (inl none) (inl all) = λ e. none_else sys limits m (t ∷ ts) reports e none d.taken d.reported all
        by (inr s) (inl all) = at_end s.0 reports d.reported (some_report t ts reports d)

    whole : (t : Event) (ts reports : List Event) → AreJobsDone m (t ∷ ts) reports → IsRound sys limits m ((t ∷ ts) ++ reports)
    whole t ts reports d = (
      inr (d.not_settled, inr (d.not_retired, d.taken.0)),
      subst (λ x. IsRest sys limits x (happens m t) (ts ++ reports)) (sym d.taken.0.is) (record {
        takes = ts;
        reports = reports;
        parts = refl;
        taken = d.taken.1;
        no_more = λ e a. d.no_more e (subst (λ k. Takes sys limits (run m (t ∷ ts)) k e) (omega arith) a);
        reported = d.reported;
        no_other = none_further t ts reports d;
      }),
    )

  -- a whole round, in which seat 0 has reported, and after which the machine is at rest
  pub record IsJobsRound (m : Machine) (takes reports : List Event) : Type 0 where
    pub first : 1 ≤ length reports
    pub is : IsRound sys limits m (takes ++ reports)
    pub resting : (run (run m takes) reports).ending ≡ None → IsAtRest limits (run (run m takes) reports)

  pub jobs_round : (m : Machine) (takes reports : List Event) → AreJobsDone m takes reports → IsJobsRound m takes reports
  jobs_round m [] reports d = absurd (let low = d.some in omega (arith, low))
  jobs_round m (t ∷ ts) reports d = record {
    first = some_report m t ts reports d;
    is = whole m t ts reports d;
    resting = λ not_ended. rest_jobs sys limits m (t ∷ ts) reports d.rest d.taken d.reported (record { first = some_report m t ts reports d; others = by not_ended d.stopped });
  }
    where
      by : (run (run m (t ∷ ts)) reports).ending ≡ None → (length reports ≡ length (t ∷ ts)) ⊎ CanStop (run (run m (t ∷ ts)) reports) (length reports) × ((e : Event) → ¬ IsReport sys limits (run (run m (t ∷ ts)) reports) (length reports) e) →
          (length reports ≡ length (t ∷ ts)) ⊎ (limits.steps ≤ (run (run m (t ∷ ts)) reports).productive)
      by not_ended (inl all) = inl all
      by not_ended (inr (inl ended, other)) = absurd (ended not_ended)
      by not_ended (inr (inr spent, other)) = inr spent.0
