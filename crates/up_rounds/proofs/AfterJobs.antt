-- A round of jobs leaves the machine at rest.
use Rattle.std.proofs.Common.{◌≡◌, ℕ, suc, ◌+◌, ◌≤◌, ◌<◌, Bool, true, false, ◌⊎◌, inl, inr, List, [], ◌∷◌, ◌++◌, length, Option, None, Some, slice_get, refl, sym, ap, subst, ◌∙◌, arith}
use Rattle.std.specs.List.{Any}
use Rattle.std.specs.Prelude.{option_map}
use Rattle.std.proofs.lemmas.Bool.{cases_lt}
use Rattle.std.proofs.lemmas.Option.{slice_get-get_or}
use Rattle.fo_core.specs.declared.system.System.{System}
use Rattle.up_machine.specs.declared.limits.Limits.{Limits}
use Rattle.up_machine.specs.declared.job.Job.{Job}
use Rattle.up_machine.specs.declared.job.Job.TheVariants as J
use Rattle.up_machine.specs.declared.job.Task.TheVariants as T
use Rattle.up_machine.specs.declared.event.Event.{Event}
use Rattle.up_machine.specs.declared.event.Event.TheVariants as E
use Rattle.up_machine.specs.Machine.{Ready, Out, Obligation, Given, Held, Machine, held_by}
use Rattle.up_machine.specs.Replay.{with_status, set_status, given_work, given_push, given_trace, given_for, obligations_after, jobs_after, is_productive, count_if, happens, run}
use Rattle.up_machine.specs.Due.{IsFirst, IsRooted, IsFirstRooted, IsTrace, TraceIsOut, IsDue, job_of}
use Rattle.up_machine.specs.Rounds.{IsReport, Takes}
use Rattle.up_machine.specs.Sound.{Each}
use Rattle.up_machine.proofs.Dues.{due_work, due_push}
use Rattle.up_machine.proofs.Holding.{held-at, others, not_own}
use Rattle.up_machine.proofs.Lists.{some_injective, mapped_some, Each-nil, get-append, get-push, IsPushed, get-changed, get-change, IsChanged, get-filter, two_places, any-of_place}
use Rattle.up_rounds.specs.OneRound.{AreTakes, AreReports, IsAtRest, HaveReported}
use Rattle.up_seats.proofs.Reporting.{holder, report_jobs}
use Rattle.up_rounds.proofs.Resting.{trace_out}

-- 1. Only seat 0 takes a trace.

place_of : {X : Type 0} (P : X → Type 0) (xs : List X) → Any P xs → (k : ℕ) × (x : X) × (slice_get xs k ≡ Some x) × P x
place_of P xs a = (a.0, a.1, slice_get-get_or xs a.0 a.1 a.2 ∙ ap Some a.3, a.4)

abbrev HoldsTraceJob : Held → Type 0
HoldsTraceJob h = IsTrace (job_of h.given)

out_pushed : (seat : ℕ) (job : Job) (g : Option Given) (js : List Held) → Any HoldsTraceJob js → Any HoldsTraceJob (jobs_after (E.Take seat job) g js)
out_pushed seat job None js a = a
out_pushed seat job (Some g) js a =
    let r = place_of HoldsTraceJob js a in
    let new : Held = record { worker = seat; given = g } in
    any-of_place HoldsTraceJob (js ++ new ∷ []) r.0 r.1 (get-append js (new ∷ []) r.0 r.1 r.2) r.3

still_out : (m : Machine) (seat : ℕ) (job : Job) → TraceIsOut m → TraceIsOut (happens m (E.Take seat job))
still_out m seat job a = out_pushed seat job (given_for m job) m.jobs a

-- the first rooted obligation was so before a ready one went out
rooted_before : (os : List Obligation) (q k : ℕ) (o : Obligation) → slice_get os q ≡ Some o → o.status ≡ Ready →
    IsFirst (set_status Out q os) (λ j x. IsRooted x.status) k → IsFirst os (λ j x. IsRooted x.status) k
rooted_before os q k o there ready h = by (get-changed q (with_status Out) os k h.found h.there)
  where
    earlier : (j : ℕ) (y : Obligation) → j < k → slice_get os j ≡ Some y → ¬ IsRooted y.status
    earlier j y lt e p = at (get-change q (with_status Out) os j y e)
      where
        at : ((z : Obligation) × (slice_get (set_status Out q os) j ≡ Some z) × IsChanged q (with_status Out) j y z) → ⊥
        at (z, f, inl c) =
            let same : y ≡ o = two_places os q y o (subst (λ i. slice_get os i ≡ Some y) (sym c.0) e) there in
            subst IsRooted (ap (λ (x : Obligation). x.status) same ∙ ready) p
        at (z, f, inr c) = h.first j z lt f (subst (λ (x : Obligation). IsRooted x.status) c p)

    by : ((x : Obligation) × (slice_get os k ≡ Some x) × IsChanged q (with_status Out) k x h.found) → IsFirst os (λ j x. IsRooted x.status) k
    by (x, f, inl c) = absurd (subst (λ (y : Obligation). IsRooted y.status) (sym c.1) h.has)
    by (x, f, inr c) = record { found = x; there = f; has = subst (λ (y : Obligation). IsRooted y.status) (sym c) h.has; first = earlier }

module _ (sys : System) (limits : Limits) where
  first_before : (m : Machine) (seat k : ℕ) (job : Job) → IsDue sys limits m (T.Job job) → ¬ IsTrace job → IsFirstRooted (happens m (E.Take seat job)) k → IsFirstRooted m k
  first_before m seat k J.Look due other h = h
  first_before m seat k (J.Trace q) due other h = absurd (other tt)
  first_before m seat k (J.Push q) due other h =
      let p = due_push sys limits m q due in
      let given = ap (option_map (given_push m.clauses q)) p.there in
      subst (λ os. IsFirst os (λ j (x : Obligation). IsRooted x.status) k) (ap (λ g. obligations_after (E.Take seat (J.Push q)) g m.frontier m.obligations) given) h
  first_before m seat k (J.Work q) due other h =
      let w = due_work sys limits m q due in
      let given = ap (option_map (given_work m.clauses q)) w.there in
      rooted_before m.obligations q k w.obligation w.there w.ready
      (subst (λ os. IsFirst os (λ j (x : Obligation). IsRooted x.status) k) (ap (λ g. obligations_after (E.Take seat (J.Work q)) g m.frontier m.obligations) given) h)

  -- where a trace is due, and where another job is
  root_of : (m : Machine) (k : ℕ) → IsDue sys limits m (T.Job (J.Trace k)) → IsFirstRooted m k × (¬ TraceIsOut m)
  root_of m k (inl h) = absurd h
  root_of m k (inr (a, inl h)) = absurd h
  root_of m k (inr (a, inr (b, inl h))) = h
  root_of m k (inr (a, inr (b, inr (c, inl h)))) = absurd h
  root_of m k (inr (a, inr (b, inr (c, inr (d, inl h))))) = absurd h
  root_of m k (inr (a, inr (b, inr (c, inr (d, inr (e, inl h)))))) = absurd h
  root_of m k (inr (a, inr (b, inr (c, inr (d, inr (e, inr (f, inl h))))))) = absurd h
  root_of m k (inr (a, inr (b, inr (c, inr (d, inr (e, inr (f, inr (g, inl h)))))))) = absurd h
  root_of m k (inr (a, inr (b, inr (c, inr (d, inr (e, inr (f, inr (g, inr (i, h))))))))) = absurd h

  no_root : (m : Machine) (job : Job) (k : ℕ) → IsDue sys limits m (T.Job job) → ¬ IsTrace job → IsFirstRooted m k → ¬ TraceIsOut m → ⊥
  no_root m job k (inl h) other first none = h
  no_root m job k (inr (a, inl h)) other first none = h
  no_root m (J.Trace q) k (inr (a, inr (b, inl h))) other first none = other tt
  no_root m (J.Work q) k (inr (a, inr (b, inl h))) other first none = h
  no_root m J.Look k (inr (a, inr (b, inl h))) other first none = h
  no_root m (J.Push q) k (inr (a, inr (b, inl h))) other first none = h
  no_root m job k (inr (a, inr (b, inr (c, h)))) other first none = c (T.Job (J.Trace k)) (first, none)

  -- after a take a trace isn't due
  after_other : (m : Machine) (seat k : ℕ) (job : Job) → IsDue sys limits m (T.Job job) → ¬ IsTrace job → ¬ IsDue sys limits (happens m (E.Take seat job)) (T.Job (J.Trace k))
  after_other m seat k job due other next =
      let r = root_of (happens m (E.Take seat job)) k next in
      no_root m job k due other (first_before m seat k job due other r.0) (λ out. r.1 (still_out m seat job out))

  after_job : (m : Machine) (seat k : ℕ) (job : Job) → IsDue sys limits m (T.Job job) → ¬ IsDue sys limits (happens m (E.Take seat job)) (T.Job (J.Trace k))
  after_job m seat k (J.Trace q) due next = (root_of (happens m (E.Take seat (J.Trace q))) k next).1 (trace_out m seat q (root_of m q due).0)
  after_job m seat k J.Look due next = after_other m seat k J.Look due (λ h. h) next
  after_job m seat k (J.Work q) due next = after_other m seat k (J.Work q) due (λ h. h) next
  after_job m seat k (J.Push q) due next = after_other m seat k (J.Push q) due (λ h. h) next

  second_no_trace : (m : Machine) (seat next : ℕ) (t u : Event) → Takes sys limits m seat t → (b : Takes sys limits (happens m t) next u) → ¬ IsTrace b.job
  second_no_trace m seat next t u a b = by b.job b.due
    where
      by : (job : Job) → IsDue sys limits (happens m t) (T.Job job) → ¬ IsTrace job
      by (J.Trace k) due p = after_job m seat k a.job a.due (subst (λ x. IsDue sys limits (happens m x) (T.Job (J.Trace k))) a.is due)
      by (J.Work k) due p = p
      by J.Look due p = p
      by (J.Push k) due p = p

-- 2. What jobs are out after the takes.

pushed : (P : Held → Type 0) (seat : ℕ) (job : Job) (g : Option Given) (js : List Held) → Each js (λ k. P) →
    ((x : Given) → g ≡ Some x → P (record { worker = seat; given = x })) → Each (jobs_after (E.Take seat job) g js) (λ k. P)
pushed P seat job None js h p = h
pushed P seat job (Some x) js h p = λ k y e. by k y (get-push js (record { worker = seat; given = x }) k y e)
  where
    by : (k : ℕ) (y : Held) → IsPushed js (record { worker = seat; given = x }) k y → P y
    by k y (inl e) = h k y e
    by k y (inr e) = subst P e.1 (p x refl)

pub job_given : (m : Machine) (job : Job) (x : Given) → given_for m job ≡ Some x → job_of x ≡ job
job_given m J.Look x e = ap job_of (sym (some_injective _ x e))
job_given m (J.Work k) x e = let r = mapped_some (given_work m.clauses k) (slice_get m.obligations k) x e in ap job_of (sym r.2)
job_given m (J.Push k) x e = let r = mapped_some (given_push m.clauses k) (slice_get m.clauses k) x e in ap job_of (sym r.2)
job_given m (J.Trace k) x e = let r = mapped_some (given_trace m.frontier k) (slice_get m.obligations k) x e in ap job_of (sym r.2)

abbrev AreBelow : ℕ → List Held → Type 0
AreBelow n js = Each js (λ k h. h.worker < n)

abbrev TracesAreFirst : List Held → Type 0
TracesAreFirst js = Each js (λ k h. HoldsTraceJob h → h.worker ≡ 0)

module _ (sys : System) (limits : Limits) where
  pub taken : (P : Held → Type 0) (m : Machine) (seat : ℕ) (t : Event) (a : Takes sys limits m seat t) → Each m.jobs (λ k. P) →
      ((x : Given) → given_for m a.job ≡ Some x → P (record { worker = seat; given = x })) → Each (happens m t).jobs (λ k. P)
  taken P m seat t a h p = subst (λ y. Each (happens m y).jobs (λ k. P)) (sym a.is) (pushed P seat a.job (given_for m a.job) m.jobs h p)

  seated : (m : Machine) (seat : ℕ) (ts : List Event) → AreTakes sys limits m seat ts → AreBelow seat m.jobs → AreBelow (seat + length ts) (run m ts).jobs
  seated m seat [] h below = λ k x e. let lt = below k x e in omega (arith, lt)
  seated m seat (t ∷ ts) h below =
      let wider : AreBelow (suc seat) m.jobs = λ k x e. let lt = below k x e in omega (arith, lt) in
      let now = seated (happens m t) (suc seat) ts h.1 (taken (λ x. x.worker < suc seat) m seat t h.0 wider (λ x e. omega arith)) in
      λ k x e. let lt = now k x e in omega (arith, lt)

  later_traces : (m : Machine) (seat next : ℕ) (t : Event) (ts : List Event) → Takes sys limits m seat t → AreTakes sys limits (happens m t) next ts → TracesAreFirst (happens m t).jobs → TracesAreFirst (run (happens m t) ts).jobs
  later_traces m seat next t [] a h first = first
  later_traces m seat next t (u ∷ ts) a h first =
      later_traces (happens m t) next (suc next) u ts h.0 h.1
      (taken (λ x. HoldsTraceJob x → x.worker ≡ 0) (happens m t) next u h.0 first
      (λ x e p. absurd (second_no_trace sys limits m seat next t u a h.0 (subst IsTrace (job_given (happens m t) h.0.job x e) p))))

  traces : (m : Machine) (ts : List Event) → AreTakes sys limits m 0 ts → TracesAreFirst m.jobs → TracesAreFirst (run m ts).jobs
  traces m [] h first = first
  traces m (t ∷ ts) h first = later_traces m 0 1 t ts h.0 h.1 (taken (λ x. HoldsTraceJob x → x.worker ≡ 0) m 0 t h.0 first (λ x e p. refl))

  -- 3. What jobs are out after the reports.

  -- a job that is out was so before, and is that of a later seat
  record WasOut (js : List Held) (seat n : ℕ) (h : Held) : Type 0 where
    place : ℕ
    there : slice_get js place ≡ Some h
    later : seat ≤ h.worker → seat + n ≤ h.worker

  was_out : (m : Machine) (seat : ℕ) (rs : List Event) (k : ℕ) (h : Held) → AreReports sys limits m seat rs → slice_get (run m rs).jobs k ≡ Some h → WasOut m.jobs seat (length rs) h
  was_out m seat [] k h r e = record { place = k; there = e; later = λ le. omega (arith, le) }
  was_out m seat (x ∷ rs) k h r e =
      let w = was_out (happens m x) (suc seat) rs k h r.1 e in
      let f = get-filter (others seat) m.jobs w.place h (subst (λ js. slice_get js w.place ≡ Some h) (report_jobs sys limits m seat x r.0) w.there) in
      record { place = f.0; there = f.1; later = λ le. more w f.2 le (cases_lt seat h.worker) }
    where
      more : WasOut (happens m x).jobs (suc seat) (length rs) h → others seat h ≡ true → seat ≤ h.worker → (seat < h.worker) ⊎ (h.worker ≤ seat) → seat + suc (length rs) ≤ h.worker
      more w other le (inl lt) = let up = w.later (omega (arith, lt)) in omega (arith, up)
      more w other le (inr ge) = not_own seat h other (omega (arith, le, ge))

-- 4. The steps that are spent stay so.

counted : (b : Bool) (n : ℕ) → n ≤ count_if b n
counted true n = omega arith
counted false n = omega arith

spent_on : (m : Machine) (es : List Event) → m.productive ≤ (run m es).productive
spent_on m [] = omega arith
spent_on m (e ∷ es) = let here = counted (is_productive e) m.productive in let rest = spent_on (happens m e) es in omega (arith, here, rest)

no_worker : (js : List Held) (w : ℕ) → Each js (λ k h. ¬ (h.worker ≡ w)) → held_by js w ≡ None
no_worker js w none = by (held_by js w) refl
  where
    by : (g : Option Given) → held_by js w ≡ g → held_by js w ≡ None
    by None is = is
    by (Some g) is = let h = held-at js w g is in absurd (none h.place h.held h.there h.worker)

none_there : (js : List Held) → ((k : ℕ) (h : Held) → slice_get js k ≡ Some h → ⊥) → js ≡ []
none_there [] f = refl
none_there (h ∷ js) f = absurd (f 0 h refl)

module _ (sys : System) (limits : Limits) (m : Machine) (ts rs : List Event) where
  abbrev mid : Machine
  mid = run m ts

  abbrev last : Machine
  last = run (run m ts) rs

  first_traces : (m.jobs ≡ []) ⊎ (limits.steps ≤ m.productive) × ¬ TraceIsOut m → TracesAreFirst m.jobs
  first_traces (inl none) = subst TracesAreFirst (sym none) (Each-nil (λ k h. HoldsTraceJob h → h.worker ≡ 0))
  first_traces (inr s) = λ k h e p. absurd (s.1 (any-of_place HoldsTraceJob m.jobs k h e p))

  pub rest_jobs : IsAtRest limits m → AreTakes sys limits m 0 ts → AreReports sys limits (run m ts) 0 rs → HaveReported limits (run (run m ts) rs) ts rs → IsAtRest limits (run (run m ts) rs)
  rest_jobs r t p q = record { free = no_worker last.jobs 0 (λ k h e same. omega (arith, later k h e, same, q.first)); jobs = by r.jobs q.others }
    where
      later : (k : ℕ) (h : Held) → slice_get (run (run m ts) rs).jobs k ≡ Some h → length rs ≤ h.worker
      later k h e = let w = (was_out sys limits (run m ts) 0 rs k h p e).later (omega arith) in omega (arith, w)

      no_trace : ¬ TraceIsOut (run (run m ts) rs)
      no_trace out =
          let o = place_of HoldsTraceJob (run (run m ts) rs).jobs out in
          let w = was_out sys limits (run m ts) 0 rs o.0 o.1 p o.2 in
          let first = traces sys limits m ts t (first_traces r.jobs) w.place o.1 w.there o.3 in
          omega (arith, first, later o.0 o.1 o.2, q.first)

      empty : m.jobs ≡ [] → length rs ≡ length ts → (run (run m ts) rs).jobs ≡ []
      empty none all = none_there (run (run m ts) rs).jobs (λ k h e.
          let w = was_out sys limits (run m ts) 0 rs k h p e in
          let below = seated sys limits m 0 ts t (subst (AreBelow 0) (sym none) (Each-nil (λ k h. h.worker < 0))) w.place h w.there in
          omega (arith, below, later k h e, all))

      by : (m.jobs ≡ []) ⊎ (limits.steps ≤ m.productive) × ¬ TraceIsOut m → (length rs ≡ length ts) ⊎ (limits.steps ≤ (run (run m ts) rs).productive) → ((run (run m ts) rs).jobs ≡ []) ⊎ (limits.steps ≤ (run (run m ts) rs).productive) × ¬ TraceIsOut (run (run m ts) rs)
      by (inl none) (inl all) = inl (empty none all)
      by (inr s) (inl all) = inr (omega (arith, s.0, spent_on m ts, spent_on (run m ts) rs), no_trace)
      by x (inr spent) = inr (spent, no_trace)

-- Where all that took a job have reported, the next seat has none.
pub none_else : (sys : System) (limits : Limits) (m : Machine) (ts rs : List Event) (e : Event) → m.jobs ≡ [] → AreTakes sys limits m 0 ts → AreReports sys limits (run m ts) 0 rs → length rs ≡ length ts → ¬ IsReport sys limits (run (run m ts) rs) (length rs) e
none_else sys limits m ts rs e none t p all report =
    let job = holder sys limits (run (run m ts) rs) (length rs) e report in
    let h = held-at (run (run m ts) rs).jobs (length rs) job.given job.held in
    let w = was_out sys limits (run m ts) 0 rs h.place h.held p h.there in
    let below = seated sys limits m 0 ts t (subst (AreBelow 0) (sym none) (Each-nil (λ k h. h.worker < 0))) w.place h.held w.there in
    omega (arith, below, h.worker, all)
