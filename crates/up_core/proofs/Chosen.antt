-- What is chosen from the numbers is what is due in the machine that they mirror.
use Rattle.std.proofs.Common.{◌≡◌, ℕ, ◌+◌, ◌<◌, ◌≤◌, ◌↔◌, Bool, true, false, not, ◌&&◌, ◌⊎◌, inl, inr, List, [], ◌∷◌, length, nat_eq, nat_le, nat_lt, get_or, below_more, IsTrue, Option, None, Some, is_some, is_none, slice_get, refl, sym, ap, subst, ◌∙◌, arith, true≢false, Any, eqb-true, eq-eqb}
use Rattle.std.proofs.lemmas.Bool.{cases_lt, leb-true as le-from, le-leb as le-to, ltb-true, ltb-false}
use Rattle.std.proofs.lemmas.Option.{get_or_from_slice_get, slice_get-get_or}
use Rattle.std.specs.List.{list_any, count_by}
use Rattle.fo_core.specs.declared.system.System.{System}
use Rattle.up_machine.specs.declared.event.Event.{Event}
use Rattle.up_machine.specs.declared.job.Job.{Job}
use Rattle.up_machine.specs.declared.job.Job.TheVariants as J
use Rattle.up_machine.specs.declared.job.Short.TheVariants as S
use Rattle.up_machine.specs.declared.job.Task.{Task}
use Rattle.up_machine.specs.declared.job.Task.TheVariants as T
use Rattle.up_machine.specs.declared.limits.Limits.{Limits}
use Rattle.up_machine.specs.declared.limits.TheConstants.{MOST_SEEDS}
use Rattle.up_machine.specs.Due.{IsFirst, HasNone, IsRooted, IsFirstRooted, IsTrace, IsOut, IsLookDue, IsToPush, IsQuiet, IsValid, job_of, by_end, by_closed_level, by_root, by_steps, by_obligation, by_frontier, by_clause, by_quiet}
use Rattle.up_machine.specs.Machine.{Clause, Status, Ready, Out, Waiting, Done, Rooted, Obligation, Held, Machine, done_seeds, unfinished_seeds, is_done as was_done, is_done_seed as was_done_seed, is_unfinished_seed as was_open_seed}
use Rattle.up_machine.proofs.Lists.{false_is_true, both_true, first_true, second_true, any-of_place, each-of_all, all-of_each, get-lt as get-below, two_places}
use Rattle.up_core.specs.declared.state.ClauseEntry.{ClauseEntry}
use Rattle.up_core.specs.declared.state.JobEntry.{JobEntry}
use Rattle.up_core.specs.declared.state.ObligationEntry.{ObligationEntry}
use Rattle.up_core.specs.declared.state.Progress.{Progress}
use Rattle.up_core.specs.declared.state.Progress.TheVariants as P
use Rattle.up_core.specs.declared.state.State.{State}
use Rattle.up_core.specs.Choice.{IsFirstPlace, IsEmptyLevel, IsLeastEmpty, IsBest, IsBestPlace, IsChoice, has_job, has_level, is_done, is_done_seed, is_look, is_open_seed, is_push_of, is_ready, is_rooted, is_to_push, is_trace, may_rise}
use Rattle.up_core.specs.Mirror.{Pairs, IsStatusOf, IsObligationOf, IsClauseOf, IsValidPush, IsJobOf, IsMirror}
use Rattle.up_core.proofs.Pairing.{pairs-right, pairs-left, pairs-count, any-place, none-place, place-any}

pub not-true : (b : Bool) → ¬ (b ≡ true) → b ≡ false
not-true true n = absurd (n refl)
not-true false n = refl

pub not-both : {A : Type 0} (b : Bool) → b ≡ true → b ≡ false → A
not-both b t f = absurd (true≢false (sym t ∙ f))

pub some-of : {X : Type 0} (o : Option X) → is_some o ≡ true → (x : X) × (o ≡ Some x)
some-of None e = false_is_true e
some-of (Some x) e = (x, refl)

pub none-of : {X : Type 0} (o : Option X) → is_some o ≡ false → o ≡ None
none-of None e = refl
none-of (Some x) e = absurd (true≢false e)

pub true-of : (b : Bool) (P : Type 0) → IsTrue b ↔ P → b ≡ true → P
true-of true P h e = h.0 refl
true-of false P h e = false_is_true e

pub not-true-of : (b : Bool) (P : Type 0) → IsTrue b ↔ P → b ≡ false → ¬ P
not-true-of true P h e = absurd (true≢false e)
not-true-of false P h e = λ p. false_is_true (h.1 p)

-- first places of lists that correspond
module _ {X Y : Type 0} (xs : List X) (ys : List Y) (R : ℕ → X → Y → Type 0) (h : Pairs xs ys R) (P : ℕ → X → Type 0) (test : ℕ → Y → Bool)
    (to : (k : ℕ) (x : X) (y : Y) → R k x y → P k x → test k y ≡ true) (from : (k : ℕ) (x : X) (y : Y) → R k x y → test k y ≡ true → P k x) where
  pub first-some : (k : ℕ) → IsFirst ys (λ j y. test j y ≡ true) k → IsFirst xs P k
  first-some k f =
      let r = pairs-left xs ys R h k f.found f.there in
      record {
        found = r.0;
        there = r.1;
        has = from k r.0 f.found r.2 f.has;
        first = λ j x lt there p. let q = pairs-right xs ys R h j x there in f.first j q.0 lt q.1 (to j x q.0 q.2 p);
      }

  pub first-none : ((k : ℕ) (y : Y) → slice_get ys k ≡ Some y → ¬ (test k y ≡ true)) → (k : ℕ) → ¬ IsFirst xs P k
  first-none none k f = let q = pairs-right xs ys R h k f.found f.there in none k q.0 q.1 (to k f.found q.0 q.2 f.has)

-- a clause that is to be pushed may rise
pub push-may : (frontier : ℕ) (jobs : List JobEntry) (k : ℕ) (e : ClauseEntry) → is_to_push frontier jobs k e ≡ true → may_rise frontier e ≡ true
push-may frontier jobs k e t = first_true (may_rise frontier e) (not (has_job (is_push_of k) jobs)) t

-- one whose push is out isn't
pub not-out : (frontier : ℕ) (jobs : List JobEntry) (k : ℕ) (e : ClauseEntry) → not (has_job (is_push_of k) jobs) ≡ false → ¬ (is_to_push frontier jobs k e ≡ true)
not-out frontier jobs k e out t = true≢false (sym (second_true (may_rise frontier e) (not (has_job (is_push_of k) jobs)) t) ∙ out)

-- what has become of an obligation
module _ (history : List Event) where
  pub rooted-to : (p : Progress) (s : Status) → IsStatusOf history p s → IsRooted s → is_rooted p ≡ true
  rooted-to P.Ready s h r = absurd (subst IsRooted h r)
  rooted-to P.Out s h r = absurd (subst IsRooted h r)
  rooted-to P.Waiting s h r = absurd (subst IsRooted h r)
  rooted-to P.Done s h r = absurd (subst IsRooted h r)
  rooted-to (P.Rooted place) s h r = refl

  pub rooted-from : (p : Progress) (s : Status) → IsStatusOf history p s → is_rooted p ≡ true → IsRooted s
  rooted-from P.Ready s h e = false_is_true e
  rooted-from P.Out s h e = false_is_true e
  rooted-from P.Waiting s h e = false_is_true e
  rooted-from P.Done s h e = false_is_true e
  rooted-from (P.Rooted place) s h e = subst IsRooted (sym h.1) tt

  abbrev was_ready : Status → Bool
  was_ready Ready = true
  was_ready Out = false
  was_ready Waiting = false
  was_ready Done = false
  was_ready (Rooted u) = false

  ready-same : (p : Progress) (s : Status) → IsStatusOf history p s → was_ready s ≡ is_ready p
  ready-same P.Ready s h = ap was_ready h
  ready-same P.Out s h = ap was_ready h
  ready-same P.Waiting s h = ap was_ready h
  ready-same P.Done s h = ap was_ready h
  ready-same (P.Rooted place) s h = ap was_ready h.1

  pub ready-to : (p : Progress) (s : Status) → IsStatusOf history p s → s ≡ Ready → is_ready p ≡ true
  ready-to p s h e = sym (ready-same p s h) ∙ ap was_ready e

  pub ready-from : (p : Progress) (s : Status) → IsStatusOf history p s → is_ready p ≡ true → s ≡ Ready
  ready-from P.Ready s h e = h
  ready-from P.Out s h e = false_is_true e
  ready-from P.Waiting s h e = false_is_true e
  ready-from P.Done s h e = false_is_true e
  ready-from (P.Rooted place) s h e = false_is_true e

  pub done-same : (p : Progress) (s : Status) → IsStatusOf history p s → was_done s ≡ is_done p
  done-same P.Ready s h = ap was_done h
  done-same P.Out s h = ap was_done h
  done-same P.Waiting s h = ap was_done h
  done-same P.Done s h = ap was_done h
  done-same (P.Rooted place) s h = ap was_done h.1

  pub done-from : (p : Progress) (s : Status) → IsStatusOf history p s → is_done p ≡ true → s ≡ Done
  done-from P.Ready s h e = false_is_true e
  done-from P.Out s h e = false_is_true e
  done-from P.Waiting s h e = false_is_true e
  done-from P.Done s h e = h
  done-from (P.Rooted place) s h e = false_is_true e

  both-same : (a b c d : Bool) → a ≡ b → c ≡ d → (a && c) ≡ (b && d)
  both-same a b c d e f = ap (λ x. x && c) e ∙ ap (λ x. b && x) f

  pub done_seed-same : (o : Obligation) (e : ObligationEntry) → IsObligationOf history o e → was_done_seed o ≡ is_done_seed e
  done_seed-same o e h = both-same (is_none o.parent) (is_none e.parent) (was_done o.status) (is_done e.progress) (ap is_none h.parent) (done-same e.progress o.status h.status)

  pub open_seed-same : (o : Obligation) (e : ObligationEntry) → IsObligationOf history o e → was_open_seed o ≡ is_open_seed e
  open_seed-same o e h = both-same (is_none o.parent) (is_none e.parent) (not (was_done o.status)) (not (is_done e.progress)) (ap is_none h.parent) (ap not (done-same e.progress o.status h.status))

trace-to : (j : Job) → IsTrace j → is_trace j ≡ true
trace-to (J.Trace k) h = refl
trace-to _ h = absurd h

trace-from : (j : Job) → is_trace j ≡ true → IsTrace j
trace-from (J.Trace k) e = tt
trace-from J.Look e = false_is_true e
trace-from (J.Work k) e = false_is_true e
trace-from (J.Push k) e = false_is_true e

look-from : (j : Job) → is_look j ≡ true → j ≡ J.Look
look-from J.Look e = refl
look-from (J.Work k) e = false_is_true e
look-from (J.Push k) e = false_is_true e
look-from (J.Trace k) e = false_is_true e

pub push-from : (n : ℕ) (j : Job) → is_push_of n j ≡ true → j ≡ J.Push n
push-from n (J.Push k) e = ap J.Push (eqb-true k n e)
push-from n J.Look e = false_is_true e
push-from n (J.Work k) e = false_is_true e
push-from n (J.Trace k) e = false_is_true e

pub push-to : (n : ℕ) (j : Job) → j ≡ J.Push n → is_push_of n j ≡ true
push-to n j e = ap (is_push_of n) e ∙ eq-eqb n n refl

-- jobs that are out
module _ (hs : List Held) (es : List JobEntry) (h : Pairs hs es (λ k x y. IsJobOf x y)) (P : Job → Type 0) (test : Job → Bool) where
  pub job-to : ((j : Job) → P j → test j ≡ true) → Any (λ (x : Held). P (job_of x.given)) hs → has_job test es ≡ true
  job-to to any =
      let a = place-any (λ (x : Held). P (job_of x.given)) hs any in
      let r = pairs-right hs es (λ k x y. IsJobOf x y) h a.0 a.1 a.2 in
      at (has_job test es) refl (none-place (λ (e : JobEntry). test e.job) es) a.0 r.0 r.1 (to r.0.job (subst P r.2.job a.3))
    where
      at : (b : Bool) → has_job test es ≡ b → (has_job test es ≡ false → (k : ℕ) (y : JobEntry) → slice_get es k ≡ Some y → ¬ (test y.job ≡ true)) →
          (k : ℕ) (y : JobEntry) → slice_get es k ≡ Some y → test y.job ≡ true → has_job test es ≡ true
      at true is none k y there t = is
      at false is none k y there t = absurd (none is k y there t)

  pub job-from : ((j : Job) → test j ≡ true → P j) → has_job test es ≡ true → Any (λ (x : Held). P (job_of x.given)) hs
  job-from from e =
      let a = any-place (λ (x : JobEntry). test x.job) es e in
      let r = pairs-left hs es (λ k x y. IsJobOf x y) h a.place a.found a.there in
      any-of_place (λ (x : Held). P (job_of x.given)) hs a.place r.0 r.1 (subst P (sym r.2.job) (from a.found.job a.passes))

-- quiet, without the limits
module _ (sys : System) (history : List Event) (m : Machine) (s : State) (mirror : IsMirror sys history m s) where
  abbrev IsPairOf : ℕ → Obligation → ObligationEntry → Type 0
  IsPairOf k o e = IsObligationOf history o e

  abbrev IsDoneOne : Obligation → Type 0
  IsDoneOne o = o.status ≡ Done

  pub quiet-secure : ¬ (s.secure ≡ s.clauses.frontier) → ¬ IsQuiet m
  quiet-secure n h = n (sym mirror.secure ∙ h.secure ∙ mirror.frontier)

  pub quiet-open : list_any (λ (e : ObligationEntry). not (is_done e.progress)) s.obligations.items ≡ true → ¬ IsQuiet m
  quiet-open some h =
      let a = any-place (λ (e : ObligationEntry). not (is_done e.progress)) s.obligations.items some in
      let r = pairs-left m.obligations s.obligations.items IsPairOf mirror.obligations a.place a.found a.there in
      let done : r.0.status ≡ Done = each-of_all m.obligations IsDoneOne h.finished a.place r.0 r.1 in
      let p = a.found.progress in
      open_done (is_done p) (sym (done-same history p r.0.status r.2.status) ∙ ap was_done done) a.passes
    where
      open_done : (b : Bool) → b ≡ true → not b ≡ true → ⊥
      open_done true t n = true≢false (sym n)
      open_done false t n = true≢false (sym t)

  quiet-jobs : IsQuiet m → s.jobs.items ≡ []
  quiet-jobs h = empty m.jobs s.jobs.items mirror.jobs h.no_job
    where
      empty : (hs : List Held) (es : List JobEntry) → Pairs hs es (λ k x y. IsJobOf x y) → hs ≡ [] → es ≡ []
      empty [] [] p e = refl
      empty [] (y ∷ ys) p e = absurd p
      empty (x ∷ xs) es p e = cc

  pub quiet-so : s.secure ≡ s.clauses.frontier → list_any (λ (e : ObligationEntry). not (is_done e.progress)) s.obligations.items ≡ false → s.jobs.items ≡ [] → IsQuiet m
  quiet-so secure closed idle = record {
    secure = mirror.secure ∙ secure ∙ sym mirror.frontier;
    finished = all-of_each m.obligations IsDoneOne
        (λ k o there.
        let r = pairs-right m.obligations s.obligations.items IsPairOf mirror.obligations k o there in
        done-from history r.0.progress o.status r.2.status
        (is_true (is_done r.0.progress) (none-place (λ (e : ObligationEntry). not (is_done e.progress)) s.obligations.items closed k r.0 r.1)));
    no_job = none m.jobs s.jobs.items mirror.jobs idle;
  }
    where
      is_true : (b : Bool) → ¬ (not b ≡ true) → b ≡ true
      is_true true n = refl
      is_true false n = absurd (n refl)

      none : (hs : List Held) (es : List JobEntry) → Pairs hs es (λ k x y. IsJobOf x y) → es ≡ [] → hs ≡ []
      none [] es p e = refl
      none (x ∷ xs) [] p e = absurd p
      none (x ∷ xs) (y ∷ ys) p e = cc

  pub quiet-by-jobs : s.secure ≡ s.clauses.frontier → list_any (λ (e : ObligationEntry). not (is_done e.progress)) s.obligations.items ≡ false →
      (b : Bool) → b ≡ nat_eq (length s.jobs.items) 0 → IsTrue b ↔ IsQuiet m
  quiet-by-jobs secure closed b is = (
    λ t. quiet-so secure closed (empty s.jobs.items (eqb-true (length s.jobs.items) 0 (sym is ∙ t))),
    λ quiet. is ∙ eq-eqb (length s.jobs.items) 0 (ap length (quiet-jobs quiet)),
  )
    where
      empty : (es : List JobEntry) → length es ≡ 0 → es ≡ []
      empty [] e = refl
      empty (x ∷ xs) e = absurd (omega (arith, e))

module _ (sys : System) (limits : Limits) (history : List Event) (m : Machine) (s : State) (mirror : IsMirror sys history m s) where
  -- 1. the end
  pub ended-none : s.ended ≡ false → (t : Task) → ¬ by_end sys limits m t
  ended-none off T.Ended h = not-both s.ended (sym mirror.ended ∙ ap is_some h.1) off
  ended-none off _ h = absurd h

  pub ended-some : s.ended ≡ true → by_end sys limits m T.Ended
  ended-some on = some-of m.ending (mirror.ended ∙ on)

  -- 2. closed levels
  abbrev IsEntry : ℕ → Clause → ClauseEntry → Type 0
  IsEntry k c e = IsClauseOf history sys m k c e

  abbrev IsPair : ℕ → Obligation → ObligationEntry → Type 0
  IsPair k o e = IsObligationOf history o e

  abbrev IsAt : ℕ → Clause → Type 0
  IsAt i c = c.live ≡ true → ¬ (c.level ≡ i)

  empty-from : (i : ℕ) → IsEmptyLevel s.clauses.items s.secure i → HasNone m i
  empty-from i none =
      all-of_each m.clauses (IsAt i)
      (λ k c there live level.
      let r = pairs-right m.clauses s.clauses.items IsEntry mirror.clauses k c there in
      none-place (has_level i) s.clauses.items none k r.0 r.1 (both_true r.0.live (nat_eq r.0.level i) (sym r.2.live ∙ live) (eq-eqb r.0.level i (sym r.2.level ∙ level))))

  empty-to : (i : ℕ) → HasNone m i → IsEmptyLevel s.clauses.items s.secure i
  empty-to i none =
      not-true (list_any (has_level i) s.clauses.items)
      (λ some.
      let a = any-place (has_level i) s.clauses.items some in
      let r = pairs-left m.clauses s.clauses.items IsEntry mirror.clauses a.place a.found a.there in
      let e = a.found in
      each-of_all m.clauses (IsAt i) none a.place r.0 r.1 (r.2.live ∙ first_true e.live (nat_eq e.level i) a.passes) (r.2.level ∙ eqb-true e.level i (second_true e.live (nat_eq e.level i) a.passes)))

  pub closed-none : ((i : ℕ) → 1 ≤ i → i ≤ s.secure → ¬ IsEmptyLevel s.clauses.items s.secure i) → (t : Task) → ¬ by_closed_level sys limits m t
  closed-none none (T.Finish (S.Safe i)) h = none i h.low (subst (λ n. i ≤ n) mirror.secure h.high) (empty-to i h.none)
  closed-none none _ h = absurd h

  pub closed-some : (i : ℕ) → IsLeastEmpty s.clauses.items s.secure i → by_closed_level sys limits m (T.Finish (S.Safe i))
  closed-some i h = record {
    low = h.low;
    high = subst (λ n. i ≤ n) (sym mirror.secure) h.high;
    none = empty-from i h.none;
    least = λ j low lt none. h.least j low lt (empty-to j none);
  }

  -- 3. roots
  pub root-none : IsFirstPlace s.obligations.items (λ _ e. is_rooted e.progress) None → (t : Task) → ¬ by_root sys limits m t
  root-none none t h = by t h
    where
      no_first : (k : ℕ) → ¬ IsFirstRooted m k
      no_first =
          first-none m.obligations s.obligations.items IsPair mirror.obligations (λ j o. IsRooted o.status) (λ _ e. is_rooted e.progress)
          (λ k o e r p. rooted-to history e.progress o.status r.status p) (λ k o e r p. rooted-from history e.progress o.status r.status p) none

      by : (t : Task) → ¬ by_root sys limits m t
      by (T.Job (J.Trace k)) h = no_first k h.0
      by T.Idle h = no_first h.0 h.1
      by _ h = absurd h

  pub root-first : (k : ℕ) → IsFirstPlace s.obligations.items (λ _ e. is_rooted e.progress) (Some k) → IsFirstRooted m k
  root-first k first =
      first-some m.obligations s.obligations.items IsPair mirror.obligations (λ j o. IsRooted o.status) (λ _ e. is_rooted e.progress)
      (λ k o e r p. rooted-to history e.progress o.status r.status p) (λ k o e r p. rooted-from history e.progress o.status r.status p) k first

  pub root-idle : (k : ℕ) → IsFirstPlace s.obligations.items (λ _ e. is_rooted e.progress) (Some k) → has_job is_trace s.jobs.items ≡ true → by_root sys limits m T.Idle
  root-idle k first out = (k, root-first k first, job-from m.jobs s.jobs.items mirror.jobs IsTrace is_trace trace-from out)

  pub root-some : (k : ℕ) → IsFirstPlace s.obligations.items (λ _ e. is_rooted e.progress) (Some k) → has_job is_trace s.jobs.items ≡ false → by_root sys limits m (T.Job (J.Trace k))
  root-some k first off = (
    root-first k first,
    λ any. not-both (has_job is_trace s.jobs.items) (job-to m.jobs s.jobs.items mirror.jobs IsTrace is_trace trace-to any) off,
  )

  -- 4. steps
  pub spent-none : s.productive < limits.steps → (t : Task) → ¬ by_steps sys limits m t
  spent-none lt (T.Finish S.Spent) h = let e = mirror.productive in omega (arith, h)
  spent-none lt _ h = absurd h

  pub spent-some : limits.steps ≤ s.productive → by_steps sys limits m (T.Finish S.Spent)
  spent-some le = subst (λ n. limits.steps ≤ n) (sym mirror.productive) le

  -- 5. obligations
  pub work-none : IsBestPlace s.obligations.items (length s.obligations.items) None → (t : Task) → ¬ by_obligation sys limits m t
  work-none none (T.Job (J.Work k)) h =
      let r = pairs-right m.obligations s.obligations.items IsPair mirror.obligations k h.obligation h.there in
      none k r.0 (get-below s.obligations.items k r.0 r.1) r.1 (ready-to history r.0.progress h.obligation.status r.2.status h.ready)
  work-none none _ h = absurd h

  pub work-some : (k : ℕ) → IsBest s.obligations.items (length s.obligations.items) k → by_obligation sys limits m (T.Job (J.Work k))
  work-some k h =
      let r = pairs-left m.obligations s.obligations.items IsPair mirror.obligations k h.entry h.there in
      record {
        obligation = r.0;
        there = r.1;
        ready = ready-from history h.entry.progress r.0.status r.2.status h.ready;
        next = λ j o there ready.
            let q = pairs-right m.obligations s.obligations.items IsPair mirror.obligations j o there in
            lower r.0.level h.entry.level o.level q.0.level r.2.level q.2.level (h.best j q.0 (get-below s.obligations.items j q.0 q.1) q.1 (ready-to history q.0.progress o.status q.2.status ready));
      }
    where
      lower : (a b c d : ℕ) → a ≡ b → c ≡ d → {j : ℕ} → (b < d) ⊎ (b ≡ d) × (k ≤ j) → (a < c) ⊎ (a ≡ c) × (k ≤ j)
      lower a b c d e f (inl lt) = inl (omega (arith, lt))
      lower a b c d e f (inr h) = inr (e ∙ h.0 ∙ sym f, h.1)

  -- 6. the frontier
  done-is : done_seeds m ≡ count_by is_done_seed s.obligations.items
  done-is = pairs-count m.obligations s.obligations.items (IsObligationOf history) was_done_seed is_done_seed (done_seed-same history) mirror.obligations

  open-is : length (unfinished_seeds m) ≡ count_by is_open_seed s.obligations.items
  open-is = pairs-count m.obligations s.obligations.items (IsObligationOf history) was_open_seed is_open_seed (open_seed-same history) mirror.obligations

  look-out : has_job is_look s.jobs.items ≡ true → IsOut m J.Look
  look-out e = job-from m.jobs s.jobs.items mirror.jobs (λ j. j ≡ J.Look) is_look look-from e

  look-none : (IsLookDue m → ⊥) → (t : Task) → ¬ by_frontier sys limits m t
  look-none not_due (T.Job J.Look) h = not_due h
  look-none not_due _ h = absurd h

  pub look-secure : s.clauses.frontier ≤ s.secure → (t : Task) → ¬ by_frontier sys limits m t
  look-secure le = look-none (λ h. let a = h.insecure in let e = mirror.secure in let f = mirror.frontier in omega (arith, a))

  pub look-busy : has_job is_look s.jobs.items ≡ true → (t : Task) → ¬ by_frontier sys limits m t
  look-busy e = look-none (λ h. h.free (look-out e))

  pub look-calm : s.calm ≡ Some (count_by is_done_seed s.obligations.items) → (t : Task) → ¬ by_frontier sys limits m t
  look-calm e = look-none (λ h. h.stirred (mirror.calm ∙ e ∙ ap Some (sym done-is)))

  pub look-many : MOST_SEEDS ≤ count_by is_open_seed s.obligations.items → (t : Task) → ¬ by_frontier sys limits m t
  look-many le = look-none (λ h. let a = h.few in let e = open-is in omega (arith, a, e))

  pub look-some : s.secure < s.clauses.frontier → has_job is_look s.jobs.items ≡ false → ¬ (s.calm ≡ Some (count_by is_done_seed s.obligations.items)) →
      count_by is_open_seed s.obligations.items < MOST_SEEDS → by_frontier sys limits m (T.Job J.Look)
  look-some insecure free stirred few = record {
    insecure = let e = mirror.secure in let f = mirror.frontier in omega (arith, insecure);
    free = λ out. not-both (has_job is_look s.jobs.items) (job-to m.jobs s.jobs.items mirror.jobs (λ j. j ≡ J.Look) is_look (λ j e. ap is_look e) out) free;
    stirred = λ e. stirred (sym mirror.calm ∙ e ∙ ap Some done-is);
    few = let e = open-is in omega (arith, few, e);
  }

  -- 7. clauses
  out-from : (k : ℕ) → has_job (is_push_of k) s.jobs.items ≡ true → IsOut m (J.Push k)
  out-from k e = job-from m.jobs s.jobs.items mirror.jobs (λ j. j ≡ J.Push k) (is_push_of k) (push-from k) e

  out-to : (k : ℕ) → IsOut m (J.Push k) → has_job (is_push_of k) s.jobs.items ≡ true
  out-to k out = job-to m.jobs s.jobs.items mirror.jobs (λ j. j ≡ J.Push k) (is_push_of k) (push-to k) out

  push-is : (k : ℕ) (c : Clause) (e : ClauseEntry) → IsClauseOf history sys m k c e → IsToPush sys m k c → is_to_push s.clauses.frontier s.jobs.items k e ≡ true
  push-is k c e r p =
      both_true (may_rise s.clauses.frontier e) (not (has_job (is_push_of k) s.jobs.items))
      (both_true (e.live && nat_le 1 e.level && nat_le e.level s.clauses.frontier) (is_none e.failed)
      (both_true (e.live && nat_le 1 e.level) (nat_le e.level s.clauses.frontier)
      (both_true e.live (nat_le 1 e.level) (sym r.live ∙ p.live) (le-to 1 e.level (subst (λ n. 1 ≤ n) r.level p.low)))
      (le-to e.level s.clauses.frontier (subst (λ n. n ≤ s.clauses.frontier) r.level (subst (λ n. c.level ≤ n) mirror.frontier p.high))))
      (unfailed e.failed r.failed p.untried))
      (ap not (not-true (has_job (is_push_of k) s.jobs.items) (λ out. p.free (out-from k out))))
    where
      unfailed : (o : Option ℕ) → IsValidPush history sys m k c o → ¬ Any (IsValid sys m k c) m.failed → is_none o ≡ true
      unfailed None h untried = refl
      unfailed (Some place) h untried = absurd (untried (any-of_place (IsValid sys m k c) m.failed h.number h.failed h.there h.valid))

  push-so : (k : ℕ) (c : Clause) (e : ClauseEntry) → IsClauseOf history sys m k c e → is_to_push s.clauses.frontier s.jobs.items k e ≡ true → IsToPush sys m k c
  push-so k c e r t =
      let rise = first_true (may_rise s.clauses.frontier e) (not (has_job (is_push_of k) s.jobs.items)) t in
      let ranged = first_true (e.live && nat_le 1 e.level && nat_le e.level s.clauses.frontier) (is_none e.failed) rise in
      let low = first_true (e.live && nat_le 1 e.level) (nat_le e.level s.clauses.frontier) ranged in
      record {
        live = r.live ∙ first_true e.live (nat_le 1 e.level) low;
        low = subst (λ n. 1 ≤ n) (sym r.level) (le-from 1 e.level (second_true e.live (nat_le 1 e.level) low));
        high = subst (λ n. n ≤ m.frontier) (sym r.level) (subst (λ n. e.level ≤ n) (sym mirror.frontier) (le-from e.level s.clauses.frontier (second_true (e.live && nat_le 1 e.level) (nat_le e.level s.clauses.frontier) ranged)));
        untried = unfailed e.failed r.failed (second_true (e.live && nat_le 1 e.level && nat_le e.level s.clauses.frontier) (is_none e.failed) rise);
        free = λ out. is_false (has_job (is_push_of k) s.jobs.items) (out-to k out) (second_true (may_rise s.clauses.frontier e) (not (has_job (is_push_of k) s.jobs.items)) t);
      }
    where
      unfailed : (o : Option ℕ) → IsValidPush history sys m k c o → is_none o ≡ true → ¬ Any (IsValid sys m k c) m.failed
      unfailed None h e = h
      unfailed (Some place) h e = false_is_true e

      is_false : (b : Bool) → b ≡ true → not b ≡ true → ⊥
      is_false true t n = true≢false (sym n)
      is_false false t n = true≢false (sym t)

  pub push-none : IsFirstPlace s.clauses.items (is_to_push s.clauses.frontier s.jobs.items) None → (t : Task) → ¬ by_clause sys limits m t
  push-none none (T.Job (J.Push k)) h = first-none m.clauses s.clauses.items IsEntry mirror.clauses (IsToPush sys m) (is_to_push s.clauses.frontier s.jobs.items) push-is push-so none k h
  push-none none _ h = absurd h

  pub push-some : (k : ℕ) → IsFirstPlace s.clauses.items (is_to_push s.clauses.frontier s.jobs.items) (Some k) → by_clause sys limits m (T.Job (J.Push k))
  push-some k first = first-some m.clauses s.clauses.items IsEntry mirror.clauses (IsToPush sys m) (is_to_push s.clauses.frontier s.jobs.items) push-is push-so k first

  -- 8. quiet
  pub quiet-none : ¬ IsQuiet m → (t : Task) → ¬ by_quiet sys limits m t
  quiet-none n T.Advance h = n h.0
  quiet-none n (T.Finish S.Bounded) h = n h.0
  quiet-none n _ h = absurd h

  pub quiet-more : IsQuiet m → s.clauses.frontier < limits.frames → by_quiet sys limits m T.Advance
  quiet-more quiet lt = (quiet, subst (λ n. n < limits.frames) (sym mirror.frontier) lt)

  pub quiet-bounded : IsQuiet m → limits.frames ≤ s.clauses.frontier → by_quiet sys limits m (T.Finish S.Bounded)
  quiet-bounded quiet le = (quiet, subst (λ n. limits.frames ≤ n) (sym mirror.frontier) le)

-- where a rule gave no task
pub no-choice : (rule : Task → Type 0) (o : Option Task) → ((t : Task) → ¬ (o ≡ Some t)) → IsChoice rule o → (t : Task) → ¬ rule t
no-choice rule None none h = h
no-choice rule (Some t) none h = absurd (none t refl)

-- one more obligation is looked at
module _ (es : List ObligationEntry) (many best : ℕ) (d e : ObligationEntry) (lt : many < length es) (h : IsBest es many best) (low : best ≤ many) where
  abbrev new : ObligationEntry
  new = get_or es many d

  old-is : get_or es best e ≡ h.entry
  old-is = get_or_from_slice_get es best h.entry e h.there

  new-there : slice_get es many ≡ Some new
  new-there = slice_get-get_or es many d lt

  abbrev IsLower : ℕ → ℕ → ℕ → Type 0
  IsLower level k j = (x : ObligationEntry) → slice_get es j ≡ Some x → is_ready x.progress ≡ true → (level < x.level) ⊎ (level ≡ x.level) × (k ≤ j)

  pub best-new : (is_ready new.progress && nat_lt new.level (get_or es best e).level) ≡ true → IsBest es (many + 1) many
  best-new t =
      let less = ltb-true new.level (get_or es best e).level (second_true (is_ready new.progress) (nat_lt new.level (get_or es best e).level) t) in
      record {
        entry = new;
        there = new-there;
        ready = first_true (is_ready new.progress) (nat_lt new.level (get_or es best e).level) t;
        best = λ j x below there ready.
            below_more (IsLower new.level many) many (λ j lt x there ready. inl (before (subst (λ (y : ObligationEntry). new.level < y.level) old-is less) x.level j (h.best j x lt there ready)))
            (λ x there ready. inr (ap (λ (y : ObligationEntry). y.level) (two_places es many new x new-there there), omega arith)) j below x there ready;
      }
    where
      before : new.level < h.entry.level → (n j : ℕ) → (h.entry.level < n) ⊎ (h.entry.level ≡ n) × (best ≤ j) → new.level < n
      before less n j (inl a) = omega (arith, less, a)
      before less n j (inr a) = omega (arith, less, a.0)

  pub best-old : (is_ready new.progress && nat_lt new.level (get_or es best e).level) ≡ false → IsBest es (many + 1) best
  best-old f = record {
    entry = h.entry;
    there = h.there;
    ready = h.ready;
    best = λ j x below there ready.
        below_more (IsLower h.entry.level best) many (λ j lt x there ready. h.best j x lt there ready)
        (λ x there ready.
        let same = two_places es many new x new-there there in
        at x.level (not_lower (is_ready new.progress) (nat_lt new.level (get_or es best e).level) (subst (λ (y : ObligationEntry). is_ready y.progress ≡ true) (sym same) ready) f) (ap (λ (y : ObligationEntry). y.level) same)) j below x there ready;
  }
    where
      not_lower : (a b : Bool) → a ≡ true → (a && b) ≡ false → b ≡ false
      not_lower true b t f = f
      not_lower false b t f = false_is_true t

      order : (a b : ℕ) → a ≤ b → (a < b) ⊎ (a ≡ b) × (best ≤ many)
      order a b le = by (cases_lt a b)
        where
          by : (a < b) ⊎ (b ≤ a) → (a < b) ⊎ (a ≡ b) × (best ≤ many)
          by (inl x) = inl x
          by (inr x) = inr (omega (arith, x, le), low)

      at : (n : ℕ) → nat_lt new.level (get_or es best e).level ≡ false → new.level ≡ n → (h.entry.level < n) ⊎ (h.entry.level ≡ n) × (best ≤ many)
      at n no_less is =
          order h.entry.level n
          (let le = ltb-false new.level (get_or es best e).level no_less in let o = ap (λ (y : ObligationEntry). y.level) old-is in omega (arith, le, o, is))
