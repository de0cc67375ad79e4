-- The numbers after an event are those of the machine after it.
use Rattle.std.proofs.Common.{◌≡◌, ℕ, zero, suc, ◌+◌, Bool, true, not, List, [], ◌∷◌, ◌++◌, find, nat_eq, Option, None, Some, is_some, refl, sym, ap, subst, ◌∙◌, arith}
use Rattle.std.specs.List.{count_by}
use Rattle.std.specs.Option.{option_and_then, option_map_or}
use Rattle.std.specs.Prelude.{option_map}
use Rattle.fo_core.specs.declared.system.System.{System}
use Rattle.up_machine.specs.declared.end.End.{End}
use Rattle.up_machine.specs.declared.end.End.TheVariants as N
use Rattle.up_machine.specs.declared.event.Event.{Event}
use Rattle.up_machine.specs.declared.event.Event.TheVariants as E
use Rattle.up_machine.specs.declared.event.Why.{Why}
use Rattle.up_machine.specs.declared.event.Why.TheVariants as Y
use Rattle.up_machine.specs.declared.job.Job.{Job}
use Rattle.up_machine.specs.declared.job.Job.TheVariants as J
use Rattle.up_machine.specs.declared.job.Short.{Short}
use Rattle.up_machine.specs.declared.job.Short.TheVariants as S
use Rattle.up_machine.specs.declared.job.Task.TheVariants as T
use Rattle.up_machine.specs.declared.limits.Limits.{Limits}
use Rattle.up_machine.specs.Due.{IsDue, job_of}
use Rattle.up_machine.specs.Finding.{HoldsWork}
use Rattle.up_machine.specs.Legal.{MayReturn}
use Rattle.up_machine.specs.Machine.{Status, Ready, Out, Done, Obligation, Given, Work, Look, Push, Trace, Held, Machine, is_done_seed as was_done_seed, held_by}
use Rattle.up_machine.specs.Replay.{change_at, with_status, set_status, parent_of, wake, finish, given_for, given_work, given_push, given_trace, obligations_after, released, after_event, happens}
use Rattle.up_machine.specs.Rounds.{end_of}
use Rattle.up_machine.proofs.Dues.{due_work, due_push, due_trace}
use Rattle.up_machine.proofs.FrameEvents.{returned_job}
use Rattle.up_machine.proofs.Lists.{mapped_some}
use Rattle.up_core.specs.declared.state.ClauseEntry.{ClauseEntry}
use Rattle.up_core.specs.declared.state.JobEntry.{JobEntry}
use Rattle.up_core.specs.declared.state.ObligationEntry.{ObligationEntry}
use Rattle.up_core.specs.declared.state.Progress.{Progress}
use Rattle.up_core.specs.declared.state.Progress.TheVariants as P
use Rattle.up_core.specs.declared.state.State.{State}
use Rattle.up_core.specs.Becoming.{IsState}
use Rattle.up_core.specs.Choice.{is_done_seed}
use Rattle.up_core.specs.Known.{IsJobEnd}
use Rattle.up_core.specs.Mirror.{Pairs, IsStatusOf, IsObligationOf, IsClauseOf, IsDoneAt, IsJobOf, IsMirror}
use Rattle.up_core.specs.Steps.{change_where, with_progress, parent_in, finished, entry_of, work_of_job, push_of_job, work_in, push_in, others_of, calm_of}
use Rattle.up_core.proofs.Chosen.{done_seed-same}
use Rattle.up_core.proofs.Grown.{obligations-stay, clauses-kept}
use Rattle.up_core.proofs.Pairing.{pairs-push, pairs-both, pairs-filter, pairs-find, pairs-count}

-- tests of workers agree
worker-same : (w : ℕ) (h : Held) (e : JobEntry) → IsJobOf h e → nat_eq h.worker w ≡ nat_eq e.worker w
worker-same w h e j = ap (λ n. nat_eq n w) j.worker

pub jobs-released : (w : ℕ) (hs : List Held) (es : List JobEntry) → Pairs hs es (λ k h e. IsJobOf h e) → Pairs (released w hs) (others_of w es) (λ k h e. IsJobOf h e)
jobs-released w hs es h = pairs-filter hs es IsJobOf (λ (x : Held). not (nat_eq x.worker w)) (λ (e : JobEntry). not (nat_eq e.worker w)) (λ x e j. ap not (worker-same w x e j)) h

-- the entry of what a worker holds
pub record HasEntry (w : ℕ) (g : Given) (es : List JobEntry) : Type 0 where
  pub entry : JobEntry
  pub there : entry_of w es ≡ Some entry
  pub job : job_of g ≡ entry.job
  pub done : IsDoneAt g entry.done

pub has-entry : (w : ℕ) (g : Given) (hs : List Held) (es : List JobEntry) → Pairs hs es (λ k h e. IsJobOf h e) → held_by hs w ≡ Some g → HasEntry w g es
has-entry w g hs es p held =
    let found = mapped_some (λ (h : Held). h.given) (find (λ (h : Held). nat_eq h.worker w) hs) g held in
    let r = pairs-find hs es IsJobOf (λ (h : Held). nat_eq h.worker w) (λ (e : JobEntry). nat_eq e.worker w) (worker-same w) p found.0 found.1 in
    record {
      entry = r.0;
      there = r.1;
      job = sym (ap job_of found.2) ∙ r.2.job;
      done = subst (λ x. IsDoneAt x r.0.done) found.2 r.2.done;
    }

pub work-is : (w : ℕ) (g : Given) (es : List JobEntry) → HasEntry w g es → work_in w es ≡ work_of_job (job_of g)
work-is w g es h = ap (option_and_then (λ (e : JobEntry). work_of_job e.job)) h.there ∙ ap work_of_job (sym h.job)

pub push-is : (w : ℕ) (g : Given) (es : List JobEntry) → HasEntry w g es → push_in w es ≡ push_of_job (job_of g)
push-is w g es h = ap (option_and_then (λ (e : JobEntry). push_of_job e.job)) h.there ∙ ap push_of_job (sym h.job)

-- obligations, as the history goes on
module _ (history : List Event) (event : Event) where
  abbrev more : List Event
  more = history ++ event ∷ []

  abbrev Are : List Event → List Obligation → List ObligationEntry → Type 0
  Are seen os es = Pairs os es (λ k o e. IsObligationOf seen o e)

  -- an obligation's status changes with the entry's
  status-set : (seen : List Event) (k : ℕ) (s : Status) (p : Progress) (os : List Obligation) (es : List ObligationEntry) → IsStatusOf seen p s → Are seen os es →
      Are seen (set_status s k os) (change_at k (with_progress p) es)
  status-set seen k s p os es is h =
      pairs-both os es (λ j o e. IsObligationOf seen o e) (λ j o e. IsObligationOf seen o e) k (with_status s) (with_progress p) h (λ j o e r. r)
      (λ o e r. record { level = r.level; world = r.world; parent = r.parent; status = is })

  parent-same : (seen : List Event) (k : ℕ) (os : List Obligation) (es : List ObligationEntry) → Are seen os es → parent_of os k ≡ parent_in es (Some k)
  parent-same seen k [] [] h = refl
  parent-same seen k [] (e ∷ es) h = absurd h
  parent-same seen k (o ∷ os) [] h = absurd h
  parent-same seen zero (o ∷ os) (e ∷ es) h = h.0.parent
  parent-same seen (suc k) (o ∷ os) (e ∷ es) h = parent-same seen k os es h.1

  wake-same : (seen : List Event) (p : Option ℕ) (os : List Obligation) (es : List ObligationEntry) → Are seen os es → Are seen (wake p os) (change_where p (with_progress P.Ready) es)
  wake-same seen None os es h = h
  wake-same seen (Some p) os es h = status-set seen p Ready P.Ready os es refl h

  pub finish-same : (k : ℕ) (os : List Obligation) (es : List ObligationEntry) → Are history os es → Are more (finish k os) (finished (Some k) es)
  finish-same k os es h =
      let now = obligations-stay history event os es h in
      let done = status-set more k Done P.Done os es refl now in
      subst (λ p. Are more (wake (parent_of os k) (set_status Done k os)) (change_where p (with_progress P.Ready) (change_at k (with_progress P.Done) es))) (parent-same more k os es now)
      (wake-same more (parent_of os k) (set_status Done k os) (change_at k (with_progress P.Done) es) done)

  pub set-same : (k : ℕ) (s : Status) (p : Progress) (os : List Obligation) (es : List ObligationEntry) → IsStatusOf more p s → Are history os es →
      Are more (set_status s k os) (change_at k (with_progress p) es)
  set-same k s p os es is h = status-set more k s p os es is (obligations-stay history event os es h)

-- a taken work is out
take-obligations : (history : List Event) (event : Event) (w : ℕ) (g : Given) (n : ℕ) (os : List Obligation) (es : List ObligationEntry) → Are history event history os es →
    Are history event (more history event) (obligations_after (E.Take w (job_of g)) (Some g) n os) (change_where (work_of_job (job_of g)) (with_progress P.Out) es)
take-obligations history event w (Work k level below world) n os es h = set-same history event k Out P.Out os es refl h
take-obligations history event w (Look level cubes avoid done) n os es h = obligations-stay history event os es h
take-obligations history event w (Push k level cubes cube) n os es h = obligations-stay history event os es h
take-obligations history event w (Trace k steps) n os es h = obligations-stay history event os es h

-- a work that is put back is ready
back-obligations : (history : List Event) (event : Event) (w : ℕ) (why : Why) (g : Given) (n : ℕ) (os : List Obligation) (es : List ObligationEntry) → Are history event history os es →
    Are history event (more history event) (obligations_after (E.Return w why) (Some g) n os) (change_where (work_of_job (job_of g)) (with_progress P.Ready) es)
back-obligations history event w why (Work k level below world) n os es h = set-same history event k Ready P.Ready os es refl h
back-obligations history event w why (Look level cubes avoid done) n os es h = obligations-stay history event os es h
back-obligations history event w why (Push k level cubes cube) n os es h = obligations-stay history event os es h
back-obligations history event w why (Trace k steps) n os es h = obligations-stay history event os es h

pub one-more : (n p : ℕ) → n ≡ p → suc n ≡ p + 1
one-more n p e = omega (arith, e)

module _ (sys : System) (history : List Event) (m : Machine) (s t : State) (mirror : IsMirror sys history m s) where
  -- the machine that comes of an event keeps its clauses
  abbrev ClausesKept : Event → Machine → Type 0
  ClausesKept e n = Pairs n.clauses s.clauses.items (λ k c x. IsClauseOf (history ++ e ∷ []) sys n k c x)

  pub kept : (e : Event) (n : Machine) → n.clauses ≡ m.clauses → n.failed ≡ m.failed → ClausesKept e n
  kept e n clauses failed = clauses-kept history e sys m n clauses failed s.clauses.items mirror.clauses

  abbrev IsNext : Event → Machine → Type 0
  IsNext e n = IsMirror sys (history ++ e ∷ []) n t

  -- the numbers are put together
  pub together : (e : Event) (n : Machine) {cs : List ClauseEntry} {os : List ObligationEntry} {js : List JobEntry} {frontier secure : ℕ} {calm : Option ℕ} {productive : ℕ} {ended : Bool} →
      IsState t cs os js frontier secure calm productive ended →
      Pairs n.clauses cs (λ k c x. IsClauseOf (history ++ e ∷ []) sys n k c x) → Are history e (history ++ e ∷ []) n.obligations os → Pairs n.jobs js (λ k h x. IsJobOf h x) →
      n.frontier ≡ frontier → n.secure ≡ secure → n.calm ≡ calm → n.productive ≡ productive → is_some n.ending ≡ ended → IsNext e n
  together e n is clauses obligations jobs frontier secure calm productive ended = record {
    clauses = subst (λ xs. Pairs n.clauses xs (λ k c x. IsClauseOf (history ++ e ∷ []) sys n k c x)) (sym is.clauses_are) clauses;
    obligations = subst (λ xs. Are history e (history ++ e ∷ []) n.obligations xs) (sym is.obligations_are) obligations;
    jobs = subst (λ xs. Pairs n.jobs xs (λ k h x. IsJobOf h x)) (sym is.jobs_are) jobs;
    frontier = frontier ∙ sym is.frontier_is;
    secure = secure ∙ sym is.secure_is;
    calm = calm ∙ sym is.calm_is;
    productive = productive ∙ sym is.productive_is;
    ended = ended ∙ sym is.ended_is;
  }

  same-obligations : (e : Event) → Are history e (history ++ e ∷ []) m.obligations s.obligations.items
  same-obligations e = obligations-stay history e m.obligations s.obligations.items mirror.obligations

  pub left-jobs : (w : ℕ) → Pairs (released w m.jobs) (others_of w s.jobs.items) (λ k h x. IsJobOf h x)
  left-jobs w = jobs-released w m.jobs s.jobs.items mirror.jobs

  -- Advance
  pub advance-next : (w : ℕ) → IsState t s.clauses.items s.obligations.items s.jobs.items (s.clauses.frontier + 1) s.secure None (s.productive + 1) s.ended →
      IsNext (E.Advance w) (happens m (E.Advance w))
  advance-next w is =
      let e = E.Advance w in
      let n = happens m e in
      together e n is (kept e n refl refl) (same-obligations e) mirror.jobs (one-more m.frontier s.clauses.frontier mirror.frontier) mirror.secure refl (one-more m.productive s.productive mirror.productive) mirror.ended

  -- Close without a job
  pub finish-next : (w : ℕ) (short : Short) → IsState t s.clauses.items s.obligations.items s.jobs.items s.clauses.frontier s.secure s.calm s.productive true →
      IsNext (E.Close w (end_of short)) (happens m (E.Close w (end_of short)))
  finish-next w (S.Safe i) is = let e = E.Close w (N.Safe i) in let n = happens m e in together e n is (kept e n refl refl) (same-obligations e) mirror.jobs mirror.frontier mirror.secure mirror.calm mirror.productive refl
  finish-next w S.Bounded is = let e = E.Close w N.Bounded in let n = happens m e in together e n is (kept e n refl refl) (same-obligations e) mirror.jobs mirror.frontier mirror.secure mirror.calm mirror.productive refl
  finish-next w S.Spent is = let e = E.Close w N.Spent in let n = happens m e in together e n is (kept e n refl refl) (same-obligations e) mirror.jobs mirror.frontier mirror.secure mirror.calm mirror.productive refl

  -- Secure
  pub secure-next : (w : ℕ) → IsState t s.clauses.items s.obligations.items (others_of w s.jobs.items) s.clauses.frontier s.clauses.frontier s.calm (s.productive + 1) s.ended →
      IsNext (E.Secure w) (happens m (E.Secure w))
  secure-next w is =
      let e = E.Secure w in
      let n = happens m e in
      together e n is (kept e n refl refl) (same-obligations e) (left-jobs w) mirror.frontier mirror.frontier mirror.calm (one-more m.productive s.productive mirror.productive) mirror.ended

  -- Drop
  pub drop-next : (w k : ℕ) (work : HoldsWork m w) →
      IsState t s.clauses.items (finished (work_in w s.jobs.items) s.obligations.items) (others_of w s.jobs.items) s.clauses.frontier s.secure s.calm (s.productive + 1) s.ended →
      IsNext (E.Drop w k) (happens m (E.Drop w k))
  drop-next w k work is =
      let e = E.Drop w k in
      let g = Work work.obligation work.level work.below work.world in
      let n = after_event e (Some g) m in
      let entry = has-entry w g m.jobs s.jobs.items mirror.jobs work.held in
      let obligations = subst (λ o. Are history e (history ++ e ∷ []) n.obligations (finished o s.obligations.items)) (sym (work-is w g s.jobs.items entry)) (finish-same history e work.obligation m.obligations s.obligations.items mirror.obligations) in
      subst (λ j. IsNext e (after_event e j m)) (sym work.held)
      (together e n is (kept e n refl refl) obligations (left-jobs w) mirror.frontier mirror.secure mirror.calm (one-more m.productive s.productive mirror.productive) mirror.ended)

  abbrev IsPutBack : ℕ → Why → Type 0
  IsPutBack w why =
      IsState t s.clauses.items (change_where (work_in w s.jobs.items) (with_progress P.Ready) s.obligations.items) (others_of w s.jobs.items) s.clauses.frontier s.secure (calm_of why w s.jobs.items s.calm) s.productive s.ended

  -- Return
  back-next : (w : ℕ) (why : Why) (g : Given) → held_by m.jobs w ≡ Some g → (after_event (E.Return w why) (Some g) m).calm ≡ calm_of why w s.jobs.items s.calm → IsPutBack w why →
      IsNext (E.Return w why) (happens m (E.Return w why))
  back-next w why g held calm is =
      let e = E.Return w why in
      let n = after_event e (Some g) m in
      let entry = has-entry w g m.jobs s.jobs.items mirror.jobs held in
      let obligations = subst (λ o. Are history e (history ++ e ∷ []) n.obligations (change_where o (with_progress P.Ready) s.obligations.items)) (sym (work-is w g s.jobs.items entry)) (back-obligations history e w why g m.frontier m.obligations s.obligations.items mirror.obligations) in
      subst (λ j. IsNext e (after_event e j m)) (sym held)
      (together e n is (kept e n refl refl) obligations (left-jobs w) mirror.frontier mirror.secure calm mirror.productive mirror.ended)

  pub return-next : (limits : Limits) (w : ℕ) (why : Why) → MayReturn sys limits m w why → IsPutBack w why → IsNext (E.Return w why) (happens m (E.Return w why))
  return-next limits w (Y.Refuted p k) may is = let job = returned_job sys limits m w (Y.Refuted p k) may in back-next w (Y.Refuted p k) job.given job.held mirror.calm is
  return-next limits w Y.NoMore may is =
      let look = may.look in
      let g = Look look.level look.frame look.avoid look.done in
      let entry = has-entry w g m.jobs s.jobs.items mirror.jobs look.held in
      back-next w Y.NoMore g look.held (ap Some entry.done ∙ sym (ap (λ o. option_map_or (λ (e : JobEntry). Some e.done) o s.calm) entry.there)) is
  return-next limits w Y.Spent may is = back-next w Y.Spent may.job.given may.job.held mirror.calm is
  return-next limits w Y.NoMemory may is = back-next w Y.NoMemory may.given may.held mirror.calm is

  -- Close by a job
  pub close-next : (w : ℕ) (end : End) → IsJobEnd end → IsState t s.clauses.items s.obligations.items (others_of w s.jobs.items) s.clauses.frontier s.secure s.calm s.productive true →
      IsNext (E.Close w end) (happens m (E.Close w end))
  close-next w (N.Unsafe run) job is = let e = E.Close w (N.Unsafe run) in let n = happens m e in together e n is (kept e n refl refl) (same-obligations e) (left-jobs w) mirror.frontier mirror.secure mirror.calm mirror.productive refl
  close-next w N.NoUniversal job is = let e = E.Close w N.NoUniversal in let n = happens m e in together e n is (kept e n refl refl) (same-obligations e) (left-jobs w) mirror.frontier mirror.secure mirror.calm mirror.productive refl
  close-next w (N.Over kind excess) job is = let e = E.Close w (N.Over kind excess) in let n = happens m e in together e n is (kept e n refl refl) (same-obligations e) (left-jobs w) mirror.frontier mirror.secure mirror.calm mirror.productive refl
  close-next w (N.Safe i) job is = absurd job
  close-next w N.Bounded job is = absurd job
  close-next w N.Spent job is = absurd job

  -- what is taken is there
  pub record IsTaken (job : Job) : Type 0 where
    pub given : Given
    pub is : given_for m job ≡ Some given
    pub job_is : job_of given ≡ job
    pub done : IsDoneAt given (count_by is_done_seed s.obligations.items)

  pub is-taken : (limits : Limits) (job : Job) → IsDue sys limits m (T.Job job) → IsTaken job
  is-taken limits (J.Work k) due =
      let h = due_work sys limits m k due in
      record { given = given_work m.clauses k h.obligation; is = ap (option_map (given_work m.clauses k)) h.there; job_is = refl; done = tt }
  is-taken limits J.Look due = record {
    given = _;
    is = refl;
    job_is = refl;
    done = pairs-count m.obligations s.obligations.items (IsObligationOf history) was_done_seed is_done_seed (done_seed-same history) mirror.obligations;
  }
  is-taken limits (J.Push k) due =
      let h = due_push sys limits m k due in
      record { given = given_push m.clauses k h.found; is = ap (option_map (given_push m.clauses k)) h.there; job_is = refl; done = tt }
  is-taken limits (J.Trace k) due =
      let h = due_trace sys limits m k due in
      record { given = given_trace m.frontier k h.found; is = ap (option_map (given_trace m.frontier k)) h.there; job_is = refl; done = tt }

  -- Take
  pub take-next : (w : ℕ) (job : Job) → IsTaken job →
      IsState t s.clauses.items (change_where (work_of_job job) (with_progress P.Out) s.obligations.items)
      (s.jobs.items ++ record { worker = w; job = job; done = count_by is_done_seed s.obligations.items } ∷ []) s.clauses.frontier s.secure s.calm s.productive s.ended →
      IsNext (E.Take w job) (happens m (E.Take w job))
  take-next w job taken is =
      let e = E.Take w job in
      let g = taken.given in
      let n = after_event e (Some g) m in
      let obligations = subst (λ j. Are history e (history ++ e ∷ []) (obligations_after (E.Take w j) (Some g) m.frontier m.obligations) (change_where (work_of_job j) (with_progress P.Out) s.obligations.items)) taken.job_is (take-obligations history e w g m.frontier m.obligations s.obligations.items mirror.obligations) in
      let jobs = pairs-push m.jobs s.jobs.items (λ k h x. IsJobOf h x) (record { worker = w; given = g }) (record { worker = w; job = job; done = count_by is_done_seed s.obligations.items }) mirror.jobs (record { worker = refl; job = taken.job_is; done = taken.done }) in
      subst (λ j. IsNext e (after_event e j m)) (sym taken.is)
      (together e n is (kept e n refl refl) obligations jobs mirror.frontier mirror.secure mirror.calm mirror.productive mirror.ended)
