-- Takes leave what jobs would be given.
use Rattle.std.proofs.Common.{◌≡◌, ℕ, zero, suc, Bool, true, false, cond, ◌&&◌, not, nat_eq, List, [], ◌∷◌, ◌++◌, map, filter, find, length, Option, None, Some, is_none, slice_get, refl, sym, ap, subst, ◌∙◌, eq-eqb}
use Rattle.std.specs.Prelude.{option_map}
use Rattle.fo_core.specs.declared.system.System.{System}
use Rattle.up_machine.specs.declared.event.Event.{Event}
use Rattle.up_machine.specs.declared.event.Event.TheVariants as E
use Rattle.up_machine.specs.declared.job.Job.{Job}
use Rattle.up_machine.specs.declared.job.Job.TheVariants as J
use Rattle.up_machine.specs.declared.job.Task.TheVariants as T
use Rattle.up_machine.specs.declared.limits.Limits.{Limits}
use Rattle.up_machine.specs.Due.{IsDue, job_of}
use Rattle.up_machine.specs.Legal.{IsLegal, AreLegal, Legal}
use Rattle.up_machine.specs.Machine.{Clause, Ready, Out, Obligation, Given, Look, Held, Machine, start, cubes_from, is_done, is_done_seed, is_unfinished_seed, to_avoid, done_seeds, held_by}
use Rattle.up_machine.specs.Replay.{change_at, with_status, set_status, given_work, given_push, given_trace, given_for, worker_of, jobs_after, obligations_after, happens, run, replay}
use Rattle.up_machine.specs.Sound.{Each}
use Rattle.up_machine.proofs.Dues.{due_work}
use Rattle.up_machine.proofs.Histories.{run-append, legal-rest}
use Rattle.up_machine.proofs.Holding.{run-held}
use Rattle.up_machine.proofs.Lists.{some_injective, none_is_some, two_places}
use Rattle.up_core.specs.Taking.{IsTakeOfOther, HasOnlyTakesSince}

-- what a change at a place leaves of each element is read alike
read-changed : {X Z : Type 0} (f : X → Z) (g : X → X) → ((x : X) → f (g x) ≡ f x) → (k : ℕ) (xs : List X) (i : ℕ) → option_map f (slice_get (change_at k g xs) i) ≡ option_map f (slice_get xs i)
read-changed f g same k [] i = refl
read-changed f g same zero (x ∷ xs) zero = ap Some (same x)
read-changed f g same zero (x ∷ xs) (suc i) = refl
read-changed f g same (suc k) (x ∷ xs) zero = refl
read-changed f g same (suc k) (x ∷ xs) (suc i) = read-changed f g same k xs i

-- a change of one element that passes a test as before
module _ {X Z : Type 0} (f : X → Z) (g : X → X) (test : X → Bool) (same : (x : X) → f (g x) ≡ f x) where
  here-step : (x : X) (xs : List X) (a b : Bool) → a ≡ b → map f (cond a (g x ∷ xs) xs) ≡ map f (cond b (x ∷ xs) xs)
  here-step x xs a b e = ap (λ c. map f (cond c (g x ∷ xs) xs)) e ∙ one b
    where
      one : (b : Bool) → map f (cond b (g x ∷ xs) xs) ≡ map f (cond b (x ∷ xs) xs)
      one true = ap (λ z. z ∷ map f xs) (same x)
      one false = refl

  there-step : (x : X) (xs ys : List X) (b : Bool) → map f xs ≡ map f ys → map f (cond b (x ∷ xs) xs) ≡ map f (cond b (x ∷ ys) ys)
  there-step x xs ys true e = ap (λ zs. f x ∷ zs) e
  there-step x xs ys false e = e

  kept-changed : (k : ℕ) (xs : List X) → ((x : X) → slice_get xs k ≡ Some x → test (g x) ≡ test x) → map f (filter test (change_at k g xs)) ≡ map f (filter test xs)
  kept-changed k [] passes = refl
  kept-changed zero (x ∷ xs) passes = here-step x (filter test xs) (test (g x)) (test x) (passes x refl)
  kept-changed (suc k) (x ∷ xs) passes = there-step x (filter test (change_at k g xs)) (filter test xs) (test x) (kept-changed k xs passes)

length-map : {X Z : Type 0} (f : X → Z) (xs : List X) → length (map f xs) ≡ length xs
length-map f [] = refl
length-map f (x ∷ xs) = ap suc (length-map f xs)

-- what jobs would be given is the same
abbrev AreAlike : Machine → Machine → Type 0
AreAlike n m = (job : Job) → given_for n job ≡ given_for m job

module _ (sys : System) (limits : Limits) (m : Machine) where
  -- the obligations as another status is set of one that is ready
  module _ (k : ℕ) (n : Machine) (clauses : n.clauses ≡ m.clauses) (frontier : n.frontier ≡ m.frontier) (obligations : n.obligations ≡ set_status Out k m.obligations) (ready : (o : Obligation) → slice_get m.obligations k ≡ Some o → o.status ≡ Ready) where
    abbrev out : List Obligation
    out = set_status Out k m.obligations

    avoid-same : map (λ (o : Obligation). o.world) (filter (λ o. is_unfinished_seed o && nat_eq o.level m.frontier) out) ≡ to_avoid m
    avoid-same =
        kept-changed (λ (o : Obligation). o.world) (with_status Out) (λ o. is_unfinished_seed o && nat_eq o.level m.frontier) (λ o. refl) k m.obligations
        (λ o there. ap (λ s. (is_none o.parent && not (is_done s)) && nat_eq o.level m.frontier) (sym (ready o there)))

    done-same : length (filter is_done_seed out) ≡ done_seeds m
    done-same =
        sym (length-map (λ (o : Obligation). o.world) (filter is_done_seed out))
        ∙ ap length (kept-changed (λ (o : Obligation). o.world) (with_status Out) is_done_seed (λ o. refl) k m.obligations (λ o there. ap (λ s. is_none o.parent && is_done s) (sym (ready o there))))
        ∙ length-map (λ (o : Obligation). o.world) (filter is_done_seed m.obligations)

    -- the same machine, with its parts as they are told
    abbrev like : List Clause → ℕ → List Obligation → Machine
    like cs i os = record { clauses = cs; frontier = i; secure = m.secure; obligations = os; failed = m.failed; jobs = m.jobs; calm = m.calm; productive = m.productive; ending = m.ending }

    by-parts : (a : Machine) (job : Job) → given_for a job ≡ given_for (like a.clauses a.frontier a.obligations) job
    by-parts a (J.Work i) = refl
    by-parts a J.Look = refl
    by-parts a (J.Push i) = refl
    by-parts a (J.Trace i) = refl

    out-same : (job : Job) → given_for (like m.clauses m.frontier out) job ≡ given_for m job
    out-same (J.Work i) = read-changed (given_work m.clauses i) (with_status Out) (λ o. refl) k m.obligations i
    out-same J.Look =
        ap (λ avoid. Some (Look m.frontier (cubes_from m.clauses m.frontier) avoid (length (filter is_done_seed out)))) avoid-same
        ∙ ap (λ done. Some (Look m.frontier (cubes_from m.clauses m.frontier) (to_avoid m) done)) done-same
    out-same (J.Push i) = refl
    out-same (J.Trace i) = read-changed (given_trace m.frontier i) (with_status Out) (λ o. refl) k m.obligations i

    alike : AreAlike n m
    alike job =
        by-parts n job
        ∙ ap (λ cs. given_for (like cs n.frontier n.obligations) job) clauses
        ∙ ap (λ i. given_for (like m.clauses i n.obligations) job) frontier
        ∙ ap (λ os. given_for (like m.clauses m.frontier os) job) obligations
        ∙ out-same job

  -- nothing that jobs are given changes
  still : (n : Machine) → n.clauses ≡ m.clauses → n.frontier ≡ m.frontier → n.obligations ≡ m.obligations → AreAlike n m
  still n clauses frontier obligations (J.Work i) =
      ap (λ cs. option_map (given_work cs i) (slice_get n.obligations i)) clauses ∙ ap (λ os. option_map (given_work m.clauses i) (slice_get os i)) obligations
  still n clauses frontier obligations J.Look =
      ap (λ cs. look cs n.frontier n.obligations) clauses ∙ ap (λ i. look m.clauses i n.obligations) frontier ∙ ap (λ os. look m.clauses m.frontier os) obligations
    where
      look : List Clause → ℕ → List Obligation → Option Given
      look cs i os = Some (Look i (cubes_from cs i) (map (λ (o : Obligation). o.world) (filter (λ o. is_unfinished_seed o && nat_eq o.level i) os)) (length (filter is_done_seed os)))
  still n clauses frontier obligations (J.Push i) = ap (λ cs. option_map (given_push cs i) (slice_get cs i)) clauses
  still n clauses frontier obligations (J.Trace i) =
      ap (λ f. option_map (given_trace f i) (slice_get n.obligations i)) frontier ∙ ap (λ os. option_map (given_trace m.frontier i) (slice_get os i)) obligations

  -- the obligations after a take
  work-taken : (v k : ℕ) (o : Option Obligation) → slice_get m.obligations k ≡ o → ((x : Obligation) → o ≡ Some x → x.status ≡ Ready) →
      AreAlike (happens m (E.Take v (J.Work k))) m
  work-taken v k None is ready =
      still (happens m (E.Take v (J.Work k))) refl refl (ap (λ o. obligations_after (E.Take v (J.Work k)) (option_map (given_work m.clauses k) o) m.frontier m.obligations) is)
  work-taken v k (Some o) is ready =
      alike k (happens m (E.Take v (J.Work k))) refl refl (ap (λ o. obligations_after (E.Take v (J.Work k)) (option_map (given_work m.clauses k) o) m.frontier m.obligations) is)
      (λ x there. ready x (sym is ∙ there))

  push-taken : (v k : ℕ) (c : Option Clause) → obligations_after (E.Take v (J.Push k)) (option_map (given_push m.clauses k) c) m.frontier m.obligations ≡ m.obligations
  push-taken v k None = refl
  push-taken v k (Some c) = refl

  trace-taken : (v k : ℕ) (o : Option Obligation) → obligations_after (E.Take v (J.Trace k)) (option_map (given_trace m.frontier k) o) m.frontier m.obligations ≡ m.obligations
  trace-taken v k None = refl
  trace-taken v k (Some o) = refl

  take-alike : (v : ℕ) (job : Job) → IsDue sys limits m (T.Job job) → AreAlike (happens m (E.Take v job)) m
  take-alike v (J.Work k) due =
      let next = due_work sys limits m k due in
      work-taken v k (slice_get m.obligations k) refl (λ x there. subst (λ (o : Obligation). o.status ≡ Ready) (two_places m.obligations k next.obligation x next.there there) next.ready)
  take-alike v J.Look due = still (happens m (E.Take v J.Look)) refl refl refl
  take-alike v (J.Push k) due = still (happens m (E.Take v (J.Push k))) refl refl (push-taken v k (slice_get m.clauses k))
  take-alike v (J.Trace k) due = still (happens m (E.Take v (J.Trace k))) refl refl (trace-taken v k (slice_get m.obligations k))

-- others' takes
module _ (sys : System) (limits : Limits) (w : ℕ) where
  one-alike : (m : Machine) (e : Event) → IsTakeOfOther w e → IsLegal sys limits m e → AreAlike (happens m e) m
  one-alike m (E.Take v job) other legal = take-alike sys limits m v job legal.allowed.due
  one-alike m e other legal = absurd other

  all-alike : (m : Machine) (es : List Event) → Each es (λ k e. IsTakeOfOther w e) → AreLegal sys limits m es → AreAlike (run m es) m
  all-alike m [] others legal job = refl
  all-alike m (e ∷ es) others legal job =
      all-alike (happens m e) es (λ k f there. others (suc k) f there) legal.1 job
      ∙ one-alike m e (others 0 e refl) legal.0 job

not-own : (w : ℕ) (e : Event) → IsTakeOfOther w e → ¬ (worker_of e ≡ w)
not-own w (E.Take v job) other = other
not-own w e other = absurd other

-- a worker without a job that takes one holds it
found-pushed : (w : ℕ) (g : Given) (jobs : List Held) → held_by jobs w ≡ None → held_by (jobs ++ record { worker = w; given = g } ∷ []) w ≡ Some g
found-pushed w g [] free = ap (λ b. option_map (λ (x : Held). x.given) (cond b (Some (record { worker = w; given = g })) None)) (eq-eqb w w refl)
found-pushed w g (h ∷ jobs) free = step (nat_eq h.worker w) (found-pushed w g jobs) free
  where
    step : (b : Bool) → (held_by jobs w ≡ None → held_by (jobs ++ record { worker = w; given = g } ∷ []) w ≡ Some g) →
        option_map (λ (x : Held). x.given) (cond b (Some h) (find (λ (x : Held). nat_eq x.worker w) jobs)) ≡ None →
        option_map (λ (x : Held). x.given) (cond b (Some h) (find (λ (x : Held). nat_eq x.worker w) (jobs ++ record { worker = w; given = g } ∷ []))) ≡ Some g
    step true rest e = none_is_some h.given (sym e)
    step false rest e = rest e

taken-held : (w : ℕ) (job : Job) (g : Option Given) (jobs : List Held) → held_by jobs w ≡ None → held_by (jobs_after (E.Take w job) g jobs) w ≡ g
taken-held w job None jobs free = free
taken-held w job (Some g) jobs free = found-pushed w g jobs free

-- what is given for a job is of that job
given-job : (m : Machine) (job : Job) (g : Given) → given_for m job ≡ Some g → job_of g ≡ job
given-job m (J.Work k) g e = of_work (slice_get m.obligations k) e
  where
    of_work : (o : Option Obligation) → option_map (given_work m.clauses k) o ≡ Some g → job_of g ≡ J.Work k
    of_work None e = none_is_some g e
    of_work (Some o) e = ap job_of (sym (some_injective (given_work m.clauses k o) g e))
given-job m J.Look g e = ap job_of (sym (some_injective _ g e))
given-job m (J.Push k) g e = of_push (slice_get m.clauses k) e
  where
    of_push : (o : Option Clause) → option_map (given_push m.clauses k) o ≡ Some g → job_of g ≡ J.Push k
    of_push None e = none_is_some g e
    of_push (Some o) e = ap job_of (sym (some_injective (given_push m.clauses k o) g e))
given-job m (J.Trace k) g e = of_trace (slice_get m.obligations k) e
  where
    of_trace : (o : Option Obligation) → option_map (given_trace m.frontier k) o ≡ Some g → job_of g ≡ J.Trace k
    of_trace None e = none_is_some g e
    of_trace (Some o) e = ap job_of (sym (some_injective (given_trace m.frontier k o) g e))

-- what the worker holds is what it would be given now
held-now : (sys : System) (limits : Limits) (m : Machine) (w : ℕ) (job : Job) (takes : List Event) → Each takes (λ k e. IsTakeOfOther w e) → AreLegal sys limits m (E.Take w job ∷ takes) →
    held_by (run m (E.Take w job ∷ takes)).jobs w ≡ given_for (run m (E.Take w job ∷ takes)) job
held-now sys limits m w job takes others legal =
    let n = happens m (E.Take w job) in
    run-held n takes w (λ k e there. not-own w e (others k e there))
    ∙ taken-held w job (given_for m job) m.jobs legal.0.allowed.free
    ∙ sym (take-alike sys limits m w job legal.0.allowed.due job)
    ∙ sym (all-alike sys limits w n takes others legal.1 job)

pub takes-keep : (sys : System) (limits : Limits) (history : List Event) (w : ℕ) (held : Given) → Legal sys limits history → HasOnlyTakesSince history w →
    held_by (replay history).jobs w ≡ Some held → given_for (replay history) (job_of held) ≡ Some held
takes-keep sys limits history w held legal since holds =
    let e = E.Take w since.job in
    let m = replay since.before in
    let last = legal-rest sys limits start since.before (e ∷ since.takes) (subst (Legal sys limits) since.is legal) in
    let replayed : replay history ≡ run m (e ∷ since.takes) = ap replay since.is ∙ run-append start since.before (e ∷ since.takes) in
    let same = subst (λ (n : Machine). held_by n.jobs w ≡ given_for n since.job) (sym replayed) (held-now sys limits m w since.job since.takes since.others last) in
    let given = sym same ∙ holds in
    subst (λ j. given_for (replay history) j ≡ Some held) (sym (given-job (replay history) since.job held given)) given

-- what a worker would be given now is what it holds
pub same-given : (m : Machine) (w : ℕ) (g held given : Given) → held_by m.jobs w ≡ Some g → held_by m.jobs w ≡ Some held → given_for m (job_of g) ≡ Some given → given_for m (job_of held) ≡ Some held → given ≡ held
same-given m w g held given a b c d = some_injective given held (sym c ∙ ap (λ x. given_for m (job_of x)) (some_injective g held (sym a ∙ b)) ∙ d)
