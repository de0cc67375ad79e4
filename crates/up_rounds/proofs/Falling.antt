-- With each round the number of what is left falls, or the run has ended.
use Rattle.std.proofs.Common.{◌≡◌, ℕ, suc, ◌+◌, ◌-◌, ◌*◌, ◌≤◌, ◌<◌, Bool, true, false, cond, nat_eq, ◌⊎◌, inl, inr, List, [], ◌∷◌, ◌++◌, length, Option, None, Some, slice_get, refl, sym, ap, subst, ◌∙◌, arith, eqb-true, eq-eqb}
use Rattle.fo_core.specs.declared.system.System.{System}
use Rattle.fo_core.specs.declared.world.World.{World}
use Rattle.fo_core.specs.Sorted.{IsSystem}
use Rattle.up_machine.specs.declared.limits.Limits.{Limits}
use Rattle.up_machine.specs.declared.end.End.{End}
use Rattle.up_machine.specs.declared.job.Job.{Job}
use Rattle.up_machine.specs.declared.job.Job.TheVariants as J
use Rattle.up_machine.specs.declared.job.Short.TheVariants as S
use Rattle.up_machine.specs.declared.job.Task.TheVariants as T
use Rattle.up_machine.specs.declared.event.Why.{Why}
use Rattle.up_machine.specs.declared.event.Why.TheVariants as Y
use Rattle.up_machine.specs.declared.event.Event.{Event}
use Rattle.up_machine.specs.declared.event.Event.TheVariants as E
use Rattle.up_machine.specs.Machine.{Given, Look, Held, Machine, start, held_by, done_seeds}
use Rattle.up_machine.specs.Replay.{given_work, given_push, given_trace, given_for, calm_after, released, is_productive, count_if, happens, run, replay}
use Rattle.up_machine.specs.Due.{TraceIsOut, IsDue}
use Rattle.up_machine.specs.Legal.{IsLegal, Legal}
use Rattle.up_machine.specs.Rounds.{IsReport, Takes, Settles, Retires, end_of}
use Rattle.up_machine.specs.Sound.{Each, IsTreeOf}
use Rattle.up_machine.proofs.Forest.{event_tree, history_tree}
use Rattle.up_machine.proofs.FrameEvents.{returned_job}
use Rattle.up_machine.proofs.Histories.{run-append, replay-push, legal-first, legal-rest}
use Rattle.up_machine.proofs.Holding.{held-at, others}
use Rattle.up_machine.proofs.Lists.{some_injective, none_is_some, mapped_some, get-filter, Each-nil}
use Rattle.up_rounds.specs.Coming.{unrest, left_of}
use Rattle.up_rounds.specs.OneRound.{AreReports, AreTakes, IsAtRest}
use Rattle.up_rounds.proofs.AfterJobs.{taken}
use Rattle.up_rounds.proofs.DoneSeeds.{done_take, done_return}
use Rattle.up_rounds.proofs.FirstSeat.{never_refuted, was_given}
use Rattle.up_rounds.proofs.LiveClauses.{lives, live_grow, live_retire}

-- 1. The budget is what is left but for the unrest, which is at most one.

abbrev budget_of : Limits → Machine → ℕ
budget_of limits m = 3 * (limits.steps - m.productive) + lives m.clauses

abbrev none_if : Bool → ℕ
none_if b = cond b 0 1

unrest_high : (calm : Option ℕ) (done : ℕ) → unrest calm done ≤ 1
unrest_high None done = omega arith
unrest_high (Some n) done = by (nat_eq n done)
  where
    by : (b : Bool) → none_if b ≤ 1
    by true = omega arith
    by false = omega arith

stirred_one : (calm : Option ℕ) (done : ℕ) → ¬ (calm ≡ Some done) → unrest calm done ≡ 1
stirred_one None done stirred = refl
stirred_one (Some n) done stirred = by (nat_eq n done) refl
  where
    by : (b : Bool) → nat_eq n done ≡ b → none_if b ≡ 1
    by true is = absurd (stirred (ap Some (eqb-true n done is)))
    by false is = refl

calm_none : (calm : Option ℕ) (done : ℕ) → calm ≡ Some done → unrest calm done ≡ 0
calm_none calm done is =
    let same : unrest calm done ≡ unrest (Some done) done = ap (λ c. unrest c done) is in
    let equal : nat_eq done done ≡ true = eq-eqb done done refl in
    same ∙ ap none_if equal

low : (limits : Limits) (m : Machine) → budget_of limits m ≤ left_of limits m
low limits m = omega arith

high : (limits : Limits) (m : Machine) → left_of limits m ≤ suc (budget_of limits m)
high limits m = let one = unrest_high m.calm (done_seeds m) in omega (arith, one)

-- of productive numbers, live clauses and limits alone
falls : (steps p q a b : ℕ) → p < steps → q ≡ suc p → b ≤ suc a → 3 * (steps - q) + b + 2 ≤ 3 * (steps - p) + a
falls steps p q a b lt next grown = omega (arith, lt, next, grown)

module _ (sys : System) (limits : Limits) where
  productive_costs : (m : Machine) (e : Event) → IsLegal sys limits m e → is_productive e ≡ true → budget_of limits (happens m e) + 2 ≤ budget_of limits m
  productive_costs m e legal costs =
      falls limits.steps m.productive (happens m e).productive (lives m.clauses) (lives (happens m e).clauses)
      (legal.affordable costs) (ap (λ b. count_if b m.productive) costs) (live_grow e _ m.clauses costs)

  -- 2. Rounds of one event.

  advance_falls : (m : Machine) (w : ℕ) → IsLegal sys limits m (E.Advance w) → left_of limits (happens m (E.Advance w)) < left_of limits m
  advance_falls m w legal =
      let cost = productive_costs m (E.Advance w) legal refl in
      omega (arith, cost, high limits (happens m (E.Advance w)), low limits m)

  pub settle_falls : (history : List Event) (e : Event) → Legal sys limits (history ++ e ∷ []) → Settles sys limits (replay history) e →
      (replay (history ++ e ∷ [])).ending ≡ None → left_of limits (replay (history ++ e ∷ [])) < left_of limits (replay history)
  settle_falls history e legal settles none =
      let m = replay history in
      let there : replay (history ++ e ∷ []) ≡ happens m e = replay-push history e in
      subst (λ n. left_of limits n < left_of limits m) (sym there) (by settles (legal-rest sys limits start history (e ∷ []) legal).0 (subst (λ (n : Machine). n.ending ≡ None) there none))
    where
      by : Settles sys limits (replay history) e → IsLegal sys limits (replay history) e → (happens (replay history) e).ending ≡ None → left_of limits (happens (replay history) e) < left_of limits (replay history)
      by (inl a) now runs_on =
          subst (λ x. left_of limits (happens (replay history) x) < left_of limits (replay history)) (sym a.1)
          (advance_falls (replay history) 0 (subst (IsLegal sys limits (replay history)) a.1 now))
      by (inr a) now runs_on = none_is_some (end_of a.0) (sym (subst (λ x. (happens (replay history) x).ending ≡ None) a.2 runs_on))

  retired_falls : (m : Machine) (w gone cover : ℕ) → IsLegal sys limits m (E.Retire w gone cover) → left_of limits (happens m (E.Retire w gone cover)) < left_of limits m
  retired_falls m w gone cover legal =
      let c = legal.allowed in
      let one = live_retire m.clauses gone c.old c.there c.live in
      omega (arith, one)

  pub retire_falls : (history : List Event) (e : Event) → Legal sys limits (history ++ e ∷ []) → Retires sys limits (replay history) e →
      left_of limits (replay (history ++ e ∷ [])) < left_of limits (replay history)
  retire_falls history e legal retires =
      let m = replay history in
      let there : replay (history ++ e ∷ []) ≡ happens m e = replay-push history e in
      let now = (legal-rest sys limits start history (e ∷ []) legal).0 in
      let own = retired_falls m 0 retires.0 retires.1 (subst (IsLegal sys limits m) retires.3 now) in
      subst (λ n. left_of limits n < left_of limits m) (sym there)
      (subst (λ x. left_of limits (happens m x) < left_of limits m) (sym retires.3) own)

-- 3. What reports there are: one that costs, the end, and two by which a job is put back.

data IsKind : Event → Type 0 where
  costs : (e : Event) → is_productive e ≡ true → IsKind e
  ends : (w : ℕ) (end : End) → IsKind (E.Close w end)
  refuted : (w : ℕ) (p : World) (c : ℕ) → IsKind (E.Return w (Y.Refuted p c))
  no_more : (w : ℕ) → IsKind (E.Return w Y.NoMore)

module _ (sys : System) (limits : Limits) where
  kind_of : (m : Machine) (seat : ℕ) (e : Event) → IsReport sys limits m seat e → IsKind e
  kind_of m seat (E.Take w job) r = absurd r.kind
  kind_of m seat (E.Retire w gone covered) r = absurd r.kind
  kind_of m seat (E.Close w end) r = ends w end
  kind_of m seat (E.Return w (Y.Refuted p c)) r = refuted w p c
  kind_of m seat (E.Return w Y.NoMore) r = no_more w
  kind_of m seat (E.Return w Y.Spent) r = absurd r.kind
  kind_of m seat (E.Return w Y.NoMemory) r = absurd r.kind
  kind_of m seat e r = costs e refl

  -- no report raises the budget
  report_budget : (m : Machine) (e : Event) → IsKind e → IsLegal sys limits m e → budget_of limits (happens m e) ≤ budget_of limits m
  report_budget m e (costs _ p) legal = let c = productive_costs sys limits m e legal p in omega (arith, c)
  report_budget m _ (ends w end) legal = omega arith
  report_budget m _ (refuted w p c) legal = omega arith
  report_budget m _ (no_more w) legal = omega arith

  reports_budget : (m : Machine) (seat : ℕ) (rs : List Event) → AreReports sys limits m seat rs → budget_of limits (run m rs) ≤ budget_of limits m
  reports_budget m seat [] h = omega arith
  reports_budget m seat (e ∷ rs) h =
      let one = report_budget m e (kind_of m seat e h.0) h.0.legal in
      let rest = reports_budget (happens m e) (suc seat) rs h.1 in
      omega (arith, one, rest)

  -- where one costs, the number falls below the budget
  one_costs : (m : Machine) (seat next : ℕ) (e : Event) (rs : List Event) → IsReport sys limits m seat e → is_productive e ≡ true → AreReports sys limits (happens m e) next rs → left_of limits (run (happens m e) rs) < budget_of limits m
  one_costs m seat next e rs r p h =
      let cost = productive_costs sys limits m e r.legal p in
      let rest = reports_budget (happens m e) next rs h in
      let most = high limits (run (happens m e) rs) in
      omega (arith, cost, rest, most)

  -- nothing is reported after the end
  ended_stays : (m : Machine) (seat : ℕ) (rs : List Event) (end : End) → m.ending ≡ Some end → AreReports sys limits m seat rs → (run m rs).ending ≡ None → ⊥
  ended_stays m seat [] end is h none = none_is_some end (sym none ∙ is)
  ended_stays m seat (e ∷ rs) end is h none = none_is_some end (sym h.0.legal.not_ended ∙ is)

-- 4. Where a look has found nothing further.

abbrev IsLookOf : ℕ → Given → Type 0
IsLookOf d (Look level cubes avoid done) = done ≡ d
IsLookOf d _ = Unit {0}

abbrev AreLooksOf : ℕ → List Held → Type 0
AreLooksOf d jobs = Each jobs (λ k h. IsLookOf d h.given)

look_given : (d : ℕ) (m : Machine) (w : ℕ) (g : Given) → AreLooksOf d m.jobs → held_by m.jobs w ≡ Some g → IsLookOf d g
look_given d m w g looks held = let own = held-at m.jobs w g held in subst (IsLookOf d) own.given (looks own.place own.held own.there)

looks_released : (d w : ℕ) (jobs : List Held) → AreLooksOf d jobs → AreLooksOf d (released w jobs)
looks_released d w jobs looks k h e = let x = get-filter (others w) jobs k h e in looks x.0 h x.1

-- this many seeds are done, as when the looks that are out were taken
record IsStill (d : ℕ) (m : Machine) : Type 0 where
  done : done_seeds m ≡ d
  looks : AreLooksOf d m.jobs
  tree : IsTreeOf m

module _ (sys : System) (limits : Limits) (d : ℕ) where
  still_return : (m : Machine) (w : ℕ) (why : Why) → IsStill d m → IsLegal sys limits m (E.Return w why) → IsStill d (happens m (E.Return w why))
  still_return m w why stays legal =
      let job = returned_job sys limits m w why legal.allowed in
      record {
        done = done_return m w why job.given stays.tree job.held ∙ stays.done;
        looks = looks_released d w m.jobs stays.looks;
        tree = event_tree sys limits m stays.tree (E.Return w why) legal;
      }

  calm_now : (m : Machine) (w : ℕ) → IsStill d m → IsLegal sys limits m (E.Return w Y.NoMore) → (happens m (E.Return w Y.NoMore)).calm ≡ Some d
  calm_now m w stays legal =
      let look = legal.allowed.look in
      let set : (happens m (E.Return w Y.NoMore)).calm ≡ Some look.done = ap (λ g. calm_after (E.Return w Y.NoMore) g m.calm) look.held in
      set ∙ ap Some (look_given d m w (Look look.level look.frame look.avoid look.done) stays.looks look.held)

  -- where the calm is this number, no more is left than the budget
  calm_reports : (m : Machine) (seat : ℕ) (rs : List Event) → IsStill d m → m.calm ≡ Some d → AreReports sys limits m seat rs → (run m rs).ending ≡ None → left_of limits (run m rs) ≤ budget_of limits m
  calm_reports m seat [] stays calm h none =
      let still : m.calm ≡ Some (done_seeds m) = calm ∙ ap Some (sym stays.done) in
      let zero_left = calm_none m.calm (done_seeds m) still in
      omega (arith, zero_left)
  calm_reports m seat (e ∷ rs) stays calm h none = by (λ e. calm_reports (happens m e) (suc seat) rs) e (kind_of sys limits m seat e h.0) h.0 h.1 none
    where
      by : ((e : Event) → IsStill d (happens m e) → (happens m e).calm ≡ Some d → AreReports sys limits (happens m e) (suc seat) rs → (run (happens m e) rs).ending ≡ None → left_of limits (run (happens m e) rs) ≤ budget_of limits (happens m e)) →
          (e : Event) → IsKind e → IsReport sys limits m seat e → AreReports sys limits (happens m e) (suc seat) rs → (run (happens m e) rs).ending ≡ None → left_of limits (run (happens m e) rs) ≤ budget_of limits m
      by rest e (costs _ p) r after runs_on = let less = one_costs sys limits m seat (suc seat) e rs r p after in omega (arith, less)
      by rest _ (ends w end) r after runs_on = absurd (ended_stays sys limits (happens m (E.Close w end)) (suc seat) rs end refl after runs_on)
      by rest _ (refuted w p c) r after runs_on = rest (E.Return w (Y.Refuted p c)) (still_return m w (Y.Refuted p c) stays r.legal) calm after runs_on
      by rest _ (no_more w) r after runs_on = rest (E.Return w Y.NoMore) (still_return m w Y.NoMore stays r.legal) (calm_now m w stays r.legal) after runs_on

-- 5. A round of jobs.

module _ (sys : System) (limits : Limits) where
  -- what takes leave as it was
  record IsTaken (m n : Machine) : Type 0 where
    budget : budget_of limits n ≡ budget_of limits m
    done : done_seeds n ≡ done_seeds m

  done_taken : (m : Machine) (seat : ℕ) (t : Event) → Takes sys limits m seat t → done_seeds (happens m t) ≡ done_seeds m
  done_taken m seat t a = subst (λ x. done_seeds (happens m x) ≡ done_seeds m) (sym a.is) (done_take sys limits m seat a.job a.due)

  left_taken : (m : Machine) (seat : ℕ) (ts : List Event) → AreTakes sys limits m seat ts → IsTaken m (run m ts)
  left_taken m seat [] h = record { budget = refl; done = refl }
  left_taken m seat (t ∷ ts) h =
      let r = left_taken (happens m t) (suc seat) ts h.1 in
      record {
        budget = r.budget ∙ subst (λ x. budget_of limits (happens m x) ≡ budget_of limits m) (sym h.0.is) refl;
        done = r.done ∙ done_taken m seat t h.0;
      }

  given_look : (d : ℕ) (m : Machine) (job : Job) (x : Given) → done_seeds m ≡ d → given_for m job ≡ Some x → IsLookOf d x
  given_look d m J.Look x done e = subst (IsLookOf d) (some_injective _ x e) done
  given_look d m (J.Work k) x done e = let r = mapped_some (given_work m.clauses k) (slice_get m.obligations k) x e in subst (IsLookOf d) r.2 tt
  given_look d m (J.Push k) x done e = let r = mapped_some (given_push m.clauses k) (slice_get m.clauses k) x e in subst (IsLookOf d) r.2 tt
  given_look d m (J.Trace k) x done e = let r = mapped_some (given_trace m.frontier k) (slice_get m.obligations k) x e in subst (IsLookOf d) r.2 tt

  looks_taken : (d : ℕ) (m : Machine) (seat : ℕ) (ts : List Event) → AreTakes sys limits m seat ts → done_seeds m ≡ d → AreLooksOf d m.jobs → AreLooksOf d (run m ts).jobs
  looks_taken d m seat [] h done looks = looks
  looks_taken d m seat (t ∷ ts) h done looks =
      looks_taken d (happens m t) (suc seat) ts h.1 (done_taken m seat t h.0 ∙ done)
      (taken sys limits (λ x. IsLookOf d x.given) m seat t h.0 looks (λ x e. given_look d m h.0.job x done e))

  -- a look is due where there is unrest and steps are left
  record IsLookLeft (m : Machine) : Type 0 where
    stirred : ¬ (m.calm ≡ Some (done_seeds m))
    left : ¬ (limits.steps ≤ m.productive)

  look_left : (m : Machine) → IsDue sys limits m (T.Job J.Look) → IsLookLeft m
  look_left m (inl h) = absurd h
  look_left m (inr (a, inl h)) = absurd h
  look_left m (inr (a, inr (b, inl h))) = absurd h
  look_left m (inr (a, inr (b, inr (c, inl h)))) = absurd h
  look_left m (inr (a, inr (b, inr (c, inr (d, inl h))))) = absurd h
  look_left m (inr (a, inr (b, inr (c, inr (d, inr (e, inl h)))))) = record { stirred = h.stirred; left = d (T.Finish S.Spent) }
  look_left m (inr (a, inr (b, inr (c, inr (d, inr (e, inr (f, inl h))))))) = absurd h
  look_left m (inr (a, inr (b, inr (c, inr (d, inr (e, inr (f, inr (g, inl h)))))))) = absurd h
  look_left m (inr (a, inr (b, inr (c, inr (d, inr (e, inr (f, inr (g, inr (i, h))))))))) = absurd h

  no_jobs : (m : Machine) → IsAtRest limits m → ¬ (limits.steps ≤ m.productive) → m.jobs ≡ []
  no_jobs m rest left = by rest.jobs
    where
      by : (m.jobs ≡ []) ⊎ (limits.steps ≤ m.productive) × ¬ TraceIsOut m → m.jobs ≡ []
      by (inl none) = none
      by (inr s) = absurd (left s.0)

module _ (sys : System) (limits : Limits) (good : IsSystem sys) (history takes : List Event) (before : Legal sys limits (history ++ takes)) (rest : IsAtRest limits (replay history)) (are : AreTakes sys limits (replay history) 0 takes) where
  abbrev first : Machine
  first = replay history

  abbrev mid : Machine
  mid = replay (history ++ takes)

  there : run first takes ≡ mid
  there = sym (run-append start history takes)

  as_before : IsTaken sys limits first mid
  as_before = subst (IsTaken sys limits first) there (left_taken sys limits first 0 takes are)

  look_falls : (rs : List Event) (w : ℕ) → IsReport sys limits mid 0 (E.Return w Y.NoMore) → AreReports sys limits (happens mid (E.Return w Y.NoMore)) 1 rs → (run (happens mid (E.Return w Y.NoMore)) rs).ending ≡ None → left_of limits (run (happens mid (E.Return w Y.NoMore)) rs) < left_of limits first
  look_falls rs w r after runs_on =
      let look = r.legal.allowed.look in
      let x = Look look.level look.frame look.avoid look.done in
      let own : held_by mid.jobs 0 ≡ Some x = subst (λ v. held_by mid.jobs v ≡ Some x) r.by_seat look.held in
      let held : held_by (run first takes).jobs 0 ≡ Some x = subst (λ (n : Machine). held_by n.jobs 0 ≡ Some x) (sym there) own in
      let left = look_left sys limits first (was_given sys limits first takes x rest are held).due in
      let d = done_seeds first in
      let none : AreLooksOf d first.jobs = subst (AreLooksOf d) (sym (no_jobs sys limits first rest left.left)) (Each-nil (λ k h. IsLookOf d h.given)) in
      let looks : AreLooksOf d mid.jobs = subst (λ (n : Machine). AreLooksOf d n.jobs) there (looks_taken sys limits d first 0 takes are refl none) in
      let stays : IsStill d mid = record { done = as_before.done; looks = looks; tree = history_tree sys limits (history ++ takes) before } in
      let e = E.Return w Y.NoMore in
      let few = calm_reports sys limits d (happens mid e) 1 rs (still_return sys limits d mid w Y.NoMore stays r.legal) (calm_now sys limits d mid w stays r.legal) after runs_on in
      let one = stirred_one first.calm d left.stirred in
      let same = as_before.budget in
      omega (arith, few, one, same)

  first_falls : (rs : List Event) (e : Event) → IsKind e → IsReport sys limits mid 0 e → AreReports sys limits (happens mid e) 1 rs → (run (happens mid e) rs).ending ≡ None → left_of limits (run (happens mid e) rs) < left_of limits first
  first_falls rs e (costs _ p) r after runs_on =
      let less = one_costs sys limits mid 0 1 e rs r p after in
      let same = as_before.budget in
      omega (arith, less, same, low limits first)
  first_falls rs _ (ends w end) r after runs_on = absurd (ended_stays sys limits (happens mid (E.Close w end)) 1 rs end refl after runs_on)
  first_falls rs _ (refuted w p c) r after runs_on = absurd (never_refuted sys limits history takes p c good before rest are (subst (λ v. IsReport sys limits mid 0 (E.Return v (Y.Refuted p c))) r.by_seat r))
  first_falls rs _ (no_more w) r after runs_on = look_falls rs w r after runs_on

pub jobs_fall : (sys : System) (limits : Limits) (history takes reports : List Event) → IsSystem sys → Legal sys limits (history ++ takes ++ reports) → IsAtRest limits (replay history) → AreTakes sys limits (replay history) 0 takes → AreReports sys limits (replay (history ++ takes)) 0 reports → 1 ≤ length reports →
    (replay (history ++ takes ++ reports)).ending ≡ None → left_of limits (replay (history ++ takes ++ reports)) < left_of limits (replay history)
jobs_fall sys limits history takes [] good legal rest are reported some runs_on = absurd (omega (arith, some))
jobs_fall sys limits history takes (e ∷ rs) good legal rest are reported some runs_on =
    let before = legal-first sys limits start (history ++ takes) (e ∷ rs) legal in
    let mid = replay (history ++ takes) in
    let last : replay (history ++ takes ++ (e ∷ rs)) ≡ run (happens mid e) rs = run-append start (history ++ takes) (e ∷ rs) in
    subst (λ n. left_of limits n < left_of limits (replay history)) (sym last)
    (first_falls sys limits good history takes before rest are rs e (kind_of sys limits mid 0 e reported.0) reported.0 reported.1 (subst (λ (n : Machine). n.ending ≡ None) last runs_on))
