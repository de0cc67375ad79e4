-- Idle is due only where a job is out.
use Rattle.std.proofs.Common.{◌≡◌, ℕ, zero, suc, ◌-◌, ◌≤◌, ◌<◌, Bool, true, false, cond, ◌⊎◌, inl, inr, List, [], ◌∷◌, ◌++◌, length, filter, find, nat_eq, Option, None, Some, slice_get, refl, sym, ap, subst, ◌∙◌, arith, eqb-true, eq-eqb}
use Rattle.std.specs.Prelude.{◌≢◌, option_map, not, ⊤}
use Rattle.std.specs.List.{Any}
use Rattle.std.proofs.lemmas.Bool.{cases_lt, cases_order}
use Rattle.fo_core.specs.declared.system.System.{System}
use Rattle.fo_core.specs.declared.world.World.{World}
use Rattle.up_diagram.specs.declared.cube.Cube.{Cube}
use Rattle.up_machine.specs.declared.limits.Limits.{Limits}
use Rattle.up_machine.specs.declared.job.Job.{Job}
use Rattle.up_machine.specs.declared.job.Job.TheVariants as J
use Rattle.up_machine.specs.declared.job.Short.TheVariants as S
use Rattle.up_machine.specs.declared.job.Task.TheVariants as T
use Rattle.up_machine.specs.declared.event.Why.{Why}
use Rattle.up_machine.specs.declared.event.Why.TheVariants as Y
use Rattle.up_machine.specs.declared.event.Origin.TheVariants as O
use Rattle.up_machine.specs.declared.end.End.{End}
use Rattle.up_machine.specs.declared.event.Event.{Event}
use Rattle.up_machine.specs.declared.event.Event.TheVariants as E
use Rattle.up_machine.specs.Machine.{Clause, Status, Ready, Out, Waiting, Done, Rooted, Obligation, Given, Work, Look, Push, Trace, Held, Machine, start, cubes_from, frame, to_avoid, done_seeds, unfinished_seeds, held_by}
use Rattle.up_machine.specs.Replay.{with_status, set_status, finish, first_status, given_for, obligations_after, released, after_event, happens, replay}
use Rattle.up_machine.specs.Due.{IsRooted, IsFirstRooted, IsTrace, TraceIsOut, IsNextWork, IsQuiet, IsLookDue, IsDue, job_of}
use Rattle.up_machine.specs.Finding.{HoldsWork, HoldsLook}
use Rattle.up_machine.specs.Legal.{IsLegal, Legal, MayFindNoMore}
use Rattle.up_machine.specs.Sound.{Each, IsUnfinished, IsBelow, IsFrameSound}
use Rattle.up_machine.proofs.Dues.{due_work}
use Rattle.up_machine.proofs.FrameEvents.{returned_job, given_sound, event_sound, start_sound}
use Rattle.up_machine.proofs.Histories.{along}
use Rattle.up_machine.proofs.Holding.{HeldAt, held-at, others}
use Rattle.up_machine.proofs.Lists.{some_injective, none_is_some, Each-nil, get-append, get-push, IsPushed, get-changed, IsChanged, get-filter, two_places, all-of_each}
use Rattle.up_machine.proofs.Waiting.{differ, get-last, WaitsFor, OutsWere, out_before, out_finish, out_push, waits_status, waits_push, waits_finish, waits_precede, first_not_out, seeds, seeds_status, seeds_finish, seeds_push, avoided_not_done, all_done}

abbrev worked_on : Job → Option ℕ
worked_on (J.Work k) = Some k
worked_on _ = None

-- some worker has the job
pub record HasJob (js : List Held) (job : Job) : Type 0 where
  pub place : ℕ
  pub held : Held
  pub there : slice_get js place ≡ Some held
  pub is : job_of held.given ≡ job

abbrev IsLookSound : ℕ → Given → Type 0
IsLookSound n (Look level cubes avoid done) = avoid ≢ [] → done < n
IsLookSound n _ = ⊤

-- A worker has one job; one that is out is worked on; one that waits has an unfinished child; and the calm
-- is below the number of seeds, as is what a look was given that had something to avoid.
pub record AreAtWork (os : List Obligation) (js : List Held) (calm : Option ℕ) : Type 0 where
  pub one_job : (i k : ℕ) (a b : Held) → slice_get js i ≡ Some a → slice_get js k ≡ Some b → a.worker ≡ b.worker → i ≡ k
  pub worked : Each os (λ k o. o.status ≡ Out → HasJob js (J.Work k))
  pub waits : WaitsFor os
  pub calm_low : (n : ℕ) → calm ≡ Some n → n < seeds os
  pub looks : Each js (λ i h. IsLookSound (seeds os) h.given)

look_more : (n p : ℕ) (g : Given) → n ≤ p → IsLookSound n g → IsLookSound p g
look_more n p (Work k level below world) le h = tt
look_more n p (Look level cubes avoid done) le h = λ some. let lt = h some in omega (arith, lt, le)
look_more n p (Push k level cubes cube) le h = tt
look_more n p (Trace k steps) le h = tt

get-filtered : (test : Held → Bool) (js : List Held) (k : ℕ) (h : Held) → slice_get js k ≡ Some h → test h ≡ true → (i : ℕ) × (slice_get (filter test js) i ≡ Some h)
get-filtered test [] k h e t = none_is_some h e
get-filtered test (a ∷ js) zero h e t = (0, subst (λ b. slice_get (cond b (a ∷ filter test js) (filter test js)) 0 ≡ Some h) (sym (ap test (some_injective a h e) ∙ t)) e)
get-filtered test (a ∷ js) (suc k) h e t = step (test a) (get-filtered test js k h e t)
  where
    step : (b : Bool) → ((i : ℕ) × (slice_get (filter test js) i ≡ Some h)) → (i : ℕ) × (slice_get (cond b (a ∷ filter test js) (filter test js)) i ≡ Some h)
    step true r = (suc r.0, r.1)
    step false r = r

-- where two stand in a list that passed a test, they stood there in the order before
filtered_same : (test : Held → Bool) (js : List Held) → ((i k : ℕ) (a b : Held) → slice_get js i ≡ Some a → slice_get js k ≡ Some b → a.worker ≡ b.worker → i ≡ k) → (i k : ℕ) (a b : Held) → slice_get (filter test js) i ≡ Some a → slice_get (filter test js) k ≡ Some b → a.worker ≡ b.worker → i ≡ k
filtered_same test [] one i k a b e f same = none_is_some a e
filtered_same test (h ∷ js) one i k a b e f same = step (test h) (filtered_same test js (λ i k a b e f same. suc_same (one (suc i) (suc k) a b e f same))) i k e f
  where
    suc_same : {i k : ℕ} → suc i ≡ suc k → i ≡ k
    suc_same {i} {k} e = omega (arith, e)

    apart : (k : ℕ) (x : Held) → slice_get (filter test js) k ≡ Some x → ¬ (h.worker ≡ x.worker)
    apart k x e same = let r = get-filter test js k x e in omega (arith, one 0 (suc r.0) h x refl r.1 same)

    step : (t : Bool) → ((i k : ℕ) (a b : Held) → slice_get (filter test js) i ≡ Some a → slice_get (filter test js) k ≡ Some b → a.worker ≡ b.worker → i ≡ k) →
        (i k : ℕ) → slice_get (cond t (h ∷ filter test js) (filter test js)) i ≡ Some a → slice_get (cond t (h ∷ filter test js) (filter test js)) k ≡ Some b → i ≡ k
    step false rest i k e f = rest i k a b e f same
    step true rest zero zero e f = refl
    step true rest zero (suc k) e f = absurd (apart k b f (ap (λ (x : Held). x.worker) (some_injective h a e) ∙ same))
    step true rest (suc i) zero e f = absurd (apart i a e (ap (λ (x : Held). x.worker) (some_injective h b f) ∙ sym same))
    step true rest (suc i) (suc k) e f = ap suc (rest i k a b e f same)

abbrev new_of : ℕ → Given → Held
new_of w g = record { worker = w; given = g }

module _ (os : List Obligation) (js : List Held) (calm : Option ℕ) (at_work : AreAtWork os js calm) where
  -- another worker's job stays
  job_stays : (w : ℕ) (g : Given) (q : ℕ) → held_by js w ≡ Some g → ¬ (job_of g ≡ J.Work q) → HasJob js (J.Work q) → HasJob (released w js) (J.Work q)
  job_stays w g q held other h = by (nat_eq h.held.worker w) refl
    where
      own : HeldAt js w g
      own = held-at js w g held

      by : (b : Bool) → nat_eq h.held.worker w ≡ b → HasJob (released w js) (J.Work q)
      by true e =
          let worker = eqb-true h.held.worker w e in
          let same = at_work.one_job h.place own.place h.held own.held h.there own.there (worker ∙ sym own.worker) in
          let one : h.held ≡ own.held = two_places js own.place h.held own.held (subst (λ i. slice_get js i ≡ Some h.held) same h.there) own.there in
          absurd (other (sym (ap job_of own.given) ∙ ap (λ (x : Held). job_of x.given) (sym one) ∙ h.is))
      by false e = let r = get-filtered (others w) js h.place h.held h.there (ap not e) in record { place = r.0; held = h.held; there = r.1; is = h.is }

  -- a worker's report: those that are out were so, and aren't the one that was worked on
  reported : (w : ℕ) (g : Given) (ps : List Obligation) (now : Option ℕ) → held_by js w ≡ Some g →
      ((q : ℕ) (o : Obligation) → slice_get ps q ≡ Some o → o.status ≡ Out → (x : Obligation) × (slice_get os q ≡ Some x) × (x.status ≡ Out) × (¬ (job_of g ≡ J.Work q))) →
      WaitsFor ps → seeds os ≤ seeds ps → ((n : ℕ) → now ≡ Some n → n < seeds ps) → AreAtWork ps (released w js) now
  reported w g ps now held outs waits more low = record {
    one_job = filtered_same (others w) js at_work.one_job;
    worked = λ q o e out. let x = outs q o e out in job_stays w g q held x.3 (at_work.worked q x.0 x.1 x.2);
    waits = waits;
    calm_low = low;
    looks = λ i h e. let x = get-filter (others w) js i h e in look_more (seeds os) (seeds ps) h.given more (at_work.looks x.0 h x.1);
  }

  calm_more : (ps : List Obligation) → seeds os ≤ seeds ps → (n : ℕ) → calm ≡ Some n → n < seeds ps
  calm_more ps more n is = let lt = at_work.calm_low n is in omega (arith, lt, more)

  -- of a work, whose obligation is out no more
  worked_report : (w k level : ℕ) (below : Option (List Cube)) (world : World) (ps : List Obligation) → held_by js w ≡ Some (Work k level below world) →
      OutsWere os k ps → WaitsFor ps → seeds os ≤ seeds ps → AreAtWork ps (released w js) calm
  worked_report w k level below world ps held outs waits more =
      reported w (Work k level below world) ps calm held
      (λ q o e out. let x = outs q o e out in (x.old, x.there, x.out, λ is. x.other (some_injective k q (ap worked_on is)))) waits more (calm_more ps more)

  -- of another job, which leaves the obligations
  other_report : (w : ℕ) (g : Given) (now : Option ℕ) → held_by js w ≡ Some g → ((q : ℕ) → ¬ (job_of g ≡ J.Work q)) → ((n : ℕ) → now ≡ Some n → n < seeds os) → AreAtWork os (released w js) now
  other_report w g now held other low = reported w g os now held (λ q o e out. (o, e, out, other q)) at_work.waits (omega arith) low

  -- a job comes to a worker who has none
  free_worker : (w i : ℕ) (h : Held) → held_by js w ≡ None → slice_get js i ≡ Some h → ¬ (h.worker ≡ w)
  free_worker w i h free there same = none_is_some (found js i there).0 (sym free ∙ (found js i there).1)
    where
      found : (js : List Held) (i : ℕ) → slice_get js i ≡ Some h → (g : Given) × (held_by js w ≡ Some g)
      found [] i e = none_is_some h e
      found (a ∷ rest) zero e = (a.given, ap (λ b. option_map (λ (x : Held). x.given) (cond b (Some a) (find (λ (x : Held). nat_eq x.worker w) rest))) (eq-eqb a.worker w (ap (λ (x : Held). x.worker) (some_injective a h e) ∙ same)))
      found (a ∷ rest) (suc i) e = step (nat_eq a.worker w) (found rest i e)
        where
          step : (b : Bool) → ((g : Given) × (held_by rest w ≡ Some g)) → (g : Given) × (option_map (λ (x : Held). x.given) (cond b (Some a) (find (λ (x : Held). nat_eq x.worker w) rest)) ≡ Some g)
          step true r = (a.given, refl)
          step false r = r

  taken : (w : ℕ) (g : Given) (ps : List Obligation) → held_by js w ≡ None →
      ((q : ℕ) (o : Obligation) → slice_get ps q ≡ Some o → o.status ≡ Out → (job_of g ≡ J.Work q) ⊎ ((x : Obligation) × (slice_get os q ≡ Some x) × (x.status ≡ Out))) →
      WaitsFor ps → seeds ps ≡ seeds os → IsLookSound (seeds os) g → AreAtWork ps (js ++ record { worker = w; given = g } ∷ []) calm
  taken w g ps free outs waits same good = record {
    one_job = λ i k a b e f equal. one i k a b equal (get-push js (new_of w g) i a e) (get-push js (new_of w g) k b f);
    worked = λ q o e out. out_of q (outs q o e out);
    waits = waits;
    calm_low = λ n is. let lt = at_work.calm_low n is in omega (arith, lt, same);
    looks = λ i h e. look_of h (get-push js (new_of w g) i h e);
  }
    where
      one : (i k : ℕ) (a b : Held) → a.worker ≡ b.worker → IsPushed js (new_of w g) i a → IsPushed js (new_of w g) k b → i ≡ k
      one i k a b equal (inl e) (inl f) = at_work.one_job i k a b e f equal
      one i k a b equal (inl e) (inr f) = absurd (free_worker w i a free e (equal ∙ sym (ap (λ (x : Held). x.worker) f.1)))
      one i k a b equal (inr e) (inl f) = absurd (free_worker w k b free f (sym equal ∙ sym (ap (λ (x : Held). x.worker) e.1)))
      one i k a b equal (inr e) (inr f) = e.0 ∙ sym f.0

      out_of : (q : ℕ) → (job_of g ≡ J.Work q) ⊎ ((x : Obligation) × (slice_get os q ≡ Some x) × (x.status ≡ Out)) → HasJob (js ++ record { worker = w; given = g } ∷ []) (J.Work q)
      out_of q (inl is) = record { place = length js; held = record { worker = w; given = g }; there = get-last js (record { worker = w; given = g }); is = is }
      out_of q (inr x) = let h = at_work.worked q x.0 x.1 x.2 in record { place = h.place; held = h.held; there = get-append js _ h.place h.held h.there; is = h.is }

      look_of : {i : ℕ} (h : Held) → IsPushed js (new_of w g) i h → IsLookSound (seeds ps) h.given
      look_of {i} h (inl e) = look_more (seeds os) (seeds ps) h.given (omega (arith, same)) (at_work.looks i h e)
      look_of h (inr e) = look_more (seeds os) (seeds ps) h.given (omega (arith, same)) (subst (λ (x : Held). IsLookSound (seeds os) x.given) e.1 good)

look_not_work : (q : ℕ) → ¬ (J.Look ≡ J.Work q)
look_not_work q e = none_is_some q (ap worked_on e)

push_not_work : (k q : ℕ) → ¬ (J.Push k ≡ J.Work q)
push_not_work k q e = none_is_some q (ap worked_on e)

trace_not_work : (k q : ℕ) → ¬ (J.Trace k ≡ J.Work q)
trace_not_work k q e = none_is_some q (ap worked_on e)

abbrev pub IsAtWork : Machine → Type 0
IsAtWork m = AreAtWork m.obligations m.jobs m.calm

module _ (sys : System) (limits : Limits) (m : Machine) (sound : IsFrameSound sys m) (at_work : IsAtWork m) where
  abbrev IsAtWorkAfter : Event → Option Given → Type 0
  IsAtWorkAfter e job = IsAtWork (after_event e job m)

  kept_calm : (n : ℕ) → m.calm ≡ Some n → n < seeds m.obligations
  kept_calm n is = at_work.calm_low n is

  take_work : (w : ℕ) (job : Job) → held_by m.jobs w ≡ None → IsDue sys limits m (T.Job job) → IsAtWorkAfter (E.Take w job) (given_for m job)
  take_work w (J.Work k) free due =
      let next = due_work sys limits m k due in
      let o = next.obligation in
      subst (λ x. IsAtWorkAfter (E.Take w (J.Work k)) (option_map (λ (o : Obligation). Work k o.level (frame m.clauses (o.level - 1)) o.world) x)) (sym next.there)
      (taken m.obligations m.jobs m.calm at_work w (Work k o.level (frame m.clauses (o.level - 1)) o.world) (set_status Out k m.obligations) free outs
      (waits_status Out k m.obligations (differ Out Waiting (λ d. omega (arith, d))) (differ Out Done (λ d. omega (arith, d))) at_work.waits) (seeds_status Out k m.obligations) tt)
    where
      outs : (q : ℕ) (o : Obligation) → slice_get (set_status Out k m.obligations) q ≡ Some o → o.status ≡ Out → (J.Work k ≡ J.Work q) ⊎ ((x : Obligation) × (slice_get m.obligations q ≡ Some x) × (x.status ≡ Out))
      outs q o e out = let r = get-changed k (with_status Out) m.obligations q o e in by r.0 r.1 r.2
        where
          by : (x : Obligation) → slice_get m.obligations q ≡ Some x → IsChanged k (with_status Out) q x o → (J.Work k ≡ J.Work q) ⊎ ((x : Obligation) × (slice_get m.obligations q ≡ Some x) × (x.status ≡ Out))
          by x there (inl h) = inl (ap J.Work h.0)
          by x there (inr h) = inr (x, there, ap (λ (y : Obligation). y.status) h ∙ out)
  take_work w J.Look free due =
      taken m.obligations m.jobs m.calm at_work w (Look m.frontier (cubes_from m.clauses m.frontier) (to_avoid m) (done_seeds m)) m.obligations free (λ q o e out. inr (o, e, out)) at_work.waits refl
      (λ some. avoided_not_done m.frontier m.obligations some)
  take_work w (J.Push k) free due = by (slice_get m.clauses k)
    where
      by : (x : Option Clause) → IsAtWorkAfter (E.Take w (J.Push k)) (option_map (λ (c : Clause). Push k c.level (cubes_from m.clauses c.level) c.cube) x)
      by None = at_work
      by (Some c) = taken m.obligations m.jobs m.calm at_work w (Push k c.level (cubes_from m.clauses c.level) c.cube) m.obligations free (λ q o e out. inr (o, e, out)) at_work.waits refl tt
  take_work w (J.Trace k) free due = by (slice_get m.obligations k)
    where
      by : (x : Option Obligation) → IsAtWorkAfter (E.Take w (J.Trace k)) (option_map (λ (o : Obligation). Trace k (m.frontier - o.level)) x)
      by None = at_work
      by (Some o) = taken m.obligations m.jobs m.calm at_work w (Trace k (m.frontier - o.level)) m.obligations free (λ q o e out. inr (o, e, out)) at_work.waits refl tt

  other_work : (w : ℕ) (g : Given) → held_by m.jobs w ≡ Some g → ((q : ℕ) → ¬ (job_of g ≡ J.Work q)) → AreAtWork m.obligations (released w m.jobs) m.calm
  other_work w g held other = other_report m.obligations m.jobs m.calm at_work w g m.calm held other kept_calm

  returned_work : (w : ℕ) (why : Why) (g : Given) → held_by m.jobs w ≡ Some g → AreAtWork (obligations_after (E.Return w why) (Some g) m.frontier m.obligations) (released w m.jobs) m.calm
  returned_work w why (Work k level below world) held =
      worked_report m.obligations m.jobs m.calm at_work w k level below world (set_status Ready k m.obligations) held (out_before Ready k m.obligations (differ Ready Out (λ d. omega (arith, d))))
      (waits_status Ready k m.obligations (differ Ready Waiting (λ d. omega (arith, d))) (differ Ready Done (λ d. omega (arith, d))) at_work.waits) (let e = seeds_status Ready k m.obligations in omega (arith, e))
  returned_work w why (Look level cubes avoid done) held = other_work w (Look level cubes avoid done) held look_not_work
  returned_work w why (Push k level cubes cube) held = other_work w (Push k level cubes cube) held (push_not_work k)
  returned_work w why (Trace k steps) held = other_work w (Trace k steps) held (trace_not_work k)

  no_more_work : (w : ℕ) → MayFindNoMore sys m w → IsAtWorkAfter (E.Return w Y.NoMore) (held_by m.jobs w)
  no_more_work w may =
      let look = may.look in
      let given = Look look.level look.frame look.avoid look.done in
      let own = held-at m.jobs w given look.held in
      let low : look.done < seeds m.obligations = subst (IsLookSound (seeds m.obligations)) own.given (at_work.looks own.place own.held own.there) may.something_avoided in
      subst (IsAtWorkAfter (E.Return w Y.NoMore)) (sym look.held)
      (other_report m.obligations m.jobs m.calm at_work w given (Some look.done) look.held look_not_work (λ n is. subst (λ x. x < seeds m.obligations) (some_injective look.done n is) low))

  finished_work : (w : ℕ) (work : HoldsWork m w) → AreAtWork (finish work.obligation m.obligations) (released w m.jobs) m.calm
  finished_work w work =
      let given = given_sound sys m sound w (Work work.obligation work.level work.below work.world) work.held in
      worked_report m.obligations m.jobs m.calm at_work w work.obligation work.level work.below work.world (finish work.obligation m.obligations) work.held (out_finish work.obligation m.obligations)
      (waits_finish work.obligation m.obligations given.obligation given.there at_work.waits) (let e = seeds_finish work.obligation m.obligations in omega (arith, e))

  rooted_work : (w : ℕ) (work : HoldsWork m w) (u : World) → AreAtWork (set_status (Rooted u) work.obligation m.obligations) (released w m.jobs) m.calm
  rooted_work w work u =
      worked_report m.obligations m.jobs m.calm at_work w work.obligation work.level work.below work.world (set_status (Rooted u) work.obligation m.obligations) work.held
      (out_before (Rooted u) work.obligation m.obligations (differ (Rooted u) Out (λ d. omega (arith, d))))
      (waits_status (Rooted u) work.obligation m.obligations (differ (Rooted u) Waiting (λ d. omega (arith, d))) (differ (Rooted u) Done (λ d. omega (arith, d))) at_work.waits)
      (let e = seeds_status (Rooted u) work.obligation m.obligations in omega (arith, e))

  preceded_work : (w : ℕ) (work : HoldsWork m w) (p : World) → AreAtWork (set_status Waiting work.obligation m.obligations ++ record { level = work.level - 1; world = p; parent = Some work.obligation; status = first_status work.level p } ∷ []) (released w m.jobs) m.calm
  preceded_work w work p =
      let k = work.obligation in
      let waiting = set_status Waiting k m.obligations in
      worked_report m.obligations m.jobs m.calm at_work w k work.level work.below work.world _ work.held
      (out_push m.obligations waiting k _ (first_not_out work.level p) (out_before Waiting k m.obligations (differ Waiting Out (λ d. omega (arith, d)))))
      (waits_precede k work.level m.obligations p (work.level - 1) at_work.waits)
      (let e = seeds_status Waiting k m.obligations in let more = seeds_push waiting (record { level = work.level - 1; world = p; parent = Some k; status = first_status work.level p }) in omega (arith, e, more))

  seeded_work : (w : ℕ) (s : World) (look : HoldsLook m w) → AreAtWork (m.obligations ++ record { level = m.frontier; world = s; parent = None; status = Ready } ∷ []) (released w m.jobs) m.calm
  seeded_work w s look =
      reported m.obligations m.jobs m.calm at_work w (Look look.level look.frame look.avoid look.done) (m.obligations ++ record { level = m.frontier; world = s; parent = None; status = Ready } ∷ []) m.calm look.held
      (λ q o e out. outs q o out (get-push m.obligations _ q o e)) (waits_push m.obligations _ (differ Ready Waiting (λ d. omega (arith, d))) at_work.waits)
      (seeds_push m.obligations (record { level = m.frontier; world = s; parent = None; status = Ready }))
      (calm_more m.obligations m.jobs m.calm at_work (m.obligations ++ record { level = m.frontier; world = s; parent = None; status = Ready } ∷ []) (seeds_push m.obligations (record { level = m.frontier; world = s; parent = None; status = Ready })))
    where
      outs : (q : ℕ) (o : Obligation) → o.status ≡ Out → IsPushed m.obligations (record { level = m.frontier; world = s; parent = None; status = Ready }) q o → (x : Obligation) × (slice_get m.obligations q ≡ Some x) × (x.status ≡ Out) × (¬ (J.Look ≡ J.Work q))
      outs q o out (inl there) = (o, there, out, look_not_work q)
      outs q o out (inr new) = absurd (differ Ready Out (λ d. omega (arith, d)) (ap (λ (y : Obligation). y.status) new.1 ∙ out))

  at_job : (e : Event) (job given : Option Given) → job ≡ given → IsAtWorkAfter e given → IsAtWorkAfter e job
  at_job e job given is h = subst (IsAtWorkAfter e) (sym is) h

  event_work : (e : Event) → IsLegal sys limits m e → (happens m e).ending ≡ None → IsAtWork (happens m e)
  event_work (E.Take w job) legal open_one = take_work w job legal.allowed.free legal.allowed.due
  event_work (E.Seed w s) legal open_one = let look = legal.allowed.look in seeded_work w s look
  event_work (E.Secure w) legal open_one = let look = legal.allowed.look in other_work w (Look look.level look.frame look.avoid look.done) look.held look_not_work
  event_work (E.Return w Y.NoMore) legal open_one = no_more_work w legal.allowed
  event_work (E.Return w (Y.Refuted p c)) legal open_one =
      let job = returned_job sys limits m w (Y.Refuted p c) legal.allowed in
      at_job (E.Return w (Y.Refuted p c)) _ _ job.held (returned_work w (Y.Refuted p c) job.given job.held)
  event_work (E.Return w Y.Spent) legal open_one = let job = returned_job sys limits m w Y.Spent legal.allowed in at_job (E.Return w Y.Spent) _ _ job.held (returned_work w Y.Spent job.given job.held)
  event_work (E.Return w Y.NoMemory) legal open_one = let job = returned_job sys limits m w Y.NoMemory legal.allowed in at_job (E.Return w Y.NoMemory) _ _ job.held (returned_work w Y.NoMemory job.given job.held)
  event_work (E.Learn w cube) legal open_one = let work = legal.allowed.work in at_job (E.Learn w cube) _ _ work.held (finished_work w work)
  event_work (E.Drop w c) legal open_one = let work = legal.allowed.work in at_job (E.Drop w c) _ _ work.held (finished_work w work)
  event_work (E.Before w (O.Initial u)) legal open_one = let work = legal.allowed.work in at_job (E.Before w (O.Initial u)) _ _ work.held (rooted_work w work u)
  event_work (E.Before w (O.Step p)) legal open_one = let work = legal.allowed.work in at_job (E.Before w (O.Step p)) _ _ work.held (preceded_work w work p)
  event_work (E.Raise w) legal open_one = let push = legal.allowed.push in other_work w (Push push.clause push.level push.frame push.cube) push.held (push_not_work push.clause)
  event_work (E.Fail w p) legal open_one = let push = legal.allowed.push in other_work w (Push push.clause push.level push.frame push.cube) push.held (push_not_work push.clause)
  event_work (E.Advance w) legal open_one = record { one_job = at_work.one_job; worked = at_work.worked; waits = at_work.waits; calm_low = λ n is. none_is_some n is; looks = at_work.looks }
  event_work (E.Retire w gone by) legal open_one = at_work
  event_work (E.Close w end) legal open_one = none_is_some end (sym open_one)

-- what is so of a machine that a legal history leaves
record IsBusy (sys : System) (m : Machine) : Type 0 where
  sound : IsFrameSound sys m
  working : m.ending ≡ None → IsAtWork m

start_work : IsAtWork start
start_work = record { one_job = λ i k a b e. none_is_some a e; worked = Each-nil _; waits = Each-nil _; calm_low = λ n is. none_is_some n is; looks = Each-nil _ }

history_busy : (sys : System) (limits : Limits) (history : List Event) → Legal sys limits history → IsBusy sys (replay history)
history_busy sys limits history legal =
    along sys limits (IsBusy sys)
    (λ m e h legal. record {
      sound = event_sound sys limits m h.sound e legal;
      working = λ open_one. event_work sys limits m h.sound (h.working legal.not_ended) e legal open_one;
    }) start history (record { sound = start_sound sys limits; working = λ _. start_work }) legal

-- where no job is out and no rule gives a task, all obligations are done, so that some rule does
module _ (sys : System) (limits : Limits) (m : Machine) (sound : IsFrameSound sys m) (at_work : IsAtWork m) (no_job : m.jobs ≡ [])
    (no_root : (k : ℕ) → IsFirstRooted m k → ⊥) (no_work : (k : ℕ) → IsNextWork m k → ⊥) where
  no_held : (i : ℕ) (h : Held) → slice_get m.jobs i ≡ Some h → ⊥
  no_held i h e = none_is_some h (subst (λ (js : List Held). slice_get js i ≡ Some h) no_job e)

  no_rooted : (n k : ℕ) (o : Obligation) → k < n → slice_get m.obligations k ≡ Some o → IsRooted o.status → ⊥
  no_rooted zero k o lt there is = omega (arith, lt)
  no_rooted (suc n) k o lt there is = no_root k (record { found = o; there = there; has = is; first = λ j x less e r. no_rooted n j x (omega (arith, lt, less)) e r })

  -- no ready one of this level, where there is none below
  no_ready_at : (level : ℕ) → ((j : ℕ) (x : Obligation) → slice_get m.obligations j ≡ Some x → x.status ≡ Ready → x.level < level → ⊥) →
      (n k : ℕ) (o : Obligation) → k < n → slice_get m.obligations k ≡ Some o → o.status ≡ Ready → o.level ≡ level → ⊥
  no_ready_at level below zero k o lt there ready is = omega (arith, lt)
  no_ready_at level below (suc n) k o lt there ready is = no_work k (record { obligation = o; there = there; ready = ready; next = λ j x e r. compare (λ j x less e r is. no_ready_at level below n j x less e r is) j x e r (cases_order o.level x.level) (cases_lt j k) })
    where
      compare : ((j : ℕ) (x : Obligation) → j < n → slice_get m.obligations j ≡ Some x → x.status ≡ Ready → x.level ≡ level → ⊥) → (j : ℕ) (x : Obligation) → slice_get m.obligations j ≡ Some x → x.status ≡ Ready → (o.level ≡ x.level) ⊎ ((o.level < x.level) ⊎ (x.level < o.level)) → (j < k) ⊎ (k ≤ j) → (o.level < x.level) ⊎ (o.level ≡ x.level) × (k ≤ j)
      compare rest j x e r (inl same) (inl less) = absurd (rest j x (omega (arith, lt, less)) e r (sym same ∙ is))
      compare rest j x e r (inl same) (inr le) = inr (same, le)
      compare rest j x e r (inr (inl less)) index = inl less
      compare rest j x e r (inr (inr less)) index = absurd (below j x e r (omega (arith, less, is)))

  no_ready : (n : ℕ) (k : ℕ) (o : Obligation) → slice_get m.obligations k ≡ Some o → o.status ≡ Ready → o.level < n → ⊥
  no_ready zero k o there ready lt = omega (arith, lt)
  no_ready (suc n) k o there ready lt = by (λ j x e r less. no_ready n j x e r less) (cases_lt o.level n)
    where
      by : ((j : ℕ) (x : Obligation) → slice_get m.obligations j ≡ Some x → x.status ≡ Ready → x.level < n → ⊥) → (o.level < n) ⊎ (n ≤ o.level) → ⊥
      by below (inl less) = below k o there ready less
      by below (inr le) = let is : o.level ≡ n = omega (arith, lt, le) in no_ready_at n below (suc k) k o (omega arith) there ready is

  -- what is unfinished is ready, out or rooted, or waits for such a one
  none_open : (n k : ℕ) (o : Obligation) → slice_get m.obligations k ≡ Some o → o.level < n → IsUnfinished o → ⊥
  none_open zero k o there lt unfinished = omega (arith, lt)
  none_open (suc n) k o there lt unfinished = by (λ j x e less open_one. none_open n j x e less open_one) o.status refl
    where
      by : ((j : ℕ) (x : Obligation) → slice_get m.obligations j ≡ Some x → x.level < n → IsUnfinished x → ⊥) → (s : Status) → o.status ≡ s → ⊥
      by rest Ready is = no_ready (suc n) k o there is lt
      by rest Out is = let h = at_work.worked k o there is in no_held h.place h.held h.there
      by rest Waiting is =
          let h = at_work.waits k o there is in
          let below = subst (IsBelow m.obligations h.child) h.parent (sound.levels h.place h.child h.there).below in
          let same : below.0 ≡ o = two_places m.obligations k below.0 o below.1 there in
          let level : suc h.child.level ≡ o.level = below.2 ∙ ap (λ (y : Obligation). y.level) same in
          rest h.place h.child h.there (omega (arith, level, lt)) h.unfinished
      by rest Done is = unfinished is
      by rest (Rooted u) is = no_rooted (suc k) k o (omega arith) there (subst IsRooted (sym is) tt)

  finished : Each m.obligations (λ k o. o.status ≡ Done)
  finished k o there = by o.status refl
    where
      by : (s : Status) → o.status ≡ s → o.status ≡ Done
      by Done is = is
      by Ready is = absurd (none_open (suc o.level) k o there (omega arith) (λ d. differ Ready Done (λ e. omega (arith, e)) (sym is ∙ d)))
      by Out is = absurd (none_open (suc o.level) k o there (omega arith) (λ d. differ Out Done (λ e. omega (arith, e)) (sym is ∙ d)))
      by Waiting is = absurd (none_open (suc o.level) k o there (omega arith) (λ d. differ Waiting Done (λ e. omega (arith, e)) (sym is ∙ d)))
      by (Rooted u) is = absurd (none_open (suc o.level) k o there (omega arith) (λ d. differ (Rooted u) Done (λ e. omega (arith, e)) (sym is ∙ d)))

  -- then the frontier moves on, or is the last, or is looked at
  quiet_or_look : IsQuiet m ⊎ IsLookDue m
  quiet_or_look = by sound.secure_near
    where
      counts : (done_seeds m ≡ seeds m.obligations) × (length (unfinished_seeds m) ≡ 0)
      counts = all_done m.obligations finished

      by : (m.secure ≡ m.frontier) ⊎ (suc m.secure ≡ m.frontier) → IsQuiet m ⊎ IsLookDue m
      by (inl secure) = inl (record { secure = secure; finished = all-of_each m.obligations (λ (o : Obligation). o.status ≡ Done) finished; no_job = no_job })
      by (inr near) = inr (record {
        insecure = omega (arith, near);
        free = λ out. no_any out;
        stirred = λ calm. let lt = at_work.calm_low (done_seeds m) calm in omega (arith, lt, counts.0);
        few = omega (arith, counts.1);
      })
        where
          no_any : Any (λ (h : Held). job_of h.given ≡ J.Look) m.jobs → ⊥
          no_any out = let a = subst (λ (js : List Held). Any (λ (h : Held). job_of h.given ≡ J.Look) js) no_job out in omega (arith, a.2)

none_of : (o : Option End) → ((e : End) → o ≡ Some e → ⊥) → o ≡ None
none_of None h = refl
none_of (Some e) h = absurd (h e refl)

pub idle_busy : (sys : System) (limits : Limits) (history : List Event) → Legal sys limits history → IsDue sys limits (replay history) T.Idle → ¬ ((replay history).jobs ≡ [])
idle_busy sys limits history legal due no_job = by_rules due
  where
    busy : IsBusy sys (replay history)
    busy = history_busy sys limits history legal

    no_trace : TraceIsOut (replay history) → ⊥
    no_trace out = let a = subst (λ (js : List Held). Any (λ (h : Held). IsTrace (job_of h.given)) js) no_job out in omega (arith, a.2)

    by_rules : IsDue sys limits (replay history) T.Idle → ⊥
    by_rules (inl h) = h
    by_rules (inr (no_end, inl h)) = h
    by_rules (inr (no_end, inr (no_closed, inl h))) = no_trace h.2
    by_rules (inr (no_end, inr (no_closed, inr (no_root, inl h)))) = h
    by_rules (inr (no_end, inr (no_closed, inr (no_root, inr (no_steps, inl h))))) = h
    by_rules (inr (no_end, inr (no_closed, inr (no_root, inr (no_steps, inr (no_work, inl h)))))) = h
    by_rules (inr (no_end, inr (no_closed, inr (no_root, inr (no_steps, inr (no_work, inr (no_look, inl h))))))) = h
    by_rules (inr (no_end, inr (no_closed, inr (no_root, inr (no_steps, inr (no_work, inr (no_look, inr (no_push, inl h)))))))) = h
    by_rules (inr (no_end, inr (no_closed, inr (no_root, inr (no_steps, inr (no_work, inr (no_look, inr (no_push, inr (no_quiet, h))))))))) =
        decide (quiet_or_look sys limits (replay history) busy.sound (busy.working (none_of (replay history).ending (λ e is. no_end T.Ended (e, is)))) no_job (λ k first. no_root (T.Job (J.Trace k)) (first, no_trace)) (λ k next. no_work (T.Job (J.Work k)) next))
      where
        at_limit : IsQuiet (replay history) → ((replay history).frontier < limits.frames) ⊎ (limits.frames ≤ (replay history).frontier) → ⊥
        at_limit quiet (inl lt) = no_quiet T.Advance (quiet, lt)
        at_limit quiet (inr le) = no_quiet (T.Finish S.Bounded) (quiet, le)

        decide : IsQuiet (replay history) ⊎ IsLookDue (replay history) → ⊥
        decide (inl quiet) = at_limit quiet (cases_lt (replay history).frontier limits.frames)
        decide (inr look) = no_look (T.Job J.Look) look
