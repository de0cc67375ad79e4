-- An obligation that is traced is rooted.
use Rattle.std.proofs.Common.{◌≡◌, ℕ, inl, inr, List, [], ◌∷◌, ◌++◌, Option, None, Some, slice_get, refl, sym, ap, subst, ◌∙◌, arith}
use Rattle.std.specs.Prelude.{option_map, ⊤}
use Rattle.fo_core.specs.declared.system.System.{System}
use Rattle.fo_core.specs.declared.world.World.{World}
use Rattle.up_diagram.specs.declared.cube.Cube.{Cube}
use Rattle.up_machine.specs.declared.limits.Limits.{Limits}
use Rattle.up_machine.specs.declared.job.Job.{Job}
use Rattle.up_machine.specs.declared.job.Job.TheVariants as J
use Rattle.up_machine.specs.declared.job.Task.TheVariants as T
use Rattle.up_machine.specs.declared.event.Origin.TheVariants as O
use Rattle.up_machine.specs.declared.end.End.TheVariants as N
use Rattle.up_machine.specs.declared.event.Event.{Event}
use Rattle.up_machine.specs.declared.event.Event.TheVariants as E
use Rattle.up_machine.specs.Machine.{Clause, Status, Ready, Out, Waiting, Done, Rooted, Obligation, Given, Work, Look, Push, Trace, Held, Machine, start, held_by}
use Rattle.up_machine.specs.Replay.{with_status, set_status, parent_of, wake, finish, given_work, given_push, given_trace, given_for, released, after_event, happens, replay}
use Rattle.up_machine.specs.Due.{IsDue, IsRooted}
use Rattle.up_machine.specs.Legal.{IsLegal, Legal}
use Rattle.up_machine.specs.Sound.{Each, HasParent, IsTree, IsOutAt, IsOutFor, IsTreeOf}
use Rattle.up_machine.proofs.Dues.{due_work, due_trace}
use Rattle.up_machine.proofs.Forest.{event_tree, history_tree}
use Rattle.up_machine.proofs.FrameEvents.{returned_job}
use Rattle.up_machine.proofs.Histories.{along}
use Rattle.up_machine.proofs.Holding.{held-at, others}
use Rattle.up_machine.proofs.Levels.{parent_is}
use Rattle.up_machine.proofs.Lists.{Each-nil, get-append, get-push, IsPushed, get-change, get-filter, IsChanged, two_places}
use Rattle.up_machine.proofs.Trees.{out_not_done}
use Rattle.up_machine.proofs.Waiting.{differ}

pub record RootedAt (os : List Obligation) (k : ℕ) : Type 0 where
  pub obligation : Obligation
  pub there : slice_get os k ≡ Some obligation
  pub root : World
  pub rooted : obligation.status ≡ Rooted root

abbrev IsRootedFor : List Obligation → Given → Type 0
IsRootedFor os (Trace k steps) = RootedAt os k
IsRootedFor os (Work k level below world) = ⊤
IsRootedFor os (Look level cubes avoid done) = ⊤
IsRootedFor os (Push k level cubes cube) = ⊤

abbrev AreRooted : List Obligation → List Held → Type 0
AreRooted os js = Each js (λ i h. IsRootedFor os h.given)

abbrev Stay : List Obligation → List Obligation → Type 0
Stay os ps = (k : ℕ) → RootedAt os k → RootedAt ps k

for-stays : (os ps : List Obligation) → Stay os ps → (g : Given) → IsRootedFor os g → IsRootedFor ps g
for-stays os ps stay (Trace k steps) h = stay k h
for-stays os ps stay (Work k level below world) h = tt
for-stays os ps stay (Look level cubes avoid done) h = tt
for-stays os ps stay (Push k level cubes cube) h = tt

-- an obligation with another status isn't the rooted one
apart : (os : List Obligation) (q k : ℕ) (o : Obligation) → slice_get os q ≡ Some o → ((u : World) → ¬ (o.status ≡ Rooted u)) → RootedAt os k → ¬ (q ≡ k)
apart os q k o there other h same =
    let one : o ≡ h.obligation = two_places os k o h.obligation (subst (λ i. slice_get os i ≡ Some o) same there) h.there in
    other h.root (ap (λ (x : Obligation). x.status) one ∙ h.rooted)

status-stays : (s : Status) (q k : ℕ) (os : List Obligation) → ¬ (q ≡ k) → RootedAt os k → RootedAt (set_status s q os) k
status-stays s q k os other h = let x = get-change q (with_status s) os k h.obligation h.there in by x.0 x.1 x.2
  where
    by : (y : Obligation) → slice_get (set_status s q os) k ≡ Some y → IsChanged q (with_status s) k h.obligation y → RootedAt (set_status s q os) k
    by y there (inl c) = absurd (other c.0)
    by y there (inr c) = record { obligation = y; there = there; root = h.root; rooted = ap (λ (x : Obligation). x.status) (sym c) ∙ h.rooted }

out-apart : (os : List Obligation) (q : ℕ) → IsOutAt os q → (k : ℕ) → RootedAt os k → ¬ (q ≡ k)
out-apart os q out k h = apart os q k out.obligation out.there (λ u e. differ Out (Rooted u) (λ d. omega (arith, d)) (sym out.out ∙ e)) h

set-stays : (s : Status) (q : ℕ) (os : List Obligation) → IsOutAt os q → Stay os (set_status s q os)
set-stays s q os out k h = status-stays s q k os (out-apart os q out k h) h

finish-stays : (n q : ℕ) (os : List Obligation) → IsTree n os → IsOutAt os q → Stay os (finish q os)
finish-stays n q os tree out k h = by (parent_of os q) refl
  where
    done : RootedAt (set_status Done q os) k
    done = set-stays Done q os out k h

    by : (p : Option ℕ) → parent_of os q ≡ p → RootedAt (wake p (set_status Done q os)) k
    by None is = done
    by (Some p) is =
        let parent : out.obligation.parent ≡ Some p = sym (parent_is os q out.obligation out.there) ∙ is in
        let above = subst (HasParent n os out.obligation) parent (tree.parents q out.obligation out.there (λ e. out_not_done (sym out.out ∙ e))) in
        status-stays Ready p k (set_status Done q os) (apart os p k above.parent above.there (λ u e. differ Waiting (Rooted u) (λ d. omega (arith, d)) (sym above.waits ∙ e)) h) done

push-stays : (os : List Obligation) (x : Obligation) → Stay os (os ++ x ∷ [])
push-stays os x k h = record { obligation = h.obligation; there = get-append os _ k h.obligation h.there; root = h.root; rooted = h.rooted }

-- the jobs of the others
left : (os ps : List Obligation) (js : List Held) (w : ℕ) → Stay os ps → AreRooted os js → AreRooted ps (released w js)
left os ps js w stay h i x e = let r = get-filter (others w) js i x e in for-stays os ps stay x.given (h r.0 x r.1)

-- and a new one
new : (os ps : List Obligation) (js : List Held) (x : Held) → Stay os ps → AreRooted os js → IsRootedFor ps x.given → AreRooted ps (js ++ x ∷ [])
new os ps js x stay h own i y e = by (get-push js x i y e)
  where
    by : IsPushed js x i y → IsRootedFor ps y.given
    by (inl at) = for-stays os ps stay y.given (h i y at)
    by (inr at) = subst (λ (z : Held). IsRootedFor ps z.given) at.1 own

module _ (sys : System) (limits : Limits) (m : Machine) (tree : IsTreeOf m) (rooted : AreRooted m.obligations m.jobs) where
  abbrev IsAfter : Event → Option Given → Type 0
  IsAfter e job = let n = after_event e job m in AreRooted n.obligations n.jobs

  same : Stay m.obligations m.obligations
  same k h = h

  own-out : (w k level : ℕ) (below : Option (List Cube)) (world : World) → held_by m.jobs w ≡ Some (Work k level below world) → IsOutAt m.obligations k
  own-out w k level below world held =
      let own = held-at m.jobs w (Work k level below world) held in
      subst (IsOutFor m.obligations) own.given (tree.worked.out own.place own.held own.there)

  take-rooted : (w : ℕ) (job : Job) → IsDue sys limits m (T.Job job) → IsAfter (E.Take w job) (given_for m job)
  take-rooted w (J.Work k) due =
      let next = due_work sys limits m k due in
      subst (λ x. IsAfter (E.Take w (J.Work k)) (option_map (given_work m.clauses k) x)) (sym next.there)
      (new m.obligations (set_status Out k m.obligations) m.jobs (record { worker = w; given = given_work m.clauses k next.obligation })
      (λ q h. status-stays Out k q m.obligations (apart m.obligations k q next.obligation next.there (λ u e. differ Ready (Rooted u) (λ d. omega (arith, d)) (sym next.ready ∙ e)) h) h) rooted tt)
  take-rooted w J.Look due = new m.obligations m.obligations m.jobs _ same rooted tt
  take-rooted w (J.Push k) due = by (slice_get m.clauses k)
    where
      by : (x : Option Clause) → IsAfter (E.Take w (J.Push k)) (option_map (given_push m.clauses k) x)
      by None = rooted
      by (Some c) = new m.obligations m.obligations m.jobs (record { worker = w; given = given_push m.clauses k c }) same rooted tt
  take-rooted w (J.Trace k) due = by (slice_get m.obligations k)
    where
      root-of : (s : Status) → IsRooted s → (u : World) × (s ≡ Rooted u)
      root-of (Rooted u) h = (u, refl)
      root-of Ready h = absurd h
      root-of Out h = absurd h
      root-of Waiting h = absurd h
      root-of Done h = absurd h

      own : RootedAt m.obligations k
      own = let first = due_trace sys limits m k due in let r = root-of first.found.status first.has in record { obligation = first.found; there = first.there; root = r.0; rooted = r.1 }

      by : (x : Option Obligation) → IsAfter (E.Take w (J.Trace k)) (option_map (given_trace m.frontier k) x)
      by None = rooted
      by (Some o) = new m.obligations m.obligations m.jobs (record { worker = w; given = given_trace m.frontier k o }) same rooted own

  return-rooted : (w : ℕ) (g : Given) → held_by m.jobs w ≡ Some g → (why : _) → IsAfter (E.Return w why) (Some g)
  return-rooted w (Work k level below world) held why = left m.obligations _ m.jobs w (set-stays Ready k m.obligations (own-out w k level below world held)) rooted
  return-rooted w (Look level cubes avoid done) held why = left m.obligations m.obligations m.jobs w same rooted
  return-rooted w (Push k level cubes cube) held why = left m.obligations m.obligations m.jobs w same rooted
  return-rooted w (Trace k steps) held why = left m.obligations m.obligations m.jobs w same rooted

  with-job : (e : Event) (job given : Option Given) → job ≡ given → IsAfter e given → IsAfter e job
  with-job e job given is h = subst (IsAfter e) (sym is) h

  left-same : (w : ℕ) → AreRooted m.obligations (released w m.jobs)
  left-same w = left m.obligations m.obligations m.jobs w same rooted

  event-rooted : (e : Event) → IsLegal sys limits m e → let n = happens m e in AreRooted n.obligations n.jobs
  event-rooted (E.Take w job) legal = take-rooted w job legal.allowed.due
  event-rooted (E.Seed w s) legal = left m.obligations _ m.jobs w (push-stays m.obligations _) rooted
  event-rooted (E.Return w why) legal =
      let job = returned_job sys limits m w why legal.allowed in
      with-job (E.Return w why) _ _ job.held (return-rooted w job.given job.held why)
  event-rooted (E.Learn w cube) legal =
      let work = legal.allowed.work in
      with-job (E.Learn w cube) _ _ work.held
      (left m.obligations _ m.jobs w (finish-stays m.frontier work.obligation m.obligations tree.tree (own-out w work.obligation work.level work.below work.world work.held)) rooted)
  event-rooted (E.Drop w c) legal =
      let work = legal.allowed.work in
      with-job (E.Drop w c) _ _ work.held
      (left m.obligations _ m.jobs w (finish-stays m.frontier work.obligation m.obligations tree.tree (own-out w work.obligation work.level work.below work.world work.held)) rooted)
  event-rooted (E.Before w (O.Initial u)) legal =
      let work = legal.allowed.work in
      with-job (E.Before w (O.Initial u)) _ _ work.held
      (left m.obligations _ m.jobs w (set-stays (Rooted u) work.obligation m.obligations (own-out w work.obligation work.level work.below work.world work.held)) rooted)
  event-rooted (E.Before w (O.Step p)) legal =
      let work = legal.allowed.work in
      let now = set_status Waiting work.obligation m.obligations in
      with-job (E.Before w (O.Step p)) _ _ work.held
      (left m.obligations _ m.jobs w (λ k h. push-stays now _ k (set-stays Waiting work.obligation m.obligations (own-out w work.obligation work.level work.below work.world work.held) k h)) rooted)
  event-rooted (E.Raise w) legal = left-same w
  event-rooted (E.Fail w p) legal = left-same w
  event-rooted (E.Secure w) legal = left-same w
  event-rooted (E.Advance w) legal = rooted
  event-rooted (E.Close w (N.Safe i)) legal = rooted
  event-rooted (E.Close w N.Bounded) legal = rooted
  event-rooted (E.Close w N.Spent) legal = rooted
  event-rooted (E.Close w end) legal = left-same w
  event-rooted (E.Retire w gone by) legal = rooted

module _ (sys : System) (limits : Limits) where
  -- with the trees on which it rests
  record IsRootedTree (m : Machine) : Type 0 where
    pub tree : IsTreeOf m
    pub rooted : AreRooted m.obligations m.jobs

  history-rooted : (history : List Event) → Legal sys limits history → IsRootedTree (replay history)
  history-rooted history legal =
      along sys limits IsRootedTree
      (λ m e h legal. record { tree = event_tree sys limits m h.tree e legal; rooted = event-rooted sys limits m h.tree h.rooted e legal }) start history
      (record { tree = history_tree sys limits [] tt; rooted = Each-nil _ }) legal

  pub traced-rooted : (history : List Event) (w k steps : ℕ) → Legal sys limits history → held_by (replay history).jobs w ≡ Some (Trace k steps) → RootedAt (replay history).obligations k
  traced-rooted history w k steps legal held =
      let m = replay history in
      let own = held-at m.jobs w (Trace k steps) held in
      subst (IsRootedFor m.obligations) own.given ((history-rooted history legal).rooted own.place own.held own.there)
