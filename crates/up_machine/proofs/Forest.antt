-- Each legal event keeps the trees of unfinished obligations.
use Rattle.std.proofs.Common.{◌≡◌, ℕ, suc, ◌-◌, true, inl, inr, List, [], ◌∷◌, ◌++◌, Option, None, Some, slice_get, refl, sym, ap, subst, ◌∙◌}
use Rattle.std.specs.Prelude.{option_map}
use Rattle.fo_core.specs.declared.system.System.{System}
use Rattle.fo_core.specs.declared.world.World.{World}
use Rattle.up_diagram.specs.declared.cube.Cube.{Cube}
use Rattle.up_machine.specs.declared.limits.Limits.{Limits}
use Rattle.up_machine.specs.declared.job.Job.{Job}
use Rattle.up_machine.specs.declared.job.Job.TheVariants as J
use Rattle.up_machine.specs.declared.job.Task.TheVariants as T
use Rattle.up_machine.specs.declared.event.Why.{Why}
use Rattle.up_machine.specs.declared.event.Origin.TheVariants as O
use Rattle.up_machine.specs.declared.end.End.TheVariants as N
use Rattle.up_machine.specs.declared.event.Event.{Event}
use Rattle.up_machine.specs.declared.event.Event.TheVariants as E
use Rattle.up_machine.specs.Machine.{Clause, Status, Ready, Out, Waiting, Done, Rooted, Obligation, Given, Work, Look, Push, Trace, Held, Machine, start, cubes_from, frame, held_by}
use Rattle.up_machine.specs.Replay.{with_status, set_status, finish, first_status, given_for, obligations_after, released, after_event, happens, replay}
use Rattle.up_machine.specs.Due.{IsDue, job_of}
use Rattle.up_machine.specs.Legal.{IsLegal, Legal}
use Rattle.up_machine.specs.Sound.{HasWaitingParent, IsTree, IsOutAt, IsOutFor, AreWorked, IsTreeSound, IsTreeOf}
use Rattle.up_machine.proofs.Lists.{some_injective, none_is_some, Each-nil, get-append, get-push, IsPushed, get-here, two_places, each-of_all}
use Rattle.up_machine.proofs.Dues.{due_work, due_advance}
use Rattle.up_machine.proofs.FrameEvents.{returned_job}
use Rattle.up_machine.proofs.Histories.{along}
use Rattle.up_machine.proofs.Holding.{held-at, others, not_own}
use Rattle.up_machine.proofs.Trees.{settled, before, grown, no_child, finished, others_out, out_stays, out_finish, out_not_waiting, out_not_done, ready_not_waiting, ready_not_done, ready_not_out}

abbrev worked_on : Job → Option ℕ
worked_on (J.Work k) = Some k
worked_on _ = None

module _ (m : Machine) (sound : IsTreeOf m) where
  abbrev IsLeft : ℕ → List Obligation → Type 0
  IsLeft w ps = IsTreeSound m.frontier ps (released w m.jobs)

  -- the jobs of the others, over obligations that have not changed
  same_tree : (w : ℕ) → IsLeft w m.obligations
  same_tree w = record { tree = sound.tree; worked = others_out m.obligations m.jobs sound.worked m.obligations (others w) (λ i k h e t is out. out) }

  seeded_tree : (w : ℕ) (s : World) → IsLeft w (m.obligations ++ record { level = m.frontier; world = s; parent = None; status = Ready } ∷ [])
  seeded_tree w s =
      record {
        tree = grown m.frontier m.obligations sound.tree _ refl (λ i k a e p q. none_is_some k q);
        worked = others_out m.obligations m.jobs sound.worked _ (others w) (λ i k h e t is out. record { obligation = out.obligation; there = get-append m.obligations _ k out.obligation out.there; out = out.out });
      }

  -- what the worker of an obligation holds, no other holds
  module _ (w k level : ℕ) (below : Option (List Cube)) (world : World) (held : held_by m.jobs w ≡ Some (Work k level below world)) where
    not_other : (i j : ℕ) (other : Held) → slice_get m.jobs i ≡ Some other → others w other ≡ true → job_of other.given ≡ J.Work j → ¬ (k ≡ j)
    not_other i j other there t work same =
        let own = held-at m.jobs w (Work k level below world) held in
        let one = sound.worked.one_work i own.place k other own.held there own.there (work ∙ ap J.Work (sym same)) (ap job_of own.given) in
        not_own w other t (one ∙ own.worker)

    own_out : IsOutAt m.obligations k
    own_out = let own = held-at m.jobs w (Work k level below world) held in subst (IsOutFor m.obligations) own.given (sound.worked.out own.place own.held own.there)

    settled_tree : (s : Status) → IsLeft w (set_status s k m.obligations)
    settled_tree s =
        record {
          tree = settled m.frontier m.obligations sound.tree k own_out.obligation own_out.there s (λ e. out_not_waiting (sym own_out.out ∙ e)) (λ _ e. out_not_done (sym own_out.out ∙ e));
          worked = others_out m.obligations m.jobs sound.worked _ (others w) (λ i j other e t work out. out_stays m.obligations s k j out (not_other i j other e t work));
        }

    finished_tree : IsLeft w (finish k m.obligations)
    finished_tree =
        record {
          tree = finished m.frontier m.obligations sound.tree k own_out.obligation own_out.there own_out.out;
          worked = others_out m.obligations m.jobs sound.worked _ (others w) (λ i j other e t work out. out_finish m.frontier m.obligations sound.tree k own_out.obligation own_out.there own_out.out j out (not_other i j other e t work));
        }

    preceded_tree : (p : World) → IsLeft w (set_status Waiting k m.obligations ++ record { level = level - 1; world = p; parent = Some k; status = first_status level p } ∷ [])
    preceded_tree p =
        record {
          tree = grown m.frontier (set_status Waiting k m.obligations) tree _ waits
              (λ i j a e q r u.
              let x = before m.frontier m.obligations sound.tree k own_out.obligation own_out.there Waiting still open_one i a e u in
              no_child m.frontier m.obligations sound.tree k own_out.obligation own_out.there still i x.old x.there (x.parent ∙ q ∙ sym r) x.unfinished);
          worked = others_out m.obligations m.jobs sound.worked _ (others w)
              (λ i j other e t work out.
              let x = out_stays m.obligations Waiting k j out (not_other i j other e t work) in
              record { obligation = x.obligation; there = get-append (set_status Waiting k m.obligations) _ j x.obligation x.there; out = x.out });
        }
      where
        still : ¬ (own_out.obligation.status ≡ Waiting)
        still e = out_not_waiting (sym own_out.out ∙ e)

        open_one : ¬ (Waiting ≡ Done) → ¬ (own_out.obligation.status ≡ Done)
        open_one _ e = out_not_done (sym own_out.out ∙ e)

        tree : IsTree m.frontier (set_status Waiting k m.obligations)
        tree = settled m.frontier m.obligations sound.tree k own_out.obligation own_out.there Waiting still open_one

        waits : HasWaitingParent (set_status Waiting k m.obligations) k
        waits = record { parent = with_status Waiting own_out.obligation; there = get-here k (with_status Waiting) m.obligations own_out.obligation own_out.there; waits = refl }

  returned_tree : (w : ℕ) (why : Why) (g : Given) → held_by m.jobs w ≡ Some g → IsLeft w (obligations_after (E.Return w why) (Some g) m.frontier m.obligations)
  returned_tree w why (Work k level below world) e = settled_tree w k level below world e Ready
  returned_tree w why (Look level cubes avoid done) e = same_tree w
  returned_tree w why (Push k level cubes cube) e = same_tree w
  returned_tree w why (Trace k steps) e = same_tree w

  -- a job goes out
  module _ (ps : List Obligation) (w : ℕ) (new : Given) (stays : (k : ℕ) → IsOutAt m.obligations k → IsOutAt ps k) (new_out : IsOutFor ps new) (fresh : (k : ℕ) → job_of new ≡ J.Work k → ¬ IsOutAt m.obligations k) where
    abbrev new_held : Held
    new_held = record { worker = w; given = new }

    out_stay : (g : Given) → IsOutFor m.obligations g → IsOutFor ps g
    out_stay (Work k level below world) h = stays k h
    out_stay (Look level cubes avoid done) h = tt
    out_stay (Push k level cubes cube) h = tt
    out_stay (Trace k steps) h = tt

    out_of : {i : ℕ} (h : Held) → IsPushed m.jobs new_held i h → IsOutFor ps h.given
    out_of {i} h (inl e) = out_stay h.given (sound.worked.out i h e)
    out_of h (inr e) = subst (λ (x : Held). IsOutFor ps x.given) e.1 new_out

    was_out : (k : ℕ) (g : Given) → job_of g ≡ J.Work k → IsOutFor m.obligations g → IsOutAt m.obligations k
    was_out k (Work j level below world) is h = subst (IsOutAt m.obligations) (some_injective j k (ap worked_on is)) h
    was_out k (Look level cubes avoid done) is h = none_is_some k (ap worked_on is)
    was_out k (Push j level cubes cube) is h = none_is_some k (ap worked_on is)
    was_out k (Trace j steps) is h = none_is_some k (ap worked_on is)

    one : {i j : ℕ} (k : ℕ) (a b : Held) → job_of a.given ≡ J.Work k → job_of b.given ≡ J.Work k → IsPushed m.jobs new_held i a → IsPushed m.jobs new_held j b → a.worker ≡ b.worker
    one {i} {j} k a b p q (inl e) (inl f) = sound.worked.one_work i j k a b e f p q
    one {i} k a b p q (inl e) (inr f) = absurd (fresh k (ap (λ (h : Held). job_of h.given) f.1 ∙ q) (was_out k a.given p (sound.worked.out i a e)))
    one {i} {j} k a b p q (inr e) (inl f) = absurd (fresh k (ap (λ (h : Held). job_of h.given) e.1 ∙ p) (was_out k b.given q (sound.worked.out j b f)))
    one k a b p q (inr e) (inr f) = ap (λ (h : Held). h.worker) (sym e.1 ∙ f.1)

    worked_push : AreWorked ps (m.jobs ++ record { worker = w; given = new } ∷ [])
    worked_push =
        record {
          out = λ i h e. out_of h (get-push m.jobs new_held i h e);
          one_work = λ i j k a b e f p q. one k a b p q (get-push m.jobs new_held i a e) (get-push m.jobs new_held j b f);
        }

module _ (sys : System) (limits : Limits) (m : Machine) (sound : IsTreeOf m) where
  abbrev IsTreeAfter : Event → Option Given → Type 0
  IsTreeAfter e job = IsTreeOf (after_event e job m)

  plain_tree : (w : ℕ) (g : Given) → IsOutFor m.obligations g → ((k : ℕ) → job_of g ≡ J.Work k → ¬ IsOutAt m.obligations k) → IsTreeSound m.frontier m.obligations (m.jobs ++ record { worker = w; given = g } ∷ [])
  plain_tree w g out fresh = record { tree = sound.tree; worked = worked_push m sound m.obligations w g (λ k h. h) out fresh }

  take_tree : (w : ℕ) (job : Job) → IsDue sys limits m (T.Job job) → IsTreeAfter (E.Take w job) (given_for m job)
  take_tree w (J.Work k) due =
      let next = due_work sys limits m k due in
      let o = next.obligation in
      subst (λ x. IsTreeAfter (E.Take w (J.Work k)) (option_map (λ (o : Obligation). Work k o.level (frame m.clauses (o.level - 1)) o.world) x)) (sym next.there)
      (record {
        tree = settled m.frontier m.obligations sound.tree k o next.there Out (λ e. ready_not_waiting (sym next.ready ∙ e)) (λ _ e. ready_not_done (sym next.ready ∙ e));
        worked = worked_push m sound (set_status Out k m.obligations) w (Work k o.level (frame m.clauses (o.level - 1)) o.world)
            (λ j h. out_stays m.obligations Out k j h (λ same. fresh o next.there next.ready j same h))
            (record { obligation = with_status Out o; there = get-here k (with_status Out) m.obligations o next.there; out = refl })
            (λ j is h. fresh o next.there next.ready j (some_injective k j (ap worked_on is)) h);
      })
    where
      fresh : (o : Obligation) → slice_get m.obligations k ≡ Some o → o.status ≡ Ready → (j : ℕ) → k ≡ j → ¬ IsOutAt m.obligations j
      fresh o there ready j same h =
          ready_not_out (sym ready ∙ ap (λ (y : Obligation). y.status) (two_places m.obligations j o h.obligation (subst (λ i. slice_get m.obligations i ≡ Some o) same there) h.there) ∙ h.out)
  take_tree w J.Look due = plain_tree w _ tt (λ k is. none_is_some k (ap worked_on is))
  take_tree w (J.Push k) due = by (slice_get m.clauses k)
    where
      by : (x : Option Clause) → IsTreeAfter (E.Take w (J.Push k)) (option_map (λ (c : Clause). Push k c.level (cubes_from m.clauses c.level) c.cube) x)
      by None = sound
      by (Some c) = plain_tree w _ tt (λ j is. none_is_some j (ap worked_on is))
  take_tree w (J.Trace k) due = by (slice_get m.obligations k)
    where
      by : (x : Option Obligation) → IsTreeAfter (E.Take w (J.Trace k)) (option_map (λ (o : Obligation). Trace k (m.frontier - o.level)) x)
      by None = sound
      by (Some o) = plain_tree w _ tt (λ j is. none_is_some j (ap worked_on is))

  advance_tree : IsDue sys limits m T.Advance → IsTreeSound (suc m.frontier) m.obligations m.jobs
  advance_tree due =
      let quiet = due_advance sys limits m due in
      record {
        tree = record { parents = λ k o e u. absurd (u (each-of_all m.obligations (λ (o : Obligation). o.status ≡ Done) quiet.finished k o e)); one_child = sound.tree.one_child };
        worked = sound.worked;
      }

  with_job : (e : Event) (job given : Option Given) → job ≡ given → IsTreeAfter e given → IsTreeAfter e job
  with_job e job given is h = subst (IsTreeAfter e) (sym is) h

  pub event_tree : (e : Event) → IsLegal sys limits m e → IsTreeOf (happens m e)
  event_tree (E.Take w job) legal = take_tree w job legal.allowed.due
  event_tree (E.Seed w s) legal = seeded_tree m sound w s
  event_tree (E.Return w why) legal =
      let job = returned_job sys limits m w why legal.allowed in
      with_job (E.Return w why) _ _ job.held (returned_tree m sound w why job.given job.held)
  event_tree (E.Learn w cube) legal = let work = legal.allowed.work in with_job (E.Learn w cube) _ _ work.held (finished_tree m sound w work.obligation work.level work.below work.world work.held)
  event_tree (E.Drop w c) legal = let work = legal.allowed.work in with_job (E.Drop w c) _ _ work.held (finished_tree m sound w work.obligation work.level work.below work.world work.held)
  event_tree (E.Before w (O.Initial u)) legal =
      let work = legal.allowed.work in
      with_job (E.Before w (O.Initial u)) _ _ work.held (settled_tree m sound w work.obligation work.level work.below work.world work.held (Rooted u))
  event_tree (E.Before w (O.Step p)) legal = let work = legal.allowed.work in with_job (E.Before w (O.Step p)) _ _ work.held (preceded_tree m sound w work.obligation work.level work.below work.world work.held p)
  event_tree (E.Raise w) legal = same_tree m sound w
  event_tree (E.Fail w p) legal = same_tree m sound w
  event_tree (E.Secure w) legal = same_tree m sound w
  event_tree (E.Advance w) legal = advance_tree legal.allowed
  event_tree (E.Close w (N.Safe i)) legal = sound
  event_tree (E.Close w N.Bounded) legal = sound
  event_tree (E.Close w N.Spent) legal = sound
  event_tree (E.Close w end) legal = same_tree m sound w
  event_tree (E.Retire w gone by) legal = sound

module _ (sys : System) (limits : Limits) where
  start_tree : IsTreeOf start
  start_tree = record {
    tree = record { parents = Each-nil _; one_child = λ i j k a b e. none_is_some a e };
    worked = record { out = Each-nil _; one_work = λ i j k a b e. none_is_some a e };
  }

  pub history_tree : (history : List Event) → Legal sys limits history → IsTreeOf (replay history)
  history_tree history legal = along sys limits IsTreeOf (λ m e sound legal. event_tree sys limits m sound e legal) start history start_tree legal
