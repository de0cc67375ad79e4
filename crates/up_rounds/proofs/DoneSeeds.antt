-- How many seeds are done stays where no obligation begins or ceases to be done.
use Rattle.std.proofs.Common.{◌≡◌, ℕ, zero, suc, Bool, true, false, cond, ◌&&◌, List, [], ◌∷◌, length, filter, Option, None, Some, slice_get, refl, ap, subst, sym, ◌∙◌}
use Rattle.std.specs.Prelude.{option_map}
use Rattle.fo_core.specs.declared.system.System.{System}
use Rattle.up_machine.specs.declared.limits.Limits.{Limits}
use Rattle.up_machine.specs.declared.job.Job.{Job}
use Rattle.up_machine.specs.declared.job.Job.TheVariants as J
use Rattle.up_machine.specs.declared.job.Task.TheVariants as T
use Rattle.up_machine.specs.declared.event.Why.{Why}
use Rattle.up_machine.specs.declared.event.Event.TheVariants as E
use Rattle.up_machine.specs.Machine.{Clause, Status, Ready, Out, Obligation, Given, Work, Look, Push, Trace, Machine, held_by, is_done, is_seed, is_done_seed, done_seeds}
use Rattle.up_machine.specs.Replay.{with_status, set_status, given_work, given_push, given_trace, obligations_after, happens}
use Rattle.up_machine.specs.Due.{IsDue}
use Rattle.up_machine.specs.Sound.{IsOutFor, IsTreeOf}
use Rattle.up_machine.proofs.Dues.{due_work}
use Rattle.up_machine.proofs.Holding.{held-at}
use Rattle.up_machine.proofs.Lists.{some_injective}

abbrev pub dones : List Obligation → ℕ
dones os = length (filter is_done_seed os)

-- one more obligation at the front counts or not
done_more : (b : Bool) (x y : Obligation) (xs ys : List Obligation) → dones xs ≡ dones ys → length (cond b (x ∷ filter is_done_seed xs) (filter is_done_seed xs)) ≡ length (cond b (y ∷ filter is_done_seed ys) (filter is_done_seed ys))
done_more true x y xs ys e = ap suc e
done_more false x y xs ys e = e

done_status : (s : Status) (k : ℕ) (os : List Obligation) (o : Obligation) → slice_get os k ≡ Some o → is_done o.status ≡ is_done s → dones (set_status s k os) ≡ dones os
done_status s k [] o there same = refl
done_status s zero (x ∷ xs) o there same =
    let own : is_done s ≡ is_done x.status = sym (ap (λ (y : Obligation). is_done y.status) (some_injective x o there) ∙ same) in
    done_more (is_seed x && is_done s) (with_status s x) x xs xs refl
    ∙ ap (λ b. length (cond (is_seed x && b) (x ∷ filter is_done_seed xs) (filter is_done_seed xs))) own
done_status s (suc k) (x ∷ xs) o there same = done_more (is_done_seed x) x x (set_status s k xs) xs (done_status s k xs o there same)

-- a job that is taken
pub done_take : (sys : System) (limits : Limits) (m : Machine) (w : ℕ) (job : Job) → IsDue sys limits m (T.Job job) → done_seeds (happens m (E.Take w job)) ≡ done_seeds m
done_take sys limits m w J.Look due = refl
done_take sys limits m w (J.Work k) due =
    let next = due_work sys limits m k due in
    let given = ap (option_map (given_work m.clauses k)) next.there in
    ap (λ g. dones (obligations_after (E.Take w (J.Work k)) g m.frontier m.obligations)) given
    ∙ done_status Out k m.obligations next.obligation next.there (ap is_done next.ready)
done_take sys limits m w (J.Push k) due = by (slice_get m.clauses k)
  where
    by : (x : Option Clause) → dones (obligations_after (E.Take w (J.Push k)) (option_map (given_push m.clauses k) x) m.frontier m.obligations) ≡ dones m.obligations
    by None = refl
    by (Some c) = refl
done_take sys limits m w (J.Trace k) due = by (slice_get m.obligations k)
  where
    by : (x : Option Obligation) → dones (obligations_after (E.Take w (J.Trace k)) (option_map (given_trace m.frontier k) x) m.frontier m.obligations) ≡ dones m.obligations
    by None = refl
    by (Some o) = refl

-- a job that is put back
pub done_return : (m : Machine) (w : ℕ) (why : Why) (g : Given) → IsTreeOf m → held_by m.jobs w ≡ Some g → done_seeds (happens m (E.Return w why)) ≡ done_seeds m
done_return m w why g sound held = ap (λ x. dones (obligations_after (E.Return w why) x m.frontier m.obligations)) held ∙ by g out
  where
    out : IsOutFor m.obligations g
    out = let own = held-at m.jobs w g held in subst (IsOutFor m.obligations) own.given (sound.worked.out own.place own.held own.there)

    by : (x : Given) → IsOutFor m.obligations x → dones (obligations_after (E.Return w why) (Some x) m.frontier m.obligations) ≡ dones m.obligations
    by (Work k level below world) h = done_status Ready k m.obligations h.obligation h.there (ap is_done h.out)
    by (Look level cubes avoid done) h = refl
    by (Push k level cubes cube) h = refl
    by (Trace k steps) h = refl
