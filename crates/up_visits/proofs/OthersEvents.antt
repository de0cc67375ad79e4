-- A shared history goes on.
use Rattle.std.proofs.Common.{◌≡◌, ℕ, Bool, true, false, cond, nat_eq, List, [], ◌∷◌, ◌++◌, length, Option, Some, refl, sym, ap, subst, ◌∙◌, eq-eqb, true≢false, arith}
use Rattle.std.proofs.lemmas.List.{append-nil, append_cancel_left}
use Rattle.turnstile.proofs.Histories.{entries_of-append}
use Rattle.up_machine.specs.declared.end.End.{End}
use Rattle.up_machine.specs.declared.event.Event.{Event}
use Rattle.up_machine.specs.declared.event.Event.TheVariants as E
use Rattle.up_machine.specs.Machine.{Machine, start, held_by}
use Rattle.up_machine.specs.Replay.{ending_after, happens, run, replay, worker_of}
use Rattle.up_machine.specs.Sound.{Each}
use Rattle.up_machine.proofs.Histories.{run-append}
use Rattle.up_machine.proofs.Holding.{stays-held}
use Rattle.up_machine.proofs.Lists.{Each-cons, Each-nil}
use Rattle.up_visits.specs.Passes.{HasEnded, events_of}

abbrev AreOthers : ℕ → List Event → Type 0
AreOthers w es = Each es (λ k e. ¬ (worker_of e ≡ w))

-- where the worker has no event among some, they are those of others
none_own : (w : ℕ) (es : List Event) → events_of w es ≡ [] → AreOthers w es
none_own w [] none = Each-nil (λ k e. ¬ (worker_of e ≡ w))
none_own w (e ∷ es) none = step (nat_eq (worker_of e) w) refl (none_own w es) none
  where
    step : (b : Bool) → nat_eq (worker_of e) w ≡ b → (events_of w es ≡ [] → AreOthers w es) → cond b (e ∷ events_of w es) (events_of w es) ≡ [] → AreOthers w (e ∷ es)
    step true is rest none = let l = ap length none in absurd (omega (arith, l))
    step false is rest none = Each-cons e es (λ k e. ¬ (worker_of e ≡ w)) (λ same. true≢false (sym (eq-eqb (worker_of e) w same) ∙ is)) (rest none)

-- what a worker holds stays through the events of others
pub still_held : (seen rest : List Event) (w : ℕ) → events_of w (seen ++ rest) ≡ events_of w seen → held_by (replay (seen ++ rest)).jobs w ≡ held_by (replay seen).jobs w
still_held seen rest w same =
    let none : events_of w rest ≡ [] = append_cancel_left (events_of w seen) (events_of w rest) [] (sym (entries_of-append worker_of w seen rest) ∙ (same ∙ sym (append-nil (events_of w seen)))) in
    stays-held seen rest w (none_own w rest none)

-- an end stays
ended_after : (e : Event) (o : Option End) → ((x : End) × (o ≡ Some x)) → (x : End) × (ending_after e o ≡ Some x)
ended_after (E.Close w end) o h = (end, refl)
ended_after (E.Seed w s) o h = h
ended_after (E.Take w j) o h = h
ended_after (E.Return w y) o h = h
ended_after (E.Learn w c) o h = h
ended_after (E.Before w b) o h = h
ended_after (E.Drop w c) o h = h
ended_after (E.Raise w) o h = h
ended_after (E.Fail w p) o h = h
ended_after (E.Secure w) o h = h
ended_after (E.Advance w) o h = h
ended_after (E.Retire w gone by) o h = h

pub ended_on : (m : Machine) (e : Event) → HasEnded m → HasEnded (happens m e)
ended_on m e h = ended_after e m.ending h

run_ended : (m : Machine) (es : List Event) → HasEnded m → HasEnded (run m es)
run_ended m [] h = h
run_ended m (e ∷ es) h = run_ended (happens m e) es (ended_on m e h)

pub still_ended : (seen rest : List Event) → HasEnded (replay seen) → HasEnded (replay (seen ++ rest))
still_ended seen rest h = subst HasEnded (sym (run-append start seen rest)) (run_ended (replay seen) rest h)
