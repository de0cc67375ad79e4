-- What workers hold.
use Rattle.std.proofs.Common.{◌≡◌, ℕ, suc, Bool, true, false, cond, not, nat_eq, List, [], ◌∷◌, ◌++◌, find, Option, None, Some, slice_get, refl, sym, ap, ◌∙◌, eqb-true, eq-eqb, true≢false}
use Rattle.std.specs.Prelude.{option_map}
use Rattle.up_machine.specs.declared.end.End.TheVariants as N
use Rattle.up_machine.specs.declared.event.Event.{Event}
use Rattle.up_machine.specs.declared.event.Event.TheVariants as E
use Rattle.up_machine.specs.Machine.{Given, Held, Machine, held_by}
use Rattle.up_machine.specs.Replay.{released, jobs_after, worker_of, job_of_event, happens, run, replay}
use Rattle.up_machine.specs.Sound.{Each}
use Rattle.up_machine.proofs.Lists.{get-find, mapped_some}
use Rattle.up_machine.proofs.Histories.{run-append}

-- where a worker's job stands among the jobs
pub record HeldAt (jobs : List Held) (w : ℕ) (g : Given) : Type 0 where
  pub place : ℕ
  pub held : Held
  pub there : slice_get jobs place ≡ Some held
  pub worker : held.worker ≡ w
  pub given : held.given ≡ g

pub held-at : (jobs : List Held) (w : ℕ) (g : Given) → held_by jobs w ≡ Some g → HeldAt jobs w g
held-at jobs w g e =
    let r = mapped_some (λ (h : Held). h.given) (find (λ (h : Held). nat_eq h.worker w) jobs) g e in
    let f = get-find (λ (h : Held). nat_eq h.worker w) jobs r.0 r.1 in
    record { place = f.0; held = r.0; there = f.1; worker = eqb-true r.0.worker w f.2; given = r.2 }

-- whose job stays when this worker's ends
abbrev pub others : ℕ → Held → Bool
others w h = not (nat_eq h.worker w)

pub not_own : {A : Type 0} (w : ℕ) (h : Held) → others w h ≡ true → h.worker ≡ w → A
not_own w h other same = absurd (true≢false (sym other ∙ ap not (eq-eqb h.worker w same)))

-- the search for one worker passes over another one's job
held-released : (v w : ℕ) → ¬ (v ≡ w) → (jobs : List Held) → held_by (released v jobs) w ≡ held_by jobs w
held-released v w other [] = refl
held-released v w other (h ∷ jobs) = step (nat_eq h.worker v) (nat_eq h.worker w) refl refl (held-released v w other jobs)
  where
    found : List Held → Option Held
    found js = find (λ (x : Held). nat_eq x.worker w) js

    given : Option Held → Option Given
    given o = option_map (λ (x : Held). x.given) o

    step : (a b : Bool) → nat_eq h.worker v ≡ a → nat_eq h.worker w ≡ b → held_by (released v jobs) w ≡ held_by jobs w →
        option_map (λ (x : Held). x.given) (find (λ (x : Held). nat_eq x.worker w) (cond (not a) (h ∷ released v jobs) (released v jobs)))
        ≡ option_map (λ (x : Held). x.given) (cond b (Some h) (find (λ (x : Held). nat_eq x.worker w) jobs))
    step true true p q r = absurd (other (sym (eqb-true h.worker v p) ∙ eqb-true h.worker w q))
    step true false p q r = r
    step false true p q r = ap (λ b. given (cond b (Some h) (found (released v jobs)))) q
    step false false p q r = ap (λ b. given (cond b (Some h) (found (released v jobs)))) q ∙ r

held-pushed : (w : ℕ) (new : Held) → nat_eq new.worker w ≡ false → (jobs : List Held) → held_by (jobs ++ new ∷ []) w ≡ held_by jobs w
held-pushed w new other [] = ap (λ b. option_map (λ (x : Held). x.given) (cond b (Some new) None)) other
held-pushed w new other (h ∷ jobs) = step (nat_eq h.worker w) (held-pushed w new other jobs)
  where
    step : (b : Bool) → held_by (jobs ++ new ∷ []) w ≡ held_by jobs w →
        option_map (λ (x : Held). x.given) (cond b (Some h) (find (λ (x : Held). nat_eq x.worker w) (jobs ++ new ∷ [])))
        ≡ option_map (λ (x : Held). x.given) (cond b (Some h) (find (λ (x : Held). nat_eq x.worker w) jobs))
    step true e = refl
    step false e = e

not_same : (v w : ℕ) → ¬ (v ≡ w) → nat_eq v w ≡ false
not_same v w other = by (nat_eq v w) refl
  where
    by : (b : Bool) → nat_eq v w ≡ b → b ≡ false
    by true e = absurd (other (eqb-true v w e))
    by false e = refl

-- an event leaves what the other workers hold
held-after : (e : Event) (job : Option Given) (w : ℕ) → ¬ (worker_of e ≡ w) → (jobs : List Held) → held_by (jobs_after e job jobs) w ≡ held_by jobs w
held-after (E.Take v j) None w other jobs = refl
held-after (E.Take v j) (Some g) w other jobs = held-pushed w _ (not_same v w other) jobs
held-after (E.Advance v) job w other jobs = refl
held-after (E.Retire v gone by) job w other jobs = refl
held-after (E.Close v (N.Safe i)) job w other jobs = refl
held-after (E.Close v N.Bounded) job w other jobs = refl
held-after (E.Close v N.Spent) job w other jobs = refl
held-after e job w other jobs = held-released (worker_of e) w other jobs

-- so what a worker was given at its take is what it holds when it comes back
pub run-held : (m : Machine) (es : List Event) (w : ℕ) → Each es (λ k e. ¬ (worker_of e ≡ w)) → held_by (run m es).jobs w ≡ held_by m.jobs w
run-held m [] w others = refl
run-held m (e ∷ es) w others =
    run-held (happens m e) es w (λ k f there. others (suc k) f there)
    ∙ held-after e (job_of_event m e) w (others 0 e refl) m.jobs

pub stays-held : (seen rest : List Event) (w : ℕ) → Each rest (λ k e. ¬ (worker_of e ≡ w)) → held_by (replay (seen ++ rest)).jobs w ≡ held_by (replay seen).jobs w
stays-held seen rest w others = ap (λ (m : Machine). held_by m.jobs w) (run-append _ seen rest) ∙ run-held (replay seen) rest w others
