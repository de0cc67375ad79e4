-- Each Retire takes one clause away for ever, so there are at most as many as clauses.
use Rattle.std.proofs.Common.{◌≡◌, ℕ, zero, suc, ◌+◌, ◌≤◌, Bool, true, false, cond, not, List, [], ◌∷◌, ◌++◌, length, filter, Option, Some, slice_get, refl, sym, ap, ◌∙◌, arith}
use Rattle.fo_core.specs.declared.system.System.{System}
use Rattle.up_machine.specs.declared.limits.Limits.{Limits}
use Rattle.up_machine.specs.declared.event.Event.{Event}
use Rattle.up_machine.specs.declared.event.Event.TheVariants as E
use Rattle.up_machine.specs.Machine.{Clause, Given, Work, Push, Machine, start}
use Rattle.up_machine.specs.Replay.{change_at, raised, retired, clauses_after, job_of_event, happens, run, replay}
use Rattle.up_machine.specs.Legal.{IsLegal, AreLegal, Legal}
use Rattle.up_machine.specs.Rounds.{retires_of}
use Rattle.up_machine.proofs.Lists.{some_injective, none_is_some}
use Rattle.up_machine.proofs.Frames.{IsRetire}

abbrev is_gone : Clause → Bool
is_gone c = not c.live

abbrev gone_of : List Clause → ℕ
gone_of cs = length (filter is_gone cs)

-- one more clause at the front counts or not
gone_more : (b : Bool) (x y : Clause) (xs ys : List Clause) → gone_of xs ≡ gone_of ys → length (cond b (x ∷ filter is_gone xs) (filter is_gone xs)) ≡ length (cond b (y ∷ filter is_gone ys) (filter is_gone ys))
gone_more true x y xs ys e = ap suc e
gone_more false x y xs ys e = e

gone_push : (cs : List Clause) (c : Clause) → c.live ≡ true → gone_of (cs ++ c ∷ []) ≡ gone_of cs
gone_push [] c live = ap (λ b. length (cond (not b) (c ∷ []) [])) live
gone_push (x ∷ xs) c live = gone_more (is_gone x) x x (xs ++ c ∷ []) xs (gone_push xs c live)

gone_raise : (cs : List Clause) (k : ℕ) → gone_of (change_at k raised cs) ≡ gone_of cs
gone_raise [] k = refl
gone_raise (x ∷ xs) zero = gone_more (is_gone x) (raised x) x xs xs refl
gone_raise (x ∷ xs) (suc k) = gone_more (is_gone x) x x (change_at k raised xs) xs (gone_raise xs k)

gone_retire : (cs : List Clause) (k : ℕ) (c : Clause) → slice_get cs k ≡ Some c → c.live ≡ true → gone_of (change_at k retired cs) ≡ suc (gone_of cs)
gone_retire [] k c e live = none_is_some c e
gone_retire (x ∷ xs) zero c e live = ap (λ b. suc (length (cond (not b) (x ∷ filter is_gone xs) (filter is_gone xs)))) (sym (ap (λ (y : Clause). y.live) (some_injective x c e) ∙ live))
gone_retire (x ∷ xs) (suc k) c e live = step (is_gone x) (gone_retire xs k c e live)
  where
    step : (b : Bool) → gone_of (change_at k retired xs) ≡ suc (gone_of xs) →
        length (cond b (x ∷ filter is_gone (change_at k retired xs)) (filter is_gone (change_at k retired xs))) ≡ suc (length (cond b (x ∷ filter is_gone xs) (filter is_gone xs)))
    step true e = ap suc e
    step false e = e

gone_low : (cs : List Clause) → gone_of cs ≤ length cs
gone_low [] = omega arith
gone_low (x ∷ xs) = step (is_gone x) (gone_low xs)
  where
    step : (b : Bool) → gone_of xs ≤ length xs → length (cond b (x ∷ filter is_gone xs) (filter is_gone xs)) ≤ suc (length xs)
    step true le = omega (arith, le)
    step false le = omega (arith, le)

-- no other event takes a clause away
gone_same : (e : Event) (job : Option Given) (cs : List Clause) → ¬ IsRetire e → gone_of (clauses_after e job cs) ≡ gone_of cs
gone_same (E.Learn w cube) (Some (Work k level below world)) cs plain = gone_push cs _ refl
gone_same (E.Raise w) (Some (Push k level cubes cube)) cs plain = gone_raise cs k
gone_same (E.Retire w gone by) job cs plain = absurd (plain tt)
gone_same e job cs plain = refl

module _ (sys : System) (limits : Limits) where
  step_gone : (m : Machine) (e : Event) (es : List Event) → IsLegal sys limits m e → gone_of (happens m e).clauses + retires_of es ≡ gone_of m.clauses + retires_of (e ∷ es)
  step_gone m (E.Retire w gone by) es legal = let c = legal.allowed in let one = gone_retire m.clauses gone c.old c.there c.live in omega (arith, one)
  step_gone m e es legal = ap (λ n. n + retires_of es) (gone_same e (job_of_event m e) m.clauses (λ h. h))

  run_gone : (m : Machine) (es : List Event) → AreLegal sys limits m es → gone_of (run m es).clauses ≡ gone_of m.clauses + retires_of es
  run_gone m [] legal = omega arith
  run_gone m (e ∷ es) legal = run_gone (happens m e) es legal.1 ∙ step_gone m e es legal.0

  pub retires_low : (history : List Event) → Legal sys limits history → retires_of history ≤ length (replay history).clauses
  retires_low history legal = omega (arith, run_gone start history legal, gone_low (replay history).clauses)
