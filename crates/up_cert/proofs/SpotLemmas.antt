-- A run has no spot that fails, and where no spot fails there is a run.
use Rattle.std.proofs.Common.{◌≡◌, ℕ, zero, suc, Bool, true, false, not, true≢false, ◌↔◌, ◌⊎◌, inl, inr, Option, Some, None, ◌+◌, ◌<◌, ◌≤◌, [], length, get_or, refl, ap, subst, sym, ◌∙◌, arith, add-one}
use Rattle.std.specs.Prelude.{MatchOption, is_some}
use Rattle.std.proofs.lemmas.Bool.{cases_lt}
use Rattle.fo_core.specs.declared.system.Step.{Step}
use Rattle.std.specs.List.{All}
use Rattle.fo_core.specs.declared.system.System.{System}
use Rattle.std.proofs.lemmas.List.{get_or_default}
use Rattle.fo_core.specs.declared.formula.Formula.{True}
use Rattle.fo_core.specs.declared.world.World.{World}
use Rattle.fo_core.specs.Truth.{Truth}
use Rattle.fo_core.specs.Runs.{IsState, IsInitial, IsStep, IsRun, IsViolatingRun, Violates}
use Rattle.fo_eval.specs.Values.{Values}
use Rattle.fo_eval.specs.Asked.{CanJudge, IsFirstFalse, IsFirstStep}
use Rattle.up_cert.specs.Spots.{AreStates, FirstNoState}

-- what may be judged at copy 0 may be judged at each copy
pub judge-at : (sys : System) (w : World) (c : ℕ) (env : Values) → CanJudge sys w 0 env → c < length w.copies → CanJudge sys w c env
judge-at sys w c env h lt = record { system = h.system; readable = h.readable; within = lt; empty = h.empty; room = h.room }

module _ (sys : System) (w : World) where
  -- each copy of a run is a state
  pub run-states : IsRun sys w → AreStates sys w (length w.copies)
  run-states run zero lt = run.initial.state
  run-states run (suc c) lt =
      let next : c + 1 < length w.copies = omega arith in
      let P : ℕ → Type 0 = λ k. IsState sys w k in
      subst P (add-one c) (run.steps c next).next_state

  pub no-state : (k : ℕ) → FirstNoState sys w k → ¬ IsViolatingRun sys w
  no-state k spot bad = spot.fails (run-states bad.run k spot.within)

  pub not-initial : ¬ IsInitial sys w 0 → ¬ IsViolatingRun sys w
  not-initial fails bad = fails bad.run.initial

  pub no-step : (k : ℕ) → k + 1 < length w.copies → ¬ IsStep sys w k → ¬ IsViolatingRun sys w
  no-step k lt fails bad = fails (bad.run.steps k lt)

  -- where all safeties are true none is violated
  pub none-violated : (c : ℕ) → All (λ f. Truth sys.sig w c f []) sys.safeties → ¬ Violates sys w c
  none-violated c all a = a.4 (subst (λ f. Truth sys.sig w c f []) a.3 (all a.0 a.1 a.2))

  pub first-violated : (c k : ℕ) → IsFirstFalse sys.sig w c sys.safeties k → Violates sys w c
  first-violated c k first = (k, get_or sys.safeties k True, first.within, get_or_default sys.safeties k (get_or sys.safeties k True) True first.within, first.false_here True)

  -- what an answer of `is_step` or `violates` says
  pub stepped : (c : ℕ) (r : Option ℕ) → MatchOption r (¬ IsStep sys w c) (IsFirstStep sys w c) → is_some r ≡ true → IsStep sys w c
  stepped c None h e = absurd (true≢false (sym e))
  stepped c (Some k) h e = record {
    state = h.state;
    next_state = h.next_state;
    leads = (k, get_or sys.steps k no_step_at, h.within, get_or_default sys.steps k (get_or sys.steps k no_step_at) no_step_at h.within, h.leads no_step_at);
  }
    where
      no_step_at : Step
      no_step_at = record { modifies = []; params = []; body = True }

  pub unviolated : (c : ℕ) (r : Option ℕ) → MatchOption r (All (λ f. Truth sys.sig w c f []) sys.safeties) (IsFirstFalse sys.sig w c sys.safeties) → is_some r ≡ false → ¬ Violates sys w c
  unviolated c None h e = none-violated c h
  unviolated c (Some k) h e = absurd (true≢false e)

  pub violated : (c : ℕ) (r : Option ℕ) → MatchOption r (All (λ f. Truth sys.sig w c f []) sys.safeties) (IsFirstFalse sys.sig w c sys.safeties) → is_some r ≡ true → Violates sys w c
  violated c None h e = absurd (true≢false (sym e))
  violated c (Some k) h e = first-violated c k h

  -- no answer where a spot fails, and one where none does
  pub fails : ¬ IsViolatingRun sys w → (true ≡ false) ↔ IsViolatingRun sys w
  fails no_run = (λ e. absurd (true≢false e), λ run. absurd (no_run run))

  pub holds : IsViolatingRun sys w → (false ≡ false) ↔ IsViolatingRun sys w
  holds run = (λ _. run, λ _. refl)

pub not_false : (b a : Bool) → a ≡ not b → b ≡ false → a ≡ true
not_false b a e f = e ∙ ap not f

pub not_true : (b a : Bool) → a ≡ not b → b ≡ true → a ≡ false
not_true b a e f = e ∙ ap not f

-- one more place of which it holds
pub one_more : (P : ℕ → Type 0) (n : ℕ) → ((k : ℕ) → k < n → P k) → P n → (k : ℕ) → k < n + 1 → P k
one_more P n before here k lt = by_place (cases_lt k n)
  where
    by_place : (k < n) ⊎ (n ≤ k) → P k
    by_place (inl below) = before k below
    by_place (inr le) = let same : n ≡ k = omega arith in subst P same here
