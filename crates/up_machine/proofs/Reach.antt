-- What a run reaches within i steps is in frame i, and frames rise.
use Rattle.std.proofs.Common.{◌≡◌, ℕ, zero, suc, ◌+◌, ◌-◌, ◌<◌, ◌≤◌, List, length, subst, arith}
use Rattle.fo_core.specs.declared.system.System.{System}
use Rattle.fo_core.specs.declared.world.World.{World}
use Rattle.fo_core.specs.Tables.{Fits}
use Rattle.fo_core.specs.Runs.{IsInitial, IsStep, IsRun}
use Rattle.up_claims.specs.Frames.{IsInFrame}
use Rattle.up_machine.specs.Machine.{Clause, frame}
use Rattle.up_machine.specs.Sound.{Each, IsSoundClause}
use Rattle.up_machine.proofs.Frames.{avoids-each, each-avoids}

module _ (sys : System) (n : ℕ) (cs : List Clause) (sound : Each cs (λ k c. IsSoundClause sys n cs c)) where
  abbrev IsThere : ℕ → World → ℕ → Type 0
  IsThere i w c = IsInFrame sys (frame cs i) w c

  initial_in : (w : World) (c i : ℕ) → Fits sys.sig w → c < length w.copies → IsInitial sys w c → IsThere i w c
  initial_in w c zero fits lt h = h
  initial_in w c (suc i) fits lt h = (h.state, each-avoids sys cs (suc i) w c (λ k cl e live le meets. (sound k cl e).no_initial w c fits lt h meets))

  step_in : (w : World) (c i : ℕ) → Fits sys.sig w → c + 1 < length w.copies → IsStep sys w c → ((j : ℕ) → c ≤ j → IsThere j w c) → c + 1 ≤ i → IsThere i w (c + 1)
  step_in w c zero fits lt step here le = absurd (omega (arith, le))
  step_in w c (suc i) fits lt step here le = (
    step.next_state,
    each-avoids sys cs (suc i) w (c + 1) (λ k cl e live ge meets. (sound k cl e).no_step w c fits lt (here (cl.level - 1) (omega (arith, le, ge))) step meets),
  )

  pub reached_in : (w : World) → IsRun sys w → (c : ℕ) → c < length w.copies → (i : ℕ) → c ≤ i → IsThere i w c
  reached_in w r zero lt i le = initial_in w zero i r.fits lt r.initial
  reached_in w r (suc c) lt i le =
      let e : c + 1 ≡ suc c = omega arith in
      subst (IsThere i w) e (step_in w c i r.fits (omega (arith, lt)) (r.steps c (omega (arith, lt))) (reached_in w r c (omega (arith, lt))) (omega (arith, le)))

  -- frames rise: each state of a frame is one of the next
  pub rises : (i : ℕ) (w : World) (c : ℕ) → Fits sys.sig w → c < length w.copies → IsThere i w c → IsThere (suc i) w c
  rises zero w c fits lt h = initial_in w c 1 fits lt h
  rises (suc i) w c fits lt h = (h.0, each-avoids sys cs (suc (suc i)) w c (λ k cl e live le. avoids-each sys cs (suc i) w c h.1 k cl e live (omega (arith, le))))
