-- A level that no live clause has makes the clauses above it an invariant.
use Rattle.std.proofs.Common.{◌≡◌, ℕ, zero, suc, ◌-◌, ◌<◌, ◌≤◌, ◌⊎◌, inl, inr, true, nat_le, List, [], Some, slice_get, leb-true, arith}
use Rattle.std.specs.List.{All}
use Rattle.std.proofs.lemmas.Bool.{cases_lt}
use Rattle.fo_core.specs.declared.system.System.{System}
use Rattle.fo_core.specs.declared.world.World.{World}
use Rattle.fo_core.specs.Runs.{IsState}
use Rattle.up_claims.specs.Blocked.{NoInitial, NoStep, NoSeed}
use Rattle.up_claims.specs.CubeInvariants.{AreInvariant}
use Rattle.up_claims.specs.Frames.{Avoids, IsInFrame}
use Rattle.up_machine.specs.Machine.{Clause, Machine, is_from, cubes_from, frame}
use Rattle.up_machine.specs.Due.{IsClosedLevel}
use Rattle.up_machine.specs.Sound.{Each, IsSoundClause, IsFrameSound}
use Rattle.up_machine.proofs.Lists.{kept-all, each-of_all, second_true}
use Rattle.up_machine.proofs.Frames.{avoids-each, each-avoids}

module _ (sys : System) (n : ℕ) (cs : List Clause) (sound : Each cs (λ k c. IsSoundClause sys n cs c)) (i : ℕ) (low : 1 ≤ i) (none : Each cs (λ k c. c.live ≡ true → ¬ (c.level ≡ i))) where
  -- to avoid the clauses above the level is to avoid those of the level, and of each later one
  avoids_from : (w : World) (c j : ℕ) → Avoids sys.sig w c (cubes_from cs (suc i)) → i ≤ j → Avoids sys.sig w c (cubes_from cs j)
  avoids_from w c j h le = each-avoids sys cs j w c (λ k cl e live ge. avoids-each sys cs (suc i) w c h k cl e live (higher k cl e live ge))
    where
      higher : (k : ℕ) (cl : Clause) → slice_get cs k ≡ Some cl → cl.live ≡ true → j ≤ cl.level → suc i ≤ cl.level
      higher k cl e live ge = by_less (cases_lt i cl.level)
        where
          by_less : (i < cl.level) ⊎ (cl.level ≤ i) → suc i ≤ cl.level
          by_less (inl lt) = omega (arith, lt)
          by_less (inr small) = let same : cl.level ≡ i = omega (arith, ge, le, small) in absurd (none k cl e live same)

  in_frame : (w : World) (c j : ℕ) → IsState sys w c → Avoids sys.sig w c (cubes_from cs (suc i)) → i ≤ j → IsInFrame sys (frame cs j) w c
  in_frame w c zero state h le = absurd (omega (arith, low, le))
  in_frame w c (suc j) state h le = (state, avoids_from w c (suc j) h le)

  keeps_on : All (NoStep sys (Some (cubes_from cs (suc i)))) (cubes_from cs (suc i))
  keeps_on =
      kept-all (λ (x : Clause). x.cube) (NoStep sys (Some (cubes_from cs (suc i)))) (is_from (suc i)) cs
      (λ k cl e t w c fits lt here step meets.
      (sound k cl e).no_step w c fits lt (in_frame w c (cl.level - 1) here.0 here.1 (omega (arith, leb-true (suc i) cl.level (second_true cl.live (nat_le (suc i) cl.level) t)))) step meets)

  invariant_above : (secure : ℕ) → i ≤ secure → NoSeed sys (cubes_from cs secure) [] → AreInvariant sys (cubes_from cs (suc i))
  invariant_above secure le no_bad =
      record {
        starts = kept-all (λ (x : Clause). x.cube) (NoInitial sys) (is_from (suc i)) cs (λ k cl e t. (sound k cl e).no_initial);
        keeps = keeps_on;
        safe = λ w c fits lt state here bad apart. no_bad w c fits lt state (avoids_from w c secure here le) bad apart;
      }

-- Finish with Safe is due only where the clauses above the level are an invariant
pub safe_holds : (sys : System) (m : Machine) (i : ℕ) → IsFrameSound sys m → IsClosedLevel m i → AreInvariant sys (cubes_from m.clauses (suc i))
safe_holds sys m i sound closed =
    invariant_above sys m.frontier m.clauses sound.each_clause i closed.low (each-of_all m.clauses (λ c. c.live ≡ true → ¬ (c.level ≡ i)) closed.none) m.secure closed.high
    (sound.secure_holds (omega (arith, closed.low, closed.high)))
