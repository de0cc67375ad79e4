-- What one pass over the literals of a blocked cube leaves.
use Rattle.std.proofs.Common.{◌≡◌, ℕ, suc, ◌+◌, ◌<◌, List, Option, refl, below_more, arith}
use Rattle.fo_core.specs.declared.system.System.{System}
use Rattle.up_diagram.specs.declared.cube.Cube.{Cube}
use Rattle.up_diagram.specs.Covers.{Covers}
use Rattle.up_diagram.specs.Cubes.{HasPlaces, without}
use Rattle.up_diagram.proofs.Covered.{covers_meets}
use Rattle.up_diagram.proofs.Leaving.{without_covers}
use Rattle.up_claims.specs.Blocked.{Passes, ends, drops, keeps, IsBlocked, IsPass, IsMinimal}
use Rattle.up_claims.proofs.CoverLemmas.{later_covers}

one_rest : (Good : Cube → Type 0) (k : ℕ) (cube rest other : Cube) → Passes Good k cube rest → Passes Good k cube other → rest ≡ other
one_rest Good k cube rest other (ends _ _ h) (ends _ _ g) = refl
one_rest Good k cube rest other (ends _ _ h) (drops _ _ _ lt _ _) = absurd (omega (arith, h, lt))
one_rest Good k cube rest other (ends _ _ h) (keeps _ _ _ lt _ _) = absurd (omega (arith, h, lt))
one_rest Good k cube rest other (drops _ _ _ lt _ _) (ends _ _ g) = absurd (omega (arith, g, lt))
one_rest Good k cube rest other (drops _ _ _ lt good p) (drops _ _ _ _ _ q) = one_rest Good k (without cube k) rest other p q
one_rest Good k cube rest other (drops _ _ _ lt good p) (keeps _ _ _ _ bad q) = absurd (bad good)
one_rest Good k cube rest other (keeps _ _ _ lt _ _) (ends _ _ g) = absurd (omega (arith, g, lt))
one_rest Good k cube rest other (keeps _ _ _ lt bad p) (drops _ _ _ _ good q) = absurd (bad good)
one_rest Good k cube rest other (keeps _ _ _ lt bad p) (keeps _ _ _ _ _ q) = one_rest Good (suc k) cube rest other p q

pub one-pass : (Good : Cube → Type 0) (cube rest other : Cube) → Passes Good 0 cube rest → Passes Good 0 cube other → rest ≡ other
one-pass Good cube rest other p q = one_rest Good 0 cube rest other p q

-- where one cube covers another and is blocked, so is the other
blocked_covered : (sys : System) (frame : Option (List Cube)) (d c : Cube) → Covers d c → IsBlocked sys frame d → IsBlocked sys frame c
blocked_covered sys frame d c covers b = record {
  no_initial = λ w n fits lt start m. b.no_initial w n fits lt start (covers_meets sys.sig w n d c covers m);
  no_step = λ w n fits lt in_frame step m. b.no_step w n fits lt in_frame step (covers_meets sys.sig w (n + 1) d c covers m);
}

module _ (sys : System) (frame : Option (List Cube)) where
  abbrev Good : Cube → Type 0
  Good = IsBlocked sys frame

  -- literals that were kept so far stay needed
  still_needed : (cube : Cube) (k : ℕ) → HasPlaces cube → ((j : ℕ) → j < k → ¬ Good (without cube j)) →
      (j : ℕ) → j < k → ¬ Good (without (without cube k) j)
  still_needed cube k places needed j lt good =
      needed j lt (blocked_covered sys frame (without (without cube k) j) (without cube j) (later_covers cube j k places lt) good)

  leaves_minimal : (k : ℕ) (cube rest : Cube) → HasPlaces cube → Good cube → ((j : ℕ) → j < k → ¬ Good (without cube j)) →
      Passes Good k cube rest → IsMinimal sys frame rest
  leaves_minimal k cube rest places good needed (ends _ _ le) = record { blocked = good; needed = λ j lt. needed j (omega (arith, lt, le)) }
  leaves_minimal k cube rest places good needed (drops _ _ _ lt less p) =
      leaves_minimal k (without cube k) rest (without_covers cube k places).places less (still_needed cube k places needed) p
  leaves_minimal k cube rest places good needed (keeps _ _ _ lt bad p) =
      leaves_minimal (suc k) cube rest places good (λ j below. below_more (λ j. ¬ Good (without cube j)) k needed bad j (omega (arith, below))) p

  pub minimal-pass : (cube rest : Cube) → HasPlaces cube → IsBlocked sys frame cube → IsPass sys frame cube rest → IsMinimal sys frame rest
  minimal-pass cube rest places good p = leaves_minimal 0 cube rest places good (λ j lt. absurd (omega (arith, lt))) p
