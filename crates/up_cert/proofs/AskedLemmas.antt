-- The clauses of a verdict that may be judged.
use Rattle.std.proofs.Common.{ℕ, List}
use Rattle.fo_core.specs.declared.order.Order.{Order}
use Rattle.fo_core.specs.declared.system.System.{System}
use Rattle.up_claims.specs.declared.verdict.Kept.{Kept}
use Rattle.up_claims.specs.declared.verdict.Leave.{Leave}
use Rattle.up_claims.specs.declared.verdict.Verdict.TheVariants as verdict
use Rattle.up_cert.specs.Asked.{CanJudgeVerdict}
use Rattle.up_cert.specs.Clauses.{AreClauses}

module _ (sys : System) (order : Order) where
  pub safe-clauses : (frame : ℕ) (clauses : List Kept) → CanJudgeVerdict sys order (verdict.Safe frame clauses) → AreClauses sys.sig clauses
  safe-clauses frame clauses h = record { sorted = h.fits.cubes; few = h.numbers }

  pub bounded-clauses : (last : ℕ) (clauses : List Kept) (leaves : List Leave) → CanJudgeVerdict sys order (verdict.Bounded last clauses leaves) → AreClauses sys.sig clauses
  bounded-clauses last clauses leaves h = record { sorted = h.fits.cubes; few = h.numbers }
