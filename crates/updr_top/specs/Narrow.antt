-- Numbers of a verdict that lie in the ranges of texts by their types, and those of variables.
use Rattle.std.specs.Prelude.{◌<◌, ◌^◌, length, ⊤}
use Rattle.std.specs.List.{All}
use Rattle.fo_core.specs.declared.world.World.{World}
use Rattle.up_claims.specs.declared.verdict.Kept.{Kept}
use Rattle.up_claims.specs.declared.verdict.Leave.{Leave}
use Rattle.up_claims.specs.declared.verdict.Link.{Link}
use Rattle.up_claims.specs.declared.verdict.Verdict.{Verdict}
use Rattle.up_claims.specs.declared.verdict.Verdict.TheVariants as verdict

-- each size is a number of 32 bits
abbrev pub IsNarrowWorld : World → Type 0
IsNarrowWorld w = All (λ n. n < 2 ^ 32) w.sizes

-- the sizes of both worlds are
pub record IsNarrowLink (link : Link) : Type 0 where
  pub origin : IsNarrowWorld link.origin
  pub state : IsNarrowWorld link.state

-- the sizes of the world are, and the clause's number
pub record IsNarrowLeave (leave : Leave) : Type 0 where
  pub step : IsNarrowWorld leave.step
  pub clause : leave.clause < 2 ^ 32

-- a clause has fewer than 2^32 variables
abbrev pub HasFewVariables : Kept → Type 0
HasFewVariables kept = length kept.cube.sorts < 2 ^ 32

-- so it is with all worlds, clauses and numbers of a verdict
abbrev pub IsNarrow : Verdict → Type 0
IsNarrow (verdict.Safe frame clauses) = All HasFewVariables clauses
IsNarrow (verdict.Unsafe run) = IsNarrowWorld run
IsNarrow (verdict.NoUniversal links) = All IsNarrowLink links
IsNarrow (verdict.Bounded last clauses leaves) =
    All HasFewVariables clauses × All IsNarrowLeave leaves
IsNarrow (verdict.Spent steps) = steps < 2 ^ 32
IsNarrow (verdict.Over kind weight) = weight < 2 ^ 64
IsNarrow (verdict.NoRun steps) = ⊤
