-- What the judging of a verdict asks for.
use Rattle.std.specs.Prelude.{◌≡◌, ◌-◌, ◌<◌, ◌^◌, [], length, ⊤}
use Rattle.std.specs.List.{All}
use Rattle.fo_core.specs.declared.order.Order.{Order}
use Rattle.fo_core.specs.declared.order.Purpose.TheVariants.{Infer}
use Rattle.fo_core.specs.declared.signature.Sig.{Sig}
use Rattle.fo_core.specs.declared.system.System.{System}
use Rattle.fo_core.specs.SortGraph.{SortEdge, Rises}
use Rattle.fo_core.specs.Sorted.{IsSystem, IsWithinDepth}
use Rattle.fo_core.specs.Tables.{IsReadable}
use Rattle.fo_eval.specs.Values.{Values}
use Rattle.up_claims.specs.declared.verdict.Leave.{Leave}
use Rattle.up_claims.specs.declared.verdict.Link.{Link}
use Rattle.up_claims.specs.declared.verdict.Verdict.{Verdict}
use Rattle.up_claims.specs.declared.verdict.Verdict.TheVariants as verdict
use Rattle.up_claims.specs.Judging.{HasCubes}

-- a link's two worlds fit the signature
pub record HasLinkWorlds (sig : Sig) (link : Link) : Type 0 where
  pub origin : IsReadable sig link.origin
  pub state : IsReadable sig link.state

-- the worlds of a verdict fit the signature
abbrev pub HasWorlds : Sig → Verdict → Type 0
HasWorlds sig (verdict.Unsafe w) = IsReadable sig w
HasWorlds sig (verdict.NoUniversal links) = All (HasLinkWorlds sig) links
HasWorlds sig (verdict.Bounded last clauses leaves) =
    All (λ (leave : Leave). IsReadable sig leave.step) leaves
HasWorlds sig _ = ⊤

-- a bounded verdict has a step for each frame
abbrev pub HasLeaves : Verdict → Type 0
HasLeaves (verdict.Bounded last clauses leaves) = length leaves ≡ last
HasLeaves _ = ⊤

-- its clauses and links have numbers of 32 bits, and so have the copies of the runs it tells of
abbrev pub HasNumbers : Verdict → Type 0
HasNumbers (verdict.Safe frame clauses) = length clauses < 2 ^ 32
HasNumbers (verdict.NoUniversal links) = length links < 2 ^ 32
HasNumbers (verdict.Bounded last clauses leaves) = length clauses < 2 ^ 32
HasNumbers (verdict.NoRun k) = k < 2 ^ 32 - 1
HasNumbers _ = ⊤

-- a verdict over the signature: its clauses are well-sorted, its worlds fit, and where it is bounded it
-- has a step for each frame
pub record IsVerdict (sig : Sig) (told : Verdict) : Type 0 where
  pub cubes : HasCubes sig told
  pub worlds : HasWorlds sig told
  pub leaves : HasLeaves told

-- where queries are asked of a verdict, the order rises along each edge of the system's sort graph
-- for inference
abbrev pub IsOrdered : System → Order → Verdict → Type 0
IsOrdered sys order (verdict.Unsafe w) = ⊤
IsOrdered sys order (verdict.Spent steps) = ⊤
IsOrdered sys order (verdict.Over kind weight) = ⊤
IsOrdered sys order _ = Rises (SortEdge sys Infer) sys.sig.sorts order.numbers

-- the verdict may be judged
pub record CanJudgeVerdict (sys : System) (order : Order) (told : Verdict) : Type 0 where
  pub system : IsSystem sys
  pub shallow : IsWithinDepth 64 sys
  pub fits : IsVerdict sys.sig told
  pub numbers : HasNumbers told
  pub ordered : IsOrdered sys order told

-- inside the crate

-- the system's formulas may be evaluated in this environment: it is empty, and has room for the
-- deepest
pub record CanLook (sys : System) (env : Values) : Type 0 where
  pub system : IsSystem sys
  pub empty : env.bound ≡ []
  pub room : IsWithinDepth env.room sys
