-- Queries that are asked of one cube after the other.
use Rattle.std.specs.Prelude.{◌≡◌, ℕ, ◌<◌, List, [], ◌∷◌, ◌++◌}
use Rattle.std.specs.List.{All}
use Rattle.fo_core.specs.declared.formula.Formula.{Formula}
use Rattle.fo_core.specs.declared.query.Query.{Query}
use Rattle.fo_core.specs.declared.signature.Sig.{Sig}
use Rattle.fo_core.specs.declared.system.System.{System}
use Rattle.fo_core.specs.Queries.{MeetsQuery}
use Rattle.up_block.specs.declared.question.Question.{Question}
use Rattle.up_diagram.specs.declared.cube.Cube.{Cube}
use Rattle.up_diagram.specs.Claims.{claim}

-- the query of this cube
abbrev pub query_for : Sig → Question → Cube → Query
query_for sig q cube = record { copies = q.query.copies; claims = q.query.claims ++ claim sig cube q.copy ∷ [] }

-- the question that the query asks, with no world found yet
pub record IsFirst (query : Query) (copy : ℕ) (q : Question) : Type 0 where
  pub copies : q.query.copies ≡ query.copies
  pub claims : (fs : List Formula) (f : Formula) → query.claims ≡ fs ++ f ∷ [] → q.query.claims ≡ fs
  pub about : q.copy ≡ copy
  pub none : q.worlds.items ≡ []

-- the question is about a copy that is there, and its worlds meet all but the claim about the cube
pub record IsQuestion (sys : System) (q : Question) : Type 0 where
  pub copy : q.copy < q.query.copies
  pub found : All (MeetsQuery sys.sig q.query) q.worlds.items

-- the same question, maybe with more worlds
pub record IsLater (sys : System) (old later : Question) : Type 0 where
  pub query : later.query ≡ old.query
  pub copy : later.copy ≡ old.copy
  pub question : IsQuestion sys later
