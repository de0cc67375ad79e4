-- Queries: claims about worlds of some copies.
use Rattle.std.specs.Prelude.{◌≡◌, ◌≤◌, [], length}
use Rattle.std.specs.List.{All}
use Rattle.fo_core.specs.declared.signature.Sig.{Sig}
use Rattle.fo_core.specs.declared.query.Query.{Query}
use Rattle.fo_core.specs.declared.world.World.{World}
use Rattle.fo_core.specs.Sorted.{IsFormula}
use Rattle.fo_core.specs.Tables.{Fits}
use Rattle.fo_core.specs.Truth.{Truth}

-- the query is well-sorted: it has a copy, and its claims are closed and speak of its copies alone
pub record IsQuery (sig : Sig) (q : Query) : Type 0 where
  pub copies : 1 ≤ q.copies
  pub claims : All (λ f. IsFormula sig q.copies f []) q.claims

-- the world is one for the signature, has as many copies as the query, and all claims are true
-- with copies counted from 0
pub record MeetsQuery (sig : Sig) (q : Query) (w : World) : Type 0 where
  pub fits : Fits sig w
  pub copies : length w.copies ≡ q.copies
  pub claims : All (λ f. Truth sig w 0 f []) q.claims
