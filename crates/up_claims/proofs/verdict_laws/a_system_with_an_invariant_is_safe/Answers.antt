use Rattle.up_claims.proofs.HoldingLemmas.{invariant-is-safe}
use Rattle.up_claims.proofs.verdict_laws.a_system_with_an_invariant_is_safe.Goals as goal

pub returns : goal.returns
returns c = invariant-is-safe
