use Rattle.up_claims.proofs.CubeInvariantLemmas.{invariant-there, invariant-back}
use Rattle.up_claims.proofs.verdict_laws.clauses_are_a_universal_invariant_where_cubes_are_avoided.Goals as goal

pub returns : goal.returns
returns c = λ sys cubes known. (invariant-there sys cubes, invariant-back sys cubes known)
