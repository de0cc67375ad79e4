use Rattle.std.proofs.Common.{◌≡◌, ◌++◌, take}
use Rattle.up_claims.specs.InferQueries.{clauses_of}
use Rattle.up_claims.proofs.infer.add_clauses.Given as goal

-- the cubes before this one are added
abbrev pub invariant-each : goal.invariant-each
invariant-each l = l.claims ≡ l.fn.claims ++ clauses_of l.sig (take l.cube-index l.cubes)
