use Rattle.std.proofs.Common.{sym, subst}
use Rattle.up_diagram.specs.Cubes.{IsCube}
use Rattle.up_claims.proofs.infer.add_clauses.Goals as goal

pub clause-requires : goal.clause-requires
clause-requires c = subst (IsCube c.args.sig.now) (sym c.cube-item.is) (c.requires c.each.cube-index c.cube-item.result c.each-test.true)
