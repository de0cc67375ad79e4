use Rattle.std.proofs.Common.{sym, subst}
use Rattle.up_claims.specs.declared.verdict.Kept.{Kept}
use Rattle.up_diagram.specs.Cubes.{IsCube}
use Rattle.up_report.proofs.writing.push_clauses.Goals as goal

pub push_line-requires-clause-cube : goal.push_line-requires-clause-cube
push_line-requires-clause-cube c =
    subst (λ (kept : Kept). IsCube c.args.sig.now kept.cube) (sym c.kept-item.is) (c.requires.cubes c.each.kept-index c.kept-item.result c.each-test.true)
