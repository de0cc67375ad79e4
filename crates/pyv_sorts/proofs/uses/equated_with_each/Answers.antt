use Rattle.std.proofs.Common.{◌++◌, ◌+◌, List, drop, sym, ap}
use Rattle.pyv_grammar.specs.declared.tree.Expr.{Expr}
use Rattle.pyv_meaning.specs.declared.variable.Use.{Use}
use Rattle.pyv_meaning.specs.Uses.{equated, equated_with, sides}
use Rattle.pyv_meaning.specs.View.{views}
use Rattle.pyv_sorts.proofs.Appends.{gathers}
use Rattle.pyv_sorts.proofs.uses.equated_with_each.Goals as goal

pub each-preserved : goal.each-preserved
each-preserved c =
    let v = c.args.known.now in
    let i = c.each.term-index in
    let told : List Expr → List Use = λ ts. equated_with c.args.left (sides v.names v.sig (views v.bytes ts) c.args.scope.now) in
    gathers told (equated c.args.left c.side_at.result) c.args.terms.now i _ _ c.each-test.true (sym c.term-item.is)
    (ap (λ s. equated c.args.left s ++ told (drop (i + 1) c.args.terms.now)) (sym c.side_at.ensures)) _ _ _ c.in_ok-equated.ensures c.each.invariant
