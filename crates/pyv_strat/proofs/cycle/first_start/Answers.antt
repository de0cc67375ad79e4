use Rattle.std.proofs.Common.{◌≤◌, arith}
use Rattle.pyv_strat.proofs.StartLemmas.{none-more, none-fewer, better, best-kept, answer}
use Rattle.pyv_strat.proofs.cycle.first_start.Goals as goal
use Rattle.pyv_strat.proofs.cycle.first_start.Goals.{in-Some, in_default}

pub each-preserved : goal.each-preserved
each-preserved c =
    let edges = c.args.edges.now in
    let limit = c.each.limit in
    let sort = c.each.sort in
    elim c.match-branch-2.branch [
      | in-Some w ↦
          let found = rw w.in-Some.is at c.in_ok-between.ensures in
          let less : w.in-Some.between ≤ limit = omega (arith, found.0) in
          rw (w.best-is, w.limit-is) record {
            fewest = none-more edges w.in-Some.between sort (λ a lt. none-fewer edges limit w.in-Some.between less a (c.each.invariant.fewest a lt)) found.2;
            none = tt;
            some = better edges c.args.sorts limit sort w.in-Some.between c.each.invariant.few found.0 found.1 c.each.invariant.fewest;
            few = omega (arith, found.0, c.each.invariant.few);
          }
      | in_default w ↦
          let none = rw w.in_default.is at c.in_ok-between.ensures in
          rw (w.best-is, w.limit-is) record {
            fewest = none-more edges limit sort c.each.invariant.fewest none;
            none = c.each.invariant.none;
            some = best-kept edges c.args.sorts limit sort c.each.best c.each.invariant.some;
            few = c.each.invariant.few;
          }
    ]

pub returns : goal.returns
returns c = answer c.args.edges.now c.args.sorts c.each.limit c.each.sort c.each.best c.each-test.false c.each.auto.sort-end c.each.invariant.fewest c.each.invariant.none c.each.invariant.some
