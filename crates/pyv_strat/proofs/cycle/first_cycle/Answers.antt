use Rattle.std.proofs.Common.{◌≡◌, ℕ, suc, ◌+◌, ◌-◌, ◌<◌, [], ◌∙◌, subst, refl, arith}
use Rattle.pyv_strat.proofs.CycleLemmas.{IsBegun, begun-none, begun-more, first-cycle}
use Rattle.pyv_strat.proofs.NumberLemmas.{ends_within}
use Rattle.pyv_strat.proofs.cycle.first_cycle.Goals as goal

pub each-init : goal.each-init
each-init c = rw (c.in_ok-push.ensures.items, c.new-cycle.ensures.items) (begun-none c.args.edges.now c.args.start c.requires.start.returns (c.args.start.between + 1) refl)

pub least_next-at-requires-clause-len : goal.least_next-at-requires-clause-len
least_next-at-requires-clause-len c =
    let m = c.args.start.between + 1 - 1 - c.each.done in
    let lt : m < c.args.start.between + 1 = omega arith in
    rw (c.as_slice-layer.ensures, c.at.ensures []) (c.in_ok-layers.ensures.long m lt)

pub least_next-at-requires-clause-some : goal.least_next-at-requires-clause-some
least_next-at-requires-clause-some c =
    let m = c.args.start.between + 1 - 1 - c.each.done in
    let lt : m < c.args.start.between + 1 = omega arith in
    let whole : suc m + c.each.done ≡ c.args.start.between + 1 = omega (arith, c.each-test.true) in
    let step = c.each.invariant.back (suc m) whole in
    rw (c.as_slice-layer.ensures, c.at.ensures []) (step.0, step.1, (c.in_ok-layers.ensures.each m lt step.0).1 step.2)

pub each-preserved : goal.each-preserved
each-preserved c =
    let edges = c.args.edges.now in
    let start = c.args.start in
    let m = start.between + 1 - 1 - c.each.done in
    let lt : m < start.between + 1 = omega arith in
    let whole : suc m + c.each.done ≡ start.between + 1 = omega (arith, c.each-test.true) in
    let marked = rw (c.as_slice-layer.ensures, c.at.ensures []) at c.least_next-at.ensures.marked in
    let least = rw (c.as_slice-layer.ensures, c.at.ensures []) at c.least_next-at.ensures.least in
    let layer = c.in_ok-layers.ensures.each m lt in
    rw c.in_ok-push-2.ensures.items (begun-more edges start (start.between + 1) c.each.done c.each.at c.least_next-at.result m c.each.cycle.items c.each.invariant whole c.least_next-at.ensures.edge ((layer c.least_next-at.result).0 marked) (λ b e r. least b e ((layer b).1 r)))

pub returns : goal.returns
returns c =
    let edges = c.args.edges.now in
    let start = c.args.start in
    let same : c.each.done ≡ start.between + 1 = omega (arith, c.each-test.false, c.each.auto.done-end) in
    first-cycle edges c.args.sorts start c.requires.start (ends_within edges c.args.sorts c.requires.within) (start.between + 1) c.each.at c.each.cycle.items refl (subst (λ n. IsBegun edges start (start.between + 1) n c.each.at c.each.cycle.items) same c.each.invariant)
