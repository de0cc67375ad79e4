use Rattle.std.proofs.Common.{◌≡◌, ◌≤◌, Some, length, slice_get, subst, ◌∙◌, arith}
use Rattle.up_core.proofs.Gathered.{level-more, level-end}
use Rattle.up_core.proofs.clauses.gather_levels.Goals as goal

pub each-preserved : goal.each-preserved
each-preserved c =
    let k = c.live_clause-clause in
    record {
      same = c.mark_level.ensures.same ∙ c.each.invariant.same;
      marked = level-more c.args.entries.now c.each.at k.result.number k.result.entry c.each.levels c.mark_level.new.levels (subst (λ ks. slice_get ks c.each.at ≡ Some k.result.number) c.requires k.ensures.number) k.ensures.there c.mark_level.ensures.same c.mark_level.ensures.marked c.each.invariant.marked;
    }

pub returns-clause-levels : goal.returns-clause-levels
returns-clause-levels c =
    level-end c.args.entries.now c.each.at c.each.levels (subst (λ ks. length ks ≤ c.each.at) c.requires (omega (arith, c.each-test.false, c.each.auto.at-end))) c.each.invariant.marked
