use Rattle.std.proofs.Common.{◌∙◌, subst}
use Rattle.up_jobs.specs.Solving.{IsSolved}
use Rattle.up_rounds.proofs.Shares.{AllZip-one_more}
use Rattle.up_rounds.proofs.crew.solve_all.Goals as goal

pub each-preserved : goal.each-preserved
each-preserved g c =
    let limit = g.F.Finder.limit c.args.finder.now in
    let solves = IsSolved c.args.sys.now in
    let brief = c.brief-item.result in
    let answer = c.in_ok-solve_brief.field-0 in
    record {
      limit = c.in_ok-solve_brief.ensures.limit ∙ c.each.invariant.limit;
      solved = rw c.in_ok-push.ensures.items
          (AllZip-one_more (solves limit) c.args.briefs.now c.each.answers.items c.each.brief-index
          brief answer c.each-test.true c.brief-item.is c.each.invariant.solved
          (subst (λ n. solves n brief answer) c.each.invariant.limit
          c.in_ok-solve_brief.ensures.solved));
    }
