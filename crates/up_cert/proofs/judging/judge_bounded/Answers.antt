use Rattle.up_cert.proofs.VerdictsFound.{frames-left, frames-wrong}
use Rattle.up_cert.proofs.judging.judge_bounded.Goals as goal

pub returns-in_ok-first_unleft-in-Holds-clause-found : goal.returns-in_ok-first_unleft-in-Holds-clause-found
returns-in_ok-first_unleft-in-Holds-clause-found g c =
    let frames = c.in_ok-judged.ensures.found c.args.leaves.now in
    rw c.looked.ensures
    (frames-left c.args.sys.now (g.F.Finder.limit c.args.f.now) c.args.last c.args.clauses.now c.args.leaves.now c.in_ok-first_unleft-in-Holds.field-0
    (rw c.in-Holds.is at frames) c.in_ok-first_unleft-in-Holds.ensures.looks)

pub returns-in_default : goal.returns-in_default
returns-in_default g c = record {
  found = frames-wrong c.args.sys.now (g.F.Finder.limit c.args.f.now) c.args.last c.args.clauses.now c.args.leaves.now c.in_ok-judged.judged
      c.in_default.not-Holds (c.in_ok-judged.ensures.found c.args.leaves.now);
  limit = c.in_ok-judged.ensures.limit;
}
