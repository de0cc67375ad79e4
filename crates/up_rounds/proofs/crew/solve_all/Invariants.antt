use Rattle.std.proofs.Common.{◌≡◌, take}
use Rattle.std.specs.List.{AllZip}
use Rattle.up_jobs.specs.Solving.{IsSolved}
use Rattle.up_rounds.proofs.crew.solve_all.Given as goal

abbrev pub invariant-each : goal.invariant-each
invariant-each g l = record {
  limit : g.F.Finder.limit l.finder ≡ g.F.Finder.limit l.fn.finder;
  solved : AllZip (IsSolved l.sys (g.F.Finder.limit l.fn.finder)) (take l.brief-index l.briefs) l.answers.items;
}
