use Rattle.up_rounds.specs.Taking.{AreTaking}
use Rattle.up_rounds.proofs.taking.take_jobs.Given as goal

abbrev pub invariant-seats : goal.invariant-seats
invariant-seats l = AreTaking l.fn.core l.briefs.items l.seat l.core
