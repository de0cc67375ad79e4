use Rattle.pyv_strat.proofs.CycleLemmas.{IsBegun}
use Rattle.pyv_strat.proofs.cycle.first_cycle.Given as goal

-- so many edges are chosen
abbrev pub invariant-each : goal.invariant-each
invariant-each l = IsBegun l.edges l.fn.start l.count l.done l.at l.cycle.items
