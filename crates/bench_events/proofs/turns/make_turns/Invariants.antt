use Rattle.bench_events.specs.Idle.{IsIdle}
use Rattle.bench_events.proofs.turns.make_turns.Given as goal

abbrev pub invariant-turns : goal.invariant-turns
invariant-turns l = IsIdle l.core
