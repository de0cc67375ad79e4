use Rattle.std.proofs.Common.{◌≡◌, ◌++◌, map, take}
use Rattle.up_diagram.specs.Diagrams.{fact_of}
use Rattle.up_diagram.proofs.describing.Described.push_facts.Given as goal

-- what the symbol says of the tuples before this one is said
abbrev pub invariant-each : goal.invariant-each
invariant-each l = l.lits ≡ l.fn.lits ++ map (fact_of l.self.sig.now l.self.world.now l.self.copy l.symbol) (take l.tuple-index l.tuple-items)
