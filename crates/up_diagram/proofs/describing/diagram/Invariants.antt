use Rattle.std.proofs.Common.{◌≡◌, ◌++◌}
use Rattle.std.specs.List.{flat_map, range_with_len}
use Rattle.fo_core.specs.Trials.{element_sorts}
use Rattle.up_diagram.specs.Diagrams.{differ, facts_of}
use Rattle.up_diagram.proofs.describing.diagram.Given as goal

-- what the symbols before this one say is said
abbrev pub invariant-each : goal.invariant-each
invariant-each l = l.lits ≡ differ (element_sorts l.w.sizes) ++ flat_map (facts_of l.sig l.w l.copy) (range_with_len 0 l.k)
