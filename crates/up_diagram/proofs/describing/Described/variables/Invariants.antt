use Rattle.std.proofs.Common.{◌≡◌, take}
use Rattle.up_diagram.specs.Diagrams.{variables_of}
use Rattle.up_diagram.proofs.describing.Described.variables.Given as goal

-- the elements before this one have their variables
abbrev pub invariant-each : goal.invariant-each
invariant-each l = l.list ≡ variables_of l.self.world.now.sizes (take l.i l.sorts) (take l.i l.elements)
