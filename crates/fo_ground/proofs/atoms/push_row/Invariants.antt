use Rattle.std.proofs.Common.{◌≡◌, ◌++◌, ◌-◌, map}
use Rattle.std.specs.List.{range_with_len}
use Rattle.fo_ground.specs.declared.grounded.Atom.TheVariants.{Same}
use Rattle.fo_ground.proofs.atoms.push_row.Given as goal

-- the equations with the terms before this one stand behind the atoms
abbrev pub invariant-each : goal.invariant-each
invariant-each l = l.atoms.items ≡ l.fn.atoms.items ++ map (λ q. Same l.place q) (range_with_len l.place (l.q - l.place))
