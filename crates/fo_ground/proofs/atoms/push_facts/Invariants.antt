use Rattle.std.proofs.Common.{◌≡◌, ◌++◌, map}
use Rattle.std.specs.List.{range_with_len}
use Rattle.fo_ground.specs.Numbers.{fact_at}
use Rattle.fo_ground.proofs.atoms.push_facts.Given as goal

-- the facts with smaller numbers stand behind the atoms
abbrev pub invariant-each : goal.invariant-each
invariant-each l = l.atoms.items ≡ l.fn.atoms.items ++ map (fact_at l.lay.sig l.lay.copies l.u l.symbol) (range_with_len 0 l.number)
