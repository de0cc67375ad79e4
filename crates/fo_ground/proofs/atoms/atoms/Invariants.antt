use Rattle.std.proofs.Common.{◌≡◌, ◌++◌, length, take}
use Rattle.std.specs.List.{range_with_len, flat_map}
use Rattle.fo_ground.specs.Numbers.{row, rows, facts_of}
use Rattle.fo_ground.proofs.atoms.atoms.Given as goal

-- the rows before this one stand there
abbrev pub invariant-rows : goal.invariant-rows
invariant-rows l = l.atoms.items ≡ flat_map (row l.lay.sig l.lay.copies l.u) (take l.place (range_with_len 0 (length l.u.terms)))

-- all rows stand there, and the facts of the symbols before this one
abbrev pub invariant-facts : goal.invariant-facts
invariant-facts l = l.atoms.items ≡ rows l.lay.sig l.lay.copies l.u ++ flat_map (facts_of l.lay.sig l.lay.copies l.u) (take l.symbol (range_with_len 0 (length l.lay.sig.symbols)))
