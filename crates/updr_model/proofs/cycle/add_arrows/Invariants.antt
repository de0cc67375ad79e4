use Rattle.std.proofs.Common.{◌≡◌, ◌++◌, take}
use Rattle.std.specs.Prelude.{codes, flat_map}
use Rattle.updr_model.specs.Cycles.{sort_name}
use Rattle.updr_model.proofs.cycle.add_arrows.Given as goal

-- the sorts before this one are written
abbrev pub invariant-each : goal.invariant-each
invariant-each l = l.words.items ≡ l.fn.words.items ++ flat_map (λ s. codes " -> " ++ sort_name l.names s) (take l.sort-index l.sorts)
