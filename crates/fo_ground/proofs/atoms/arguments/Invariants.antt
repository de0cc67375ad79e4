use Rattle.std.proofs.Common.{◌≡◌, ◌++◌, ◌<◌, map, drop}
use Rattle.fo_core.specs.Weights.{power}
use Rattle.fo_ground.specs.Numbers.{count_of}
use Rattle.fo_ground.proofs.atoms.arguments.Given as goal
use Rattle.fo_terms.specs.Blocks.{raised}
use Rattle.fo_core.specs.Tuples.{tuple_at}

-- the arguments so far, with those that the rest of the number is, are all of them
abbrev pub invariant-each : goal.invariant-each
invariant-each l = record {
  tuples : l.tuples ≡ power l.lay.sizes (drop l.sort-index l.sorts);
  number : l.number < l.tuples;
  args : l.args.items ++ raised l.u.firsts (drop l.sort-index l.sorts) (tuple_at (map (count_of l.lay.sig l.lay.copies l.u) (drop l.sort-index l.sorts)) l.number)
      ≡ raised l.u.firsts l.sorts (tuple_at (map (count_of l.lay.sig l.lay.copies l.u) l.sorts) l.fn.number);
}
