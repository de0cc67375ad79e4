use Rattle.std.proofs.Common.{◌≡◌, ◌++◌, ◌<◌, map, drop}
use Rattle.std.specs.Prelude.{slice_index}
use Rattle.fo_core.specs.Weights.{power}
use Rattle.fo_ground.specs.Reading.{picked}
use Rattle.fo_ground.proofs.tables.tuple_heads.Given as goal
use Rattle.fo_core.specs.Tuples.{tuple_at}

-- the terms so far, with those that the rest of the number is, are all of them
abbrev pub invariant-each : goal.invariant-each
invariant-each l = record {
  tuples : l.tuples ≡ power l.classes.sizes (drop l.sort-index l.sorts);
  number : l.number < l.tuples;
  args : l.args.items ++ picked l.classes.heads (drop l.sort-index l.sorts) (tuple_at (map (slice_index l.classes.sizes) (drop l.sort-index l.sorts)) l.number)
      ≡ picked l.classes.heads l.sorts (tuple_at (map (slice_index l.classes.sizes) l.sorts) l.fn.number);
}
