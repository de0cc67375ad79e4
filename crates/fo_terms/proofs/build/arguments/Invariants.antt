use Rattle.std.proofs.Common.{◌≡◌, ◌<◌, ◌++◌, drop}
use Rattle.fo_core.specs.Weights.{power}
use Rattle.fo_terms.specs.Blocks.{arguments_at}
use Rattle.fo_terms.proofs.build.arguments.Given as goal

-- the arguments so far, and those of what is left of the number
abbrev pub invariant-each : goal.invariant-each
invariant-each l = record {
  tuples : l.tuples ≡ power l.sizes.counts (drop l.sort-index l.sorts);
  below : l.number < l.tuples;
  args : l.args ++ arguments_at l.sizes.firsts l.sizes.counts (drop l.sort-index l.sorts) l.number ≡ arguments_at l.sizes.firsts l.sizes.counts l.sorts l.fn.number;
}
