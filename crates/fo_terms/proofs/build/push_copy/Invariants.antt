use Rattle.std.proofs.Common.{◌≡◌, ◌++◌, map}
use Rattle.std.specs.List.{range_with_len}
use Rattle.fo_core.specs.Weights.{power}
use Rattle.fo_terms.specs.Blocks.{application}
use Rattle.fo_terms.proofs.build.push_copy.Given as goal

-- the applications so far
abbrev pub invariant-each : goal.invariant-each
invariant-each l = record {
  all : l.tuples ≡ power l.sizes.counts l.symbol.args;
  terms : l.terms ≡ l.fn.terms ++ map (application l.sizes.firsts l.sizes.counts l.number l.symbol l.copy) (range_with_len 0 l.tuple);
}
