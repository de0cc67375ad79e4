use Rattle.std.proofs.Common.{◌≡◌, ◌++◌}
use Rattle.std.specs.List.{flat_map, range_with_len}
use Rattle.fo_terms.specs.Blocks.{copy_block}
use Rattle.fo_terms.proofs.build.push_function.Given as goal

-- the applications in the copies so far
abbrev pub invariant-each : goal.invariant-each
invariant-each l = l.terms ≡ l.fn.terms ++ flat_map (copy_block l.sizes.firsts l.sizes.counts l.number l.symbol) (range_with_len 0 l.copy)
