use Rattle.std.proofs.Common.{◌≡◌, map}
use Rattle.std.specs.List.{range_with_len}
use Rattle.fo_terms.specs.Entries.{entry_of}
use Rattle.fo_terms.proofs.ranking.entries.Given as goal

abbrev pub invariant-each : goal.invariant-each
invariant-each l = l.entries.items ≡ map (entry_of l.numbers) (range_with_len 0 l.sort)
