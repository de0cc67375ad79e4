use Rattle.std.proofs.Common.{◌≡◌, map, take}
use Rattle.fo_terms.specs.declared.ranking.Entry.{Entry}
use Rattle.fo_terms.proofs.ranking.ranked.Given as goal

-- the sorts of the entries so far
abbrev pub invariant-each : goal.invariant-each
invariant-each l = l.ranked.items ≡ map (λ (e : Entry). e.sort) (take l.entry-index l.entry-items)
