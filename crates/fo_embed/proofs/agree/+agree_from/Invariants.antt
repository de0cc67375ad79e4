use Rattle.std.proofs.Common.{length, ℕ, ◌+◌, ◌*◌, ◌<◌, drop}
use Rattle.fo_core.specs.Embedding.{image}
use Rattle.fo_embed.specs.Asked.{AgreeFrom}
use Rattle.fo_embed.proofs.agree.+agree_from.Given as goal

abbrev pub decreases-agree_from : goal.decreases-agree_from
decreases-agree_from l = length l.sorts.now

-- the tables agree at all tuples that go on with an element before this one
abbrev pub invariant-each : goal.invariant-each
invariant-each l = (x : ℕ) → x < l.x →
    AgreeFrom l.states.from.now.sizes l.states.to.now.sizes l.maps l.tables.symbol.now l.tables.here.now l.tables.there.now (drop 1 l.sorts) (l.at * l.from_size + x) (l.to * l.to_size + image l.maps l.sort x)
