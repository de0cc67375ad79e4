use Rattle.std.proofs.Common.{ℕ, ◌<◌}
use Rattle.fo_embed.specs.Placing.{Agrees}
use Rattle.fo_embed.proofs.agree.all_agree.Given as goal

-- the tables of the symbols before this one agree
abbrev pub invariant-each : goal.invariant-each
invariant-each l = (k : ℕ) → k < l.k → Agrees l.states.sig.now l.states.from.now l.states.from_copy l.states.to.now l.states.to_copy l.maps k
