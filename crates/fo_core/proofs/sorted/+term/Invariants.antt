use Rattle.std.proofs.Common.{ℕ, ◌<◌, get_or}
use Rattle.fo_core.specs.declared.term.Term.{Term}
use Rattle.fo_core.specs.Sorted.{IsTerm}
use Rattle.fo_core.proofs.sorted.+term.Given as goal

-- the terms before this one have their sorts
abbrev pub invariant-are_terms-each : goal.invariant-are_terms-each
invariant-are_terms-each l = (k : ℕ) (d : Term) (e : ℕ) → k < l.i → IsTerm l.sig l.copies (get_or l.terms k d) l.scope (get_or l.sorts k e)
