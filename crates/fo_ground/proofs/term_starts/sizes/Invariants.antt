use Rattle.std.proofs.Common.{ℕ, ◌≡◌, ◌<◌, length}
use Rattle.std.specs.Prelude.{slice_index}
use Rattle.fo_core.specs.TermCounts.{term_counts}
use Rattle.fo_ground.proofs.StartSteps.{counted_of}
use Rattle.fo_ground.proofs.term_starts.sizes.Given as goal

-- how many of the terms so far each sort has
abbrev pub invariant-each : goal.invariant-each
invariant-each l = record {
  len : length l.sizes.items ≡ l.sig.sorts;
  each : (s : ℕ) → s < l.sig.sorts → slice_index l.sizes.items s ≡ counted_of l.u.firsts (term_counts l.sig l.copies) l.term-index s;
}
