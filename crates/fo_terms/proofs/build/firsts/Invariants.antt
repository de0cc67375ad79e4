use Rattle.std.proofs.Common.{ℕ, ◌≡◌, ◌<◌, length, get_or, take}
use Rattle.std.specs.Prelude.{slice_index}
use Rattle.fo_core.specs.Weights.{added}
use Rattle.fo_terms.proofs.build.firsts.Given as goal

-- the first places of the sorts so far, and the next one
abbrev pub invariant-each : goal.invariant-each
invariant-each l = record {
  len : length l.firsts.items ≡ length l.counts;
  next : l.next ≡ added (slice_index l.counts) (take l.sort-index l.ranked);
  placed : (j : ℕ) → j < l.sort-index → slice_index l.firsts.items (get_or l.ranked j 0) ≡ added (slice_index l.counts) (take j l.ranked);
}
