use Rattle.std.proofs.Common.{ℕ, ◌≡◌, ◌<◌, length, get_or}
use Rattle.std.specs.Prelude.{slice_index}
use Rattle.fo_norm.specs.Forms.{whole}
use Rattle.fo_core.specs.TermCounts.{term_counts}
use Rattle.fo_core.specs.QueryWeight.{cut}
use Rattle.fo_terms.proofs.counting.counts.Given as goal

-- the sorts so far have their counts
abbrev pub invariant-each : goal.invariant-each
invariant-each l = record {
  len : length l.counts.items ≡ l.sig.sorts;
  counted : (j : ℕ) → j < l.sort-index →
      slice_index l.counts.items (get_or l.sort-items j 0) ≡ cut (slice_index (term_counts (whole l.sig l.form) l.form.copies) (get_or l.sort-items j 0));
}
